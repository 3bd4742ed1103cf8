use Rattle.std.proofs.Common.{◌≡◌, ◌++◌, drop}
use Rattle.he_story.specs.Lost.{charges_of}
use Rattle.he_story.proofs.verdict.charges.Given as goal

abbrev pub invariant-loop-line : goal.invariant-loop-line
invariant-loop-line g l =
    l.found.items ++ charges_of l.recorded l.course (drop l.line-index l.lines)
    ≡ charges_of l.recorded l.course l.lines

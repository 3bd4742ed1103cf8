use Rattle.std.proofs.Common.{◌≡◌, drop}
use Rattle.he_story.specs.Story.{first_of}
use Rattle.he_story.proofs.closing.first_of.Given as goal

abbrev pub invariant-loop-line : goal.invariant-loop-line
invariant-loop-line l = first_of l.family (drop l.line-index l.lines) ≡ first_of l.family l.lines

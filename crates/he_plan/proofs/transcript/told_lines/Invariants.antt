use Rattle.std.proofs.Common.{◌≡◌, ◌++◌, drop}
use Rattle.he_plan.specs.Planning.{told_lines}
use Rattle.he_plan.proofs.transcript.told_lines.Given as goal

abbrev pub invariant-loop-i : goal.invariant-loop-i
invariant-loop-i g l = l.lines.items ++ told_lines l.stop l.winner (drop l.i l.attempts) (drop l.i l.fates) ≡ told_lines l.stop l.winner l.attempts l.fates

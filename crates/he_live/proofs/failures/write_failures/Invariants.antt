use Rattle.std.proofs.Common.{◌≡◌, ◌++◌, take}
use Rattle.he_live.specs.Reasons.{failure_lines}
use Rattle.he_live.proofs.failures.write_failures.Given as goal

abbrev pub invariant-loop-attempt : goal.invariant-loop-attempt
invariant-loop-attempt g l = l.out.items ≡ l.fn.out.items ++ failure_lines (take l.attempt-index l.failed)

use Rattle.std.proofs.Common.{◌≡◌, drop}
use Rattle.he_live.specs.Reasons.{first_local}
use Rattle.he_live.proofs.failures.first_local.Given as goal

abbrev pub invariant-loop-attempt : goal.invariant-loop-attempt
invariant-loop-attempt l = first_local l.failed ≡ first_local (drop l.attempt-index l.failed)

use Rattle.std.proofs.Common.{◌≡◌, drop}
use Rattle.he_plan.specs.Planning.{last_failure}
use Rattle.he_plan.proofs.transcript.last_failure.Given as goal

abbrev pub invariant-loop-fate : goal.invariant-loop-fate
invariant-loop-fate l = last_failure l.latest (drop l.fate-index l.fates) ≡ last_failure l.tick l.fates

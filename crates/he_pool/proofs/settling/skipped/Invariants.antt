use Rattle.std.proofs.Common.{◌≡◌, replicate}
use Rattle.he_plan.specs.declared.finish.Fate.TheVariants.{Skipped}
use Rattle.he_pool.proofs.settling.skipped.Given as goal

abbrev pub invariant-loop : goal.invariant-loop
invariant-loop g l = l.fates.items ≡ replicate l.counter Skipped

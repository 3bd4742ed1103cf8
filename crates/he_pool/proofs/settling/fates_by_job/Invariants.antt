use Rattle.std.proofs.Common.{◌≡◌, replicate, take}
use Rattle.he_plan.specs.declared.finish.Fate.TheVariants.{Skipped}
use Rattle.he_pool.specs.Working.{filled}
use Rattle.he_pool.proofs.settling.fates_by_job.Given as goal

abbrev pub invariant-loop-task : goal.invariant-loop-task
invariant-loop-task g l = l.fates.items ≡ filled (take l.task-index l.done) (replicate l.jobs Skipped)

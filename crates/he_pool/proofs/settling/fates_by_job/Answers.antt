use Rattle.he_pool.proofs.Handing.{filled_next}
use Rattle.he_pool.proofs.settling.fates_by_job.Goals as goal

pub loop-task-preserved : goal.loop-task-preserved
loop-task-preserved g c = filled_next c.args.done.now c.loop-task.task-index _ c.loop-task.fates.items _ _ c.loop-task-test.true c.loop-task.invariant c.put.ensures

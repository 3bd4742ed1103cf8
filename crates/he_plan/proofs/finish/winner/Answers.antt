use Rattle.he_plan.proofs.Finishing.{winner_step}
use Rattle.he_plan.proofs.finish.winner.Goals as goal

pub loop-place-preserved : goal.loop-place-preserved
loop-place-preserved c = winner_step c.args.fates.now c.loop-place.place _ c.loop-place.best c.next_winner-best.result c.loop-place-test.true c.next_winner-best.ensures c.loop-place.invariant

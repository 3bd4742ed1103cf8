use Rattle.he_plan.proofs.Stopped.{underway-sorted}
use Rattle.he_plan.proofs.race_state.RaceState.with_order.Goals as goal

pub returns-clause-underway : goal.returns-clause-underway
returns-clause-underway g c = λ race are. rw (c.new.ensures.items, c.new-2.ensures.items, c.new-3.ensures) (underway-sorted race c.args.sorted.items are)

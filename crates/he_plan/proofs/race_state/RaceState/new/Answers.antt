use Rattle.he_plan.proofs.Stopped.{underway-new}
use Rattle.he_plan.proofs.race_state.RaceState.new.Goals as goal

pub returns-clause-underway : goal.returns-clause-underway
returns-clause-underway g c = λ race. rw (c.new.ensures.items, c.new-2.ensures.items, c.new-4.ensures, c.new-3.ensures.items) (underway-new race)

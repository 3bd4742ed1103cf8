use Rattle.he_plan.proofs.Growing.{pause-below, pause-away, pauses-over}
use Rattle.he_plan.proofs.agreement.one_more_pause_above.Goals as goal

pub returns-clause-below : goal.returns-clause-below
returns-clause-below c = pause-below

pub returns-clause-away : goal.returns-clause-away
returns-clause-away c = pause-away

pub returns-clause-free : goal.returns-clause-free
returns-clause-free c = pauses-over

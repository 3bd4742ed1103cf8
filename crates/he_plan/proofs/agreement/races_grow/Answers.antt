use Rattle.he_plan.proofs.Growing.{empty-grows, answer-grows, outcome-grows, pause-grows, rtt-grows, used-grows}
use Rattle.he_plan.proofs.agreement.races_grow.Goals as goal

pub returns-clause-empty : goal.returns-clause-empty
returns-clause-empty c = empty-grows

pub returns-clause-answer : goal.returns-clause-answer
returns-clause-answer c = answer-grows

pub returns-clause-outcome : goal.returns-clause-outcome
returns-clause-outcome c = outcome-grows

pub returns-clause-pause : goal.returns-clause-pause
returns-clause-pause c = pause-grows

pub returns-clause-rtt : goal.returns-clause-rtt
returns-clause-rtt c = rtt-grows

pub returns-clause-used : goal.returns-clause-used
returns-clause-used c = used-grows

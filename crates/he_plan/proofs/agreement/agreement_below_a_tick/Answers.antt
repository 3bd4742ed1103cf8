use Rattle.he_plan.proofs.Agreeing.{alike-below, starts-below, in_turn-below, seen-below, known-below}
use Rattle.he_plan.proofs.agreement.agreement_below_a_tick.Goals as goal

pub returns-clause-starts : goal.returns-clause-starts
returns-clause-starts c = starts-below

pub returns-clause-attempts : goal.returns-clause-attempts
returns-clause-attempts c = in_turn-below

pub returns-clause-seen : goal.returns-clause-seen
returns-clause-seen c = seen-below

pub returns-clause-known : goal.returns-clause-known
returns-clause-known c = known-below

pub returns-clause-failed : goal.returns-clause-failed
returns-clause-failed c = alike-below

use Rattle.he_plan.proofs.Ends.{ends-alike, ends-in_turn}
use Rattle.he_plan.proofs.agreement.one_more_end.Goals as goal

pub returns-clause-attempts : goal.returns-clause-attempts
returns-clause-attempts c = ends-in_turn

pub returns-clause-failed : goal.returns-clause-failed
returns-clause-failed c = ends-alike

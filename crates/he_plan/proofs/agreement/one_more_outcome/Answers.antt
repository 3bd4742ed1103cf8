use Rattle.he_plan.proofs.Growing.{outcome-below, outcome-own, outcome-others}
use Rattle.he_plan.proofs.agreement.one_more_outcome.Goals as goal

pub returns-clause-below : goal.returns-clause-below
returns-clause-below c = outcome-below

pub returns-clause-own : goal.returns-clause-own
returns-clause-own c = outcome-own

pub returns-clause-others : goal.returns-clause-others
returns-clause-others c = outcome-others

use Rattle.he_plan.proofs.Lawful.{plan-one}
use Rattle.he_plan.proofs.laws.one_plan.Goals as goal

pub returns : goal.returns
returns c = plan-one

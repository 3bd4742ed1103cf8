use Rattle.he_plan.proofs.Stopping.{none_left-ends}
use Rattle.he_plan.proofs.laws.tried_out_ends.Goals as goal

pub returns : goal.returns
returns c = none_left-ends

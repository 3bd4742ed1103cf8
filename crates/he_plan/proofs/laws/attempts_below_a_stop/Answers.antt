use Rattle.he_plan.proofs.Lawful.{attempts-below}
use Rattle.he_plan.proofs.laws.attempts_below_a_stop.Goals as goal

pub returns : goal.returns
returns c = attempts-below

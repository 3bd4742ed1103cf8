use Rattle.he_plan.proofs.Stopping.{stopped-is}
use Rattle.he_plan.proofs.laws.transcript_below_a_stop.Goals as goal

pub returns : goal.returns
returns c = stopped-is

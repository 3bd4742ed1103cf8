use Rattle.he_plan.proofs.Lawful.{seen-free}
use Rattle.he_plan.proofs.laws.seen_at_free_ticks.Goals as goal

pub returns : goal.returns
returns c = seen-free

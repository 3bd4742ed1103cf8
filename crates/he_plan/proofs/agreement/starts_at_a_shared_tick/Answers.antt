use Rattle.he_plan.proofs.Agreeing.{starts-shared, order-shared}
use Rattle.he_plan.proofs.agreement.starts_at_a_shared_tick.Goals as goal

pub returns-clause-starts : goal.returns-clause-starts
returns-clause-starts c = starts-shared

pub returns-clause-order : goal.returns-clause-order
returns-clause-order c = order-shared

use Rattle.he_pool.proofs.Trying.{plans-set}
use Rattle.he_pool.proofs.plans.keep_plan.Goals as goal

pub returns-then-is_some-clause-plans : goal.returns-then-is_some-clause-plans
returns-then-is_some-clause-plans g c = λ races are is. plans-set races c.args.plans.now.items c.args.number c.args.plan are is

use Rattle.std.proofs.Common.{◌∙◌}
use Rattle.he_pool.proofs.plans.join_plans.Goals as goal

pub loop-number-preserved : goal.loop-number-preserved
loop-number-preserved g c = (
  c.keep_plan.ensures.len ∙ c.loop-number.invariant.0,
  c.take_plan-plan.ensures.len ∙ c.loop-number.invariant.1,
  λ races are others. (
    c.keep_plan.ensures.plans races (c.loop-number.invariant.2 races are others).0 (c.take_plan-plan.ensures.plan races (c.loop-number.invariant.2 races are others).1),
    c.take_plan-plan.ensures.plans races (c.loop-number.invariant.2 races are others).1,
  ),
)

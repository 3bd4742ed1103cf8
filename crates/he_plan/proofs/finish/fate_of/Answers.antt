use Rattle.he_plan.proofs.Finishing.{fate-in_time}
use Rattle.he_plan.proofs.finish.fate_of.Goals as goal

pub returns-clause-range : goal.returns-clause-range
returns-clause-range g c = fate-in_time c.args.timeline.now c.fate_by_limit.ensures.race c.args.attempt.now _ c.fate_by_limit.ensures.value

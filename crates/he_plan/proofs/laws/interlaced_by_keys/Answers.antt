use Rattle.he_plan.proofs.InterlacedByKeys.{interlaced, interlaced-one}
use Rattle.he_plan.proofs.laws.interlaced_by_keys.Goals as goal

pub returns : goal.returns
returns c = record { is = interlaced; only = interlaced-one }

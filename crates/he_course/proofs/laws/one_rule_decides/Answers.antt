use Rattle.he_course.proofs.OneRule.{one_rule}
use Rattle.he_course.proofs.laws.one_rule_decides.Goals as goal

pub returns : goal.returns
returns c = one_rule

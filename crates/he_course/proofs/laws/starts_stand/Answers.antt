use Rattle.he_course.proofs.StartLaws.{starts_stand}
use Rattle.he_course.proofs.laws.starts_stand.Goals as goal

pub returns : goal.returns
returns c = starts_stand

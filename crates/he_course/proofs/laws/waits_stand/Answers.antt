use Rattle.he_course.proofs.WaitLaws.{waits_stand}
use Rattle.he_course.proofs.laws.waits_stand.Goals as goal

pub returns : goal.returns
returns c = waits_stand

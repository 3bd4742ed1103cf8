use Rattle.he_course.proofs.LineEvents.{lines_stand}
use Rattle.he_course.proofs.laws.lines_stand.Goals as goal

pub returns : goal.returns
returns c = lines_stand

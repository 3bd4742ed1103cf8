use Rattle.he_course.proofs.CauseLaws.{causes_stand, dues_stand}
use Rattle.he_course.proofs.FloorCauses.{floors_stand}
use Rattle.he_course.proofs.laws.causes_stand.Goals as goal

pub returns-clause-causes : goal.returns-clause-causes
returns-clause-causes c = causes_stand

pub returns-clause-dues : goal.returns-clause-dues
returns-clause-dues c = dues_stand

pub returns-clause-floors : goal.returns-clause-floors
returns-clause-floors c = floors_stand

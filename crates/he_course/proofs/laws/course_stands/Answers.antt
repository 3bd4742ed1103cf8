use Rattle.he_course.proofs.CourseLaws.{course_stands}
use Rattle.he_course.proofs.laws.course_stands.Goals as goal

pub returns : goal.returns
returns c = course_stands

use Rattle.std.proofs.Common.{◌∙◌, subst}
use Rattle.he_course.specs.Course.{IsRecordedCourse}
use Rattle.he_c.proofs.Explained.{explanation_written}
use Rattle.he_c.proofs.telling.append_explanation.Goals as goal

pub returns : goal.returns
returns c =
    explanation_written c.write_explanation_json.result c.args.recorded.now c.args.race.now c.args.at.number c.args.at.line c.in_ok-course.course c.args.text.now.items c.write_explanation_json.new.out.items
    (subst (λ untried. IsRecordedCourse c.args.race.now untried c.args.at.number c.args.at.line c.in_ok-course.course)
    (c.deref.ensures.value ∙ c.in_ok-untried.ensures) c.in_ok-course.ensures)
    c.write_explanation_json.ensures.ok

use Rattle.std.proofs.Common.{◌∙◌, subst}
use Rattle.he_course.specs.Course.{IsRecordedCourse}
use Rattle.he_json.specs.Documents.{spot_of}
use Rattle.he_streaming.proofs.Printed.{of_course}
use Rattle.he_streaming.proofs.race_texts.Printer.write_course.Goals as goal

pub returns : goal.returns
returns g c =
    let place = spot_of c.args.place in
    of_course c.write.result c.args.self place c.args.recorded.now c.args.timeline.now c.in_ok-course.course c.args.text.now.items c.write.new.text.items
    (subst (λ untried. IsRecordedCourse c.args.timeline.now untried place.number place.line c.in_ok-course.course)
    (c.deref.ensures.value ∙ c.in_ok-untried.ensures) c.in_ok-course.ensures)
    c.write.ensures

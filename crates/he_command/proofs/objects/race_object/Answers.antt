use Rattle.std.proofs.Common.{List, None, ap, subst, ◌∙◌}
use Rattle.he_addr.specs.declared.ip.Ip.{Ip}
use Rattle.he_course.specs.Course.{IsRecordedCourse, course_times}
use Rattle.he_json.specs.Documents.{Appends, IsExplanationJson}
use Rattle.he_record.specs.Given.{untried_given}
use Rattle.he_record.specs.Said.{Said}
use Rattle.he_command.proofs.RaceObjects.{one_recorded}
use Rattle.he_command.proofs.Written.{written_first}
use Rattle.he_command.proofs.objects.race_object.Goals as goal

pub returns-in-Ok : goal.returns-in-Ok
returns-in-Ok c =
    let race = c.in_ok-race.race in
    let course = c.in_ok-course.course in
    let before = c.new-object.result.items in
    let after = c.write_explanation_json.new.out.items in
    let recorded = one_recorded c.args.text.now race c.in_ok-race.ensures in
    let same = c.in_ok-recorded.ensures recorded.0 race recorded.1 in
    let untried = c.deref.ensures.value ∙ c.in_ok-untried.ensures ∙ ap untried_given same in
    let appends =
    subst (λ (said : List Said). Appends (IsExplanationJson (record { file = None; number = course.number; line = course.line }) said (course_times course) course.addresses.items course.events.items) before after) same c.in-Ok.ensures.ok in
    record {
      race = race;
      said = recorded.0;
      course = course;
      reads = recorded.1;
      is_course = subst (λ (ips : List Ip). IsRecordedCourse race ips 1 1 course) untried c.in_ok-course.ensures;
      is_object = written_first _ before after c.new-object.ensures.items appends;
    }

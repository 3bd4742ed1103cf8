use Rattle.std.proofs.Common.{List, ap, subst, ◌∙◌}
use Rattle.he_addr.specs.declared.ip.Ip.{Ip}
use Rattle.he_course.specs.Course.{IsRecordedCourse}
use Rattle.he_record.specs.Given.{untried_given}
use Rattle.he_command.proofs.RaceObjects.{one_recorded}
use Rattle.he_command.proofs.check.judge.Goals as goal

pub returns : goal.returns
returns c =
    let race = c.in_ok-race.race in
    let course = c.in_ok-course.course in
    let recorded = one_recorded c.args.text.now race c.in_ok-race.ensures in
    let same = c.in_ok-recorded.ensures recorded.0 race recorded.1 in
    let untried = c.deref.ensures.value ∙ c.in_ok-untried.ensures ∙ ap untried_given same in
    record {
      race = race;
      said = recorded.0;
      course = course;
      reads = recorded.1;
      is_course = subst (λ (ips : List Ip). IsRecordedCourse race ips 1 1 course) untried c.in_ok-course.ensures;
      status_is = c.status_of-status.ensures;
    }

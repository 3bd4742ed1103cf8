use Rattle.he_course.proofs.SoonerLaws.{not_sooner}
use Rattle.he_course.proofs.floor.end_with_floor.Goals as goal

pub returns-then-is_floored : goal.returns-then-is_floored
returns-then-is_floored g c told =
    (c.args.transcript.now, c.is_floored.ensures c.if-is_floored.true told, not_sooner c.args.timeline.now c.args.transcript.now)

use Rattle.std.proofs.Common.{sym, ◌∙◌, ap}
use Rattle.he_course.specs.Beginning.{begins_unfailing}
use Rattle.he_course.proofs.LeastFloor.{floor_free}
use Rattle.he_course.proofs.floor.is_floored.Goals as goal

pub returns : goal.returns
returns g c is told =
    floor_free c.args.timeline.now c.args.transcript.now
    (sym (c.begins_unfailing.ensures ∙ ap (begins_unfailing c.args.timeline.now) c.attempts.ensures) ∙ is)
    told

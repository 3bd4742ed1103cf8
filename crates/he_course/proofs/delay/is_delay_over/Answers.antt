use Rattle.std.proofs.Common.{◌∙◌, sym}
use Rattle.he_course.proofs.DelayLaws.{delay_over_in}
use Rattle.he_course.proofs.delay.is_delay_over.Goals as goal

pub returns : goal.returns
returns g c = (rw (c.end_tick.ensures, c.result.ensures) at c.is_over_by.ensures) ∙ sym (delay_over_in c.args.timeline.now c.args.transcript.now)

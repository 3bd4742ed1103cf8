use Rattle.std.proofs.Common.{◌∙◌, ap}
use Rattle.he_failures.specs.Failures.{all_noted, last_failure}
use Rattle.he_failures.proofs.Noted.{one_more}
use Rattle.he_failures.proofs.failures.note_last.Goals as goal

pub loop-event-preserved : goal.loop-event-preserved
loop-event-preserved c =
    one_more last_failure c.args.events.now c.loop-event.event-index _ c.args.failed.now.items c.loop-event.failed.items c.note.new.failed.items
    c.loop-event-test.true c.loop-event.invariant
    (c.in_ok-note.ensures ∙ ap (λ x. all_noted c.loop-event.failed.items x) c.last_failure.ensures)

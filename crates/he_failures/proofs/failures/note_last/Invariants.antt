use Rattle.std.proofs.Common.{◌≡◌, drop}
use Rattle.he_failures.specs.Failures.{last_failure, noted_all}
use Rattle.he_failures.proofs.failures.note_last.Given as goal

abbrev pub invariant-loop-event : goal.invariant-loop-event
invariant-loop-event l =
    noted_all last_failure l.failed.items (drop l.event-index l.events) ≡ noted_all last_failure l.fn.failed.items l.events

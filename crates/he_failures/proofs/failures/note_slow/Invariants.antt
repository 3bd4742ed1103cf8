use Rattle.std.proofs.Common.{◌≡◌, drop}
use Rattle.he_failures.specs.Failures.{noted_all, slow_failure}
use Rattle.he_failures.proofs.failures.note_slow.Given as goal

abbrev pub invariant-loop-event : goal.invariant-loop-event
invariant-loop-event l =
    noted_all (slow_failure l.events) l.failed.items (drop l.event-index l.events) ≡ noted_all (slow_failure l.events) l.fn.failed.items l.events

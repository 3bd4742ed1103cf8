use Rattle.std.proofs.Common.{◌≡◌, ◌++◌, drop}
use Rattle.he_course.specs.Events.{pause_events}
use Rattle.he_course.proofs.collecting.push_pauses.Given as goal

abbrev pub invariant-loop-pause : goal.invariant-loop-pause
invariant-loop-pause g l = l.events.items ++ pause_events (drop l.pause-index l.pauses) ≡ l.initial.events.items ++ pause_events l.pauses

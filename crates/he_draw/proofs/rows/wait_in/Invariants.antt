use Rattle.std.proofs.Common.{◌≡◌, drop}
use Rattle.he_draw.specs.Rows.{wait_in}
use Rattle.he_draw.proofs.rows.wait_in.Given as goal

abbrev pub invariant-loop-event : goal.invariant-loop-event
invariant-loop-event l = wait_in (drop l.event-index l.events) ≡ wait_in l.events

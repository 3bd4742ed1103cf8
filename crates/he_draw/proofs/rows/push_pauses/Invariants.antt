use Rattle.std.proofs.Common.{◌≡◌, ◌++◌, drop}
use Rattle.std.specs.List.{flat_map}
use Rattle.he_draw.specs.Rows.{pause_rows}
use Rattle.he_draw.proofs.rows.push_pauses.Given as goal

abbrev pub invariant-loop-event : goal.invariant-loop-event
invariant-loop-event g l =
    l.rows.items ++ flat_map (λ event. pause_rows event.tick event.kind) (drop l.event-index l.events)
    ≡ l.fn.rows.items ++ flat_map (λ event. pause_rows event.tick event.kind) l.events

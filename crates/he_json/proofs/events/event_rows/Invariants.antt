use Rattle.std.proofs.Common.{◌≡◌, ◌++◌, drop, map}
use Rattle.std.specs.List.{flat_map}
use Rattle.he_json.specs.Facts.{event_facts}
use Rattle.he_json.specs.Json.{fact_of}
use Rattle.he_json.proofs.events.event_rows.Given as goal

abbrev pub invariant-loop-event : goal.invariant-loop-event
invariant-loop-event g l =
    map (λ row. flat_map fact_of row.items) l.rows.items ++ map event_facts (drop l.event-index l.events) ≡ map event_facts l.events

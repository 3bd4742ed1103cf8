use Rattle.std.proofs.Common.{◌≡◌, ◌++◌, drop, map}
use Rattle.std.specs.List.{flat_map}
use Rattle.he_json.specs.Facts.{placed_facts}
use Rattle.he_json.specs.Json.{fact_of}
use Rattle.he_json.proofs.order.place_rows.Given as goal

abbrev pub invariant-loop-place : goal.invariant-loop-place
invariant-loop-place g l =
    map (λ row. flat_map fact_of row.items) l.rows.items ++ placed_facts l.place (drop l.place l.sorted) ≡ placed_facts 0 l.sorted

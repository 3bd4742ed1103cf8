use Rattle.std.proofs.Common.{◌≡◌, ◌++◌, drop, map}
use Rattle.std.specs.Prelude.{None}
use Rattle.std.specs.List.{flat_map}
use Rattle.he_json.specs.Facts.{preferred_facts}
use Rattle.he_json.specs.Json.{fact_of}
use Rattle.he_json.proofs.order.preferred_rows.Given as goal

abbrev pub invariant-loop-place : goal.invariant-loop-place
invariant-loop-place g l =
    map (λ row. flat_map fact_of row.items) l.rows.items ++ preferred_facts l.place l.before (drop l.place l.addresses) ≡ preferred_facts 0 None l.addresses

use Rattle.std.proofs.Common.{◌≡◌, ◌++◌, drop, map}
use Rattle.std.specs.List.{flat_map}
use Rattle.he_json.specs.Json.{fact_of}
use Rattle.he_json.specs.Machine.{route_facts}
use Rattle.he_json.proofs.machine.route_rows.Given as goal

abbrev pub invariant-loop-route : goal.invariant-loop-route
invariant-loop-route g l =
    map (λ row. flat_map fact_of row.items) l.rows.items ++ map route_facts (drop l.route-index l.routes) ≡ map route_facts l.routes

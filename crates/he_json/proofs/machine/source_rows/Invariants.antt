use Rattle.std.proofs.Common.{◌≡◌, ◌++◌, drop, map}
use Rattle.std.specs.List.{flat_map}
use Rattle.he_json.specs.Json.{fact_of}
use Rattle.he_json.specs.Machine.{source_facts}
use Rattle.he_json.proofs.machine.source_rows.Given as goal

abbrev pub invariant-loop-source : goal.invariant-loop-source
invariant-loop-source g l =
    map (λ row. flat_map fact_of row.items) l.rows.items ++ map source_facts (drop l.source-index l.sources) ≡ map source_facts l.sources

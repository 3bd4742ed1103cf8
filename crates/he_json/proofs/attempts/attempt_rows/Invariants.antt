use Rattle.std.proofs.Common.{◌≡◌, ◌++◌, drop, map}
use Rattle.std.specs.List.{flat_map}
use Rattle.he_json.specs.Facts.{attempt_facts}
use Rattle.he_json.specs.Json.{fact_of}
use Rattle.he_json.proofs.attempts.attempt_rows.Given as goal

abbrev pub invariant-loop-line : goal.invariant-loop-line
invariant-loop-line g l =
    map (λ row. flat_map fact_of row.items) l.rows.items ++ map attempt_facts (drop l.line-index l.lines) ≡ map attempt_facts l.lines

use Rattle.std.proofs.Common.{◌≡◌, ◌++◌, drop}
use Rattle.std.specs.List.{flat_map}
use Rattle.he_probing.specs.Json.{next_json}
use Rattle.he_probing.proofs.json.write_more.Given as goal

abbrev pub invariant-loop-row : goal.invariant-loop-row
invariant-loop-row l =
    l.out.items ++ flat_map (next_json l.timeout) (drop l.row-index l.rows)
    ≡ l.fn.out.items ++ flat_map (next_json l.timeout) l.rows

use Rattle.std.proofs.Common.{◌≡◌, ◌++◌, [], drop, map}
use Rattle.he_json.specs.Json.{object_text, parted}
use Rattle.he_json.proofs.members.write_rows.Given as goal

abbrev pub invariant-loop-row : goal.invariant-loop-row
invariant-loop-row g l =
    l.text.items ++ parted l.gap (map object_text (map (λ row. row.items) (drop l.row-index l.rows)))
    ≡ l.initial.text.items ++ parted [] (map object_text (map (λ row. row.items) l.rows))

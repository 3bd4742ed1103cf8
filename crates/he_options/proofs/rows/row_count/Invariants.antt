use Rattle.std.proofs.Common.{◌≡◌, drop, map, max}
use Rattle.he_options.specs.Rows.{row_count}
use Rattle.he_options.proofs.rows.row_count.Given as goal

abbrev pub invariant-loop-text : goal.invariant-loop-text
invariant-loop-text l =
    max l.rows (row_count (map (λ text. text.now) (drop l.text-index l.texts)))
    ≡ row_count (map (λ text. text.now) l.texts)

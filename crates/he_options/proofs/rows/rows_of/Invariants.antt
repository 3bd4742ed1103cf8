use Rattle.std.proofs.Common.{◌≡◌, map, string_bytes}
use Rattle.he_options.specs.Rows.{AreFirstRows, first_labels}
use Rattle.he_options.proofs.rows.rows_of.Given as goal

abbrev pub invariant-loop-row : goal.invariant-loop-row
invariant-loop-row l =
    AreFirstRows l.row (map (λ text. text.now) l.texts) l.changes.items
    × (map string_bytes l.labels.items ≡ first_labels l.row (map (λ text. text.now) l.texts))

use Rattle.std.proofs.Common.{◌≡◌, map, string_bytes, take}
use Rattle.he_options.specs.Rows.{text_in}
use Rattle.he_options.proofs.rows.texts_in.Given as goal

abbrev pub invariant-loop-text : goal.invariant-loop-text
invariant-loop-text l =
    map string_bytes l.made.items ≡ map (text_in l.row) (map (λ text. text.now) (take l.text-index l.texts))

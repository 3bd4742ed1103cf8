use Rattle.std.proofs.Common.{◌≡◌, map, string_bytes, take}
use Rattle.he_options.proofs.rows.words_of.Given as goal

abbrev pub invariant-loop-text : goal.invariant-loop-text
invariant-loop-text l = map (λ word. word.now) l.words.items ≡ map string_bytes (take l.text-index l.texts)

use Rattle.std.proofs.Common.{ℕ, List, ◌++◌, ◌∙◌, ap, codes}
use Rattle.he_print.specs.Escaping.{string_text}
use Rattle.he_record.specs.Words.{family_spelling, lookup_spelling}
use Rattle.he_json.proofs.WriteLaws.{five_ok}
use Rattle.he_json.proofs.recorded.write_lookup.Goals as goal

pub returns : goal.returns
returns g c =
    five_ok c.write_words-3.result c.args.text.now.items c.write_words.new.text.items c.write_string.new.text.items c.write_words-2.new.text.items c.write_string-2.new.text.items c.write_words-3.new.text.items
    (codes "{\"family\":") (string_text (family_spelling c.args.family)) (codes ",\"reason\":") (string_text (lookup_spelling c.args.reason)) (codes "}")
    c.in_ok-write_words.ensures
    (c.in_ok-write_string.ensures ∙ ap (λ (w : List ℕ). c.write_words.new.text.items ++ string_text w) c.family_word.ensures)
    c.in_ok-write_words-2.ensures
    (c.in_ok-write_string-2.ensures ∙ ap (λ (w : List ℕ). c.write_words-2.new.text.items ++ string_text w) (c.as_bytes.ensures.value ∙ c.spelling.ensures))
    c.write_words-3.ensures

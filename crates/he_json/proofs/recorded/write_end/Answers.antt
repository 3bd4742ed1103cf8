use Rattle.std.proofs.Common.{ℕ, List, ◌++◌, ◌∙◌, ap, codes, decimal}
use Rattle.he_print.specs.Escaping.{string_text}
use Rattle.he_record.specs.Said.{EndSaid, ticks_of, word_said}
use Rattle.he_record.specs.Words.{word_spelling}
use Rattle.he_json.proofs.WriteLaws.{five_ok}
use Rattle.he_json.proofs.recorded.write_end.Goals as goal

pub returns : goal.returns
returns g c =
    five_ok c.write_words-3.result c.args.text.now.items c.write_words.new.text.items c.write_string.new.text.items c.write_words-2.new.text.items c.write_number.new.out.items c.write_words-3.new.text.items
    (codes ",\"client\":{\"end\":") (string_text (word_spelling (word_said (EndSaid c.args.end)))) (codes ",\"ms\":") (decimal (ticks_of c.args.end)) (codes "}")
    c.in_ok-write_words.ensures
    (c.in_ok-write_string.ensures ∙ ap (λ (w : List ℕ). c.write_words.new.text.items ++ string_text w) (c.as_bytes.ensures.value ∙ c.spelling.ensures ∙ ap word_spelling c.word.ensures))
    c.in_ok-write_words-2.ensures
    (c.in_ok-write_number.ensures.ok ∙ ap (λ (n : ℕ). c.write_words-2.new.text.items ++ decimal n) c.ticks.ensures)
    c.write_words-3.ensures

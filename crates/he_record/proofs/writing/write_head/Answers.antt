use Rattle.std.proofs.Common.{List, ℕ, ◌∷◌, ◌∙◌, subst}
use Rattle.he_words.specs.Appending.{AppendsText}
use Rattle.he_words.proofs.Appending.{writes_then}
use Rattle.he_record.specs.Words.{first_token, word_spelling}
use Rattle.he_record.proofs.writing.write_head.Goals as goal

pub returns : goal.returns
returns g c =
    let P : List ℕ → Type 0 = λ word. AppendsText c.write_one.result c.write_bytes.new.out.items c.write_one.new.out.items (32 ∷ word) in
    writes_then c.args.out.now.items c.write_bytes.new.out.items c.write_one.new.out.items first_token (32 ∷ word_spelling c.args.word) c.write_one.result
    c.in_ok-write_bytes.ensures.ok (subst P (c.as_bytes.ensures.value ∙ c.spelling.ensures) c.write_one.ensures)

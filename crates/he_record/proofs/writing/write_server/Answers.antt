use Rattle.std.proofs.Common.{List, ℕ, [], ◌∷◌, ◌++◌, decimal, ◌∙◌, ap, subst}
use Rattle.he_addr.specs.Printing.{printed}
use Rattle.he_words.specs.Appending.{AppendsText}
use Rattle.he_words.proofs.Appending.{writes_then}
use Rattle.he_record.specs.Words.{server_spelling}
use Rattle.he_record.specs.Writing.{spaced}
use Rattle.he_record.proofs.WrittenLines.{two_and_one}
use Rattle.he_record.proofs.writing.write_server.Goals as goal

pub returns : goal.returns
returns g c =
    let one : List ℕ = printed c.args.ip in
    let two : List ℕ = server_spelling c.args.reason in
    let three : List ℕ = decimal c.args.ticks in
    let P : List ℕ → Type 0 = AppendsText c.write_one.result c.args.out.now.items c.write_one.new.out.items in
    subst P (two_and_one one two three)
    (writes_then c.args.out.now.items c.write_two.new.out.items c.write_one.new.out.items (spaced (one ∷ two ∷ [])) (32 ∷ three) c.write_one.result
    (c.in_ok-write_two.ensures ∙ ap (λ (reason : List ℕ). c.args.out.now.items ++ spaced (one ∷ reason ∷ [])) (c.as_bytes.ensures.value ∙ c.spelling.ensures))
    c.write_one.ensures)

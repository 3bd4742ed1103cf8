use Rattle.std.proofs.Common.{◌+◌, ◌∷◌, ℕ, List, take, sym, ◌∙◌, ap}
use Rattle.std.proofs.lemmas.List.{take_rest}
use Rattle.he_reading.specs.Parts.{tokens_of}
use Rattle.he_reading.proofs.PartLaws.{first_byte, parts_found, parts_whole}
use Rattle.he_record.specs.Left.{tokens_in}
use Rattle.he_record.proofs.tokens.Tokens.next.Goals as goal

pub returns-in-Some : goal.returns-in-Some
returns-in-Some c =
    let rest : List ℕ = c.in_ok-rest.rest.now in
    let at : ℕ = c.in-Some.at in
    let near = sym (first_byte 32 rest c.memchr.result c.memchr.ensures) ∙ c.in-Some.is in
    ap tokens_in c.in_ok-rest.was ∙ parts_found 32 rest at near
    ∙ ap (λ (more : List ℕ). take at rest ∷ tokens_of more) (sym (take_rest rest (at + 1)))

pub returns-in-None : goal.returns-in-None
returns-in-None c =
    let rest : List ℕ = c.in_ok-rest.rest.now in
    let none = sym (first_byte 32 rest c.memchr.result c.memchr.ensures) ∙ c.in-None.is in
    ap tokens_in c.in_ok-rest.was ∙ parts_whole 32 rest none

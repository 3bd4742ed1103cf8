use Rattle.std.proofs.Common.{ℕ, ◌==◌, List, Ok, length, refl, sym, ◌∙◌, ap}
use Rattle.std.specs.List.{starts_with}
use Rattle.std.proofs.lemmas.List.{take_rest}
use Rattle.he_reading.specs.Left.{line_bytes, all_but}
use Rattle.he_reading.specs.Parts.{tokens_of}
use Rattle.he_reading.proofs.WordLines.{word_behind}
use Rattle.he_reading.proofs.parts.TextLine.behind_word.Goals as goal

pub returns : goal.returns
returns c =
    let text : List ℕ = c.args.self.text.now in
    let line : List ℕ = line_bytes c.args.self in
    word_behind c.args.word c.args.self.behind text line c.args.spelled.now refl c.requires
    (sym c.if-not-starts_with.false ∙ c.starts_with.ensures.value ∙ ap (λ (front : List ℕ). starts_with (λ a b. a == b) front c.args.spelled.now) c.bytes.ensures)
    ∙ ap (λ (rest : List ℕ). Ok (c.args.word, tokens_of (all_but c.args.self.behind rest))) (sym (take_rest text (length c.args.spelled.now)))

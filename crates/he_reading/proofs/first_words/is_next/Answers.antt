use Rattle.std.proofs.Common.{rules, ◌≡◌, ℕ, List, Bor, ◌==◌, ◌∙◌, ap, sym}
use Rattle.std.specs.List.{starts_with}
use Rattle.he_reading.specs.Faults.{is_next}
use Rattle.he_reading.specs.Left.{line_bytes, lines_left}
use Rattle.he_reading.specs.Parts.{lines_of}
use Rattle.he_words.specs.Words.{spelling_of}
use Rattle.he_reading.proofs.NextLines.{next_begins, none_begins, none_whole}
use Rattle.he_reading.proofs.first_words.is_next.Goals as goal

pub returns-then-not-starts_with : goal.returns-then-not-starts_with
returns-then-not-starts_with c =
    let spelled : c.as_bytes.result.now ≡ spelling_of c.args.word = search rules in
    sym (none_begins c.args.word c.args.rest.now (ap (λ (word : List ℕ). starts_with (λ a b. a == b) c.args.rest.now word) (sym spelled) ∙ sym c.starts_with.ensures.value ∙ c.if-not-starts_with.true))

pub returns-in-Ok : goal.returns-in-Ok
returns-in-Ok c =
    c.begins_with.ensures
    ∙ sym (next_begins c.args.word (lines_left c.new.result) (lines_of c.in-Ok.field-0-1.now) (line_bytes c.in-Ok.line) c.in-Ok.ensures.parts c.in-Ok.ensures.whole)
    ∙ ap (λ (rest : Bor (List ℕ)). is_next c.args.word (lines_of rest.now)) c.new.ensures.rest

pub returns-in-Err : goal.returns-in-Err
returns-in-Err c =
    sym (none_whole c.args.word (lines_left c.new.result) c.in-Err.field-0 c.in-Err.ensures.whole)
    ∙ ap (λ (rest : Bor (List ℕ)). is_next c.args.word (lines_of rest.now)) c.new.ensures.rest

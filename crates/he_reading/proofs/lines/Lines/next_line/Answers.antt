use Rattle.std.proofs.Common.{ℕ, ◌≡◌, ◌+◌, ◌-◌, ◌<◌, ◌≤◌, ◌==◌, ◌∷◌, List, length, take, drop, position, sym, ◌∙◌, ap, arith}
use Rattle.std.proofs.lemmas.List.{take_all, take_rest, length-take}
use Rattle.he_words.specs.declared.limits.TheConstants.{MAX_LINE}
use Rattle.he_reading.specs.Left.{lines_left}
use Rattle.he_reading.specs.Parts.{lines_of}
use Rattle.he_reading.proofs.PartLaws.{near_found, near_missed, parts_found, parts_whole}
use Rattle.he_reading.proofs.ReadingLaws.{wholeness_of, too_long, unended}
use Rattle.he_reading.proofs.lines.Lines.next_line.Goals as goal

pub returns-in-Some-clause-parts : goal.returns-in-Some-clause-parts
returns-in-Some-clause-parts c =
    let text : List ℕ = c.args.self.now.rest.now in
    let at : ℕ = c.in-Some.at in
    let near = near_found 10 c.min-near.result text at (sym c.in-Some.ensures) in
    parts_found 10 text at near.0
    ∙ ap (λ (rest : List ℕ). take at text ∷ lines_of rest) (sym (take_rest text (at + 1)))
    ∙ ap (λ (line : List ℕ). line ∷ lines_of (take (length text - (at + 1)) (drop (at + 1) text))) (sym c.new.ensures)

pub returns-in-Some-clause-whole : goal.returns-in-Some-clause-whole
returns-in-Some-clause-whole c =
    let text : List ℕ = c.args.self.now.rest.now in
    let at : ℕ = c.in-Some.at in
    let near = near_found 10 c.min-near.result text at (sym c.in-Some.ensures) in
    let short : length (take at text) ≤ MAX_LINE = omega (arith, near.1, c.min-near.ensures, length-take at text) in
    wholeness_of (lines_left c.args.self.now) (take at text) (drop (at + 1) text) 10 (parts_found 10 text at near.0) short

pub returns-in-None-clause-whole : goal.returns-in-None-clause-whole
returns-in-None-clause-whole c =
    let text : List ℕ = c.args.self.now.rest.now in
    let within : c.min-near.result ≤ length text = omega (arith, c.min-near.ensures) in
    let far = near_missed 10 c.min-near.result text within (sym c.in-None.ensures) in
    let long : MAX_LINE < length far.0 = omega (arith, far.3, c.min-near.ensures, c.if-self-gt-MAX_LINE.true) in
    too_long (lines_left c.args.self.now) far.1 far.0 far.2 long

pub returns-in-None-2-clause-whole : goal.returns-in-None-2-clause-whole
returns-in-None-2-clause-whole c =
    let text : List ℕ = c.args.self.now.rest.now in
    let short : length text ≤ MAX_LINE = omega (arith, c.if-self-gt-MAX_LINE.false) in
    let all : take c.min-near.result text ≡ text = take_all c.min-near.result text (omega (arith, c.min-near.ensures)) in
    unended (lines_left c.args.self.now) text (parts_whole 10 text (sym (c.in-None-2.ensures ∙ ap (λ (t : List ℕ). position (λ b. b == 10) t) all))) short

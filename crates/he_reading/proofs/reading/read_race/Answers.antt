use Rattle.std.proofs.Common.{rules, ◌≡◌, ℕ, ◌-◌, List, length, drop, sym, ◌∙◌, ap, subst}
use Rattle.std.proofs.lemmas.List.{take_rest}
use Rattle.he_words.specs.declared.fault.TextKind.TheVariants as kinds
use Rattle.he_reading.specs.FaultSearch.{fault_of}
use Rattle.he_reading.specs.Parts.{lines_of}
use Rattle.he_reading.specs.Reading.{FailsAt, read_lines}
use Rattle.he_reading.specs.Text.{TellsFault}
use Rattle.he_reading.proofs.CompletePlaces.{found_is, not_at_end, only_memory}
use Rattle.he_reading.proofs.FaultTexts.{tells_fault, no_fault, race_at}
use Rattle.he_reading.proofs.reading.read_race.Goals as goal

pub returns-in_err-race-clause-fault : goal.returns-in_err-race-clause-fault
returns-in_err-race-clause-fault g c =
    let text : List ℕ = drop c.args.from c.args.text.now in
    let P : List ℕ → Type 0 = λ t. FailsAt c.in_err-race.field-0.0.line c.in_err-race.field-0.0.kind (read_lines (lines_of t)) in
    let fails : P text = subst P (take_rest c.args.text.now c.args.from) c.in_err-race.ensures.read in
    let tells : TellsFault c.in_err-race.field-0.0.line c.in_err-race.field-0.0.kind (fault_of text) = tells_fault c.in_err-race.field-0.0.line c.in_err-race.field-0.0.kind (lines_of text) fails in
    search rules

pub returns-clause-found : goal.returns-clause-found
returns-clause-found g c =
    let got = c.in_ok-race.ensures.read in
    race_at c.args.text.now got.rest c.in_ok-race.race c.args.from c.in_ok-race.left c.requires got.counted (ap (λ (t : List ℕ). read_lines (lines_of t)) (sym (take_rest c.args.text.now c.args.from)) ∙ got.read) c.in_ok-race.ensures.fits

pub returns-clause-right : goal.returns-clause-right
returns-clause-right g c =
    let got = c.in_ok-race.ensures.read in
    no_fault (lines_of (drop c.args.from c.args.text.now)) (c.in_ok-race.race, lines_of got.rest) (ap (λ (t : List ℕ). read_lines (lines_of t)) (sym (take_rest c.args.text.now c.args.from)) ∙ got.read)

pub returns-in_err-race-clause-complete : goal.returns-in_err-race-clause-complete
returns-in_err-race-clause-complete g c = λ end race within is.
    let text : List ℕ = drop c.args.from c.args.text.now in
    let P : List ℕ → Type 0 = λ t. FailsAt c.in_err-race.field-0.0.line c.in_err-race.field-0.0.kind (read_lines (lines_of t)) in
    let fails : P text = subst P (take_rest c.args.text.now c.args.from) c.in_err-race.ensures.read in
    let tells : TellsFault c.in_err-race.field-0.0.line c.in_err-race.field-0.0.kind (fault_of text) = tells_fault c.in_err-race.field-0.0.line c.in_err-race.field-0.0.kind (lines_of text) fails in
    let memory : c.in_err-race.field-0.0.kind ≡ kinds.Memory = only_memory c.args.text.now c.args.from end c.in_err-race.field-0.0.line c.in_err-race.field-0.0.kind race is tells in
    search rules

pub returns-clause-complete : goal.returns-clause-complete
returns-clause-complete g c = λ end race within is.
    let got = c.in_ok-race.ensures.read in
    let found = race_at c.args.text.now got.rest c.in_ok-race.race c.args.from c.in_ok-race.left c.requires got.counted (ap (λ (t : List ℕ). read_lines (lines_of t)) (sym (take_rest c.args.text.now c.args.from)) ∙ got.read) c.in_ok-race.ensures.fits in
    found_is c.args.text.now c.args.from end (length c.args.text.now - c.in_ok-race.left) race c.in_ok-race.race within is found.0 found.1 found.2

pub returns-then-from-text-clause-complete : goal.returns-then-from-text-clause-complete
returns-then-from-text-clause-complete g c = λ end race within is. absurd (not_at_end c.args.text.now c.args.from end race within is c.if-from-text.true)

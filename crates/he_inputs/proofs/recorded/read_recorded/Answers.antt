use Rattle.std.proofs.Common.{ℕ, ◌+◌, ◌-◌, ◌≤◌, List, arith, drop, length, subst, take}
use Rattle.std.proofs.lemmas.List.{take_rest}
use Rattle.he_reading.specs.FaultSearch.{fault_of}
use Rattle.he_reading.specs.Parts.{lines_of}
use Rattle.he_reading.specs.Text.{IsLineOf, TellsFault}
use Rattle.he_reading.proofs.FaultTexts.{tells_fault}
use Rattle.he_inputs.proofs.RaceReadingLaws.{few_lines, line_on, line_small, lines_said, race_fails, recorded_first}
use Rattle.he_inputs.proofs.recorded.read_recorded.Goals as goal

pub returns-in-Ok-read_first-clause-read : goal.returns-in-Ok-read_first-clause-read
returns-in-Ok-read_first-clause-read g c =
    let told = c.in-Ok.found.0 in
    recorded_first c.args.text.now c.in-Ok.found.1 c.in-Ok-read_first.left (length c.lines.result.now) c.in-Ok-read_first.lines told c.in-Ok-read_first.race c.in-Ok.ensures.within c.in-Ok.ensures.found
    (lines_said c.lines.result.now told c.lines.ensures.value) c.in-Ok-read_first.ensures.read c.in-Ok-read_first.ensures.fits

pub overflow_add-result : goal.overflow_add-result
overflow_add-result g c =
    let told = c.in-Ok.found.0 in
    let read = recorded_first c.args.text.now c.in-Ok.found.1 c.in-Ok-read_first.left (length c.lines.result.now) c.in-Ok-read_first.lines told c.in-Ok-read_first.race c.in-Ok.ensures.within c.in-Ok.ensures.found
    (lines_said c.lines.result.now told c.lines.ensures.value) c.in-Ok-read_first.ensures.read c.in-Ok-read_first.ensures.fits in
    let few : length c.lines.result.now + c.in-Ok-read_first.lines ≤ length c.args.text.now =
    few_lines c.args.text.now told c.in-Ok-read_first.race c.in-Ok-read_first.left (length c.lines.result.now + c.in-Ok-read_first.lines) read in
    let most = c.requires in
    omega (arith, few, most)

pub overflow_add-result-in-Err-read_first : goal.overflow_add-result-in-Err-read_first
overflow_add-result-in-Err-read_first g c =
    let text = c.args.text.now in
    let told = c.in-Ok.found.0 in
    let IsLine : List ℕ → Type 0 = λ rest. IsLineOf rest c.in-Err-read_first.fault.line in
    let line : IsLineOf (drop c.in-Ok.found.1 text) c.in-Err-read_first.fault.line = subst IsLine (take_rest text c.in-Ok.found.1) c.in-Err-read_first.ensures.line in
    let on : IsLineOf text (length c.lines.result.now + c.in-Err-read_first.fault.line) =
    line_on text c.in-Ok.found.1 (length c.lines.result.now) c.in-Err-read_first.fault.line told c.in-Ok.ensures.found (lines_said c.lines.result.now told c.lines.ensures.value) line in
    let few = line_small text (length c.lines.result.now + c.in-Err-read_first.fault.line) on in
    let most = c.requires in
    omega (arith, few, most)

pub returns-clause-line : goal.returns-clause-line
returns-clause-line g c =
    let text = c.args.text.now in
    let told = c.in-Ok.found.0 in
    let IsLine : List ℕ → Type 0 = λ rest. IsLineOf rest c.in-Err-read_first.fault.line in
    let line : IsLineOf (drop c.in-Ok.found.1 text) c.in-Err-read_first.fault.line = subst IsLine (take_rest text c.in-Ok.found.1) c.in-Err-read_first.ensures.line in
    line_on text c.in-Ok.found.1 (length c.lines.result.now) c.in-Err-read_first.fault.line told c.in-Ok.ensures.found (lines_said c.lines.result.now told c.lines.ensures.value) line

pub returns-clause-fault : goal.returns-clause-fault
returns-clause-fault g c =
    let text = c.args.text.now in
    let told = c.in-Ok.found.0 in
    let rest = take (length text - c.in-Ok.found.1) (drop c.in-Ok.found.1 text) in
    let Fault : List ℕ → Type 0 = λ t. TellsFault c.in-Err-read_first.fault.line c.in-Err-read_first.fault.kind (fault_of t) in
    let fails : Fault (drop c.in-Ok.found.1 text) = subst Fault (take_rest text c.in-Ok.found.1) (tells_fault c.in-Err-read_first.fault.line c.in-Err-read_first.fault.kind (lines_of rest) c.in-Err-read_first.ensures.read) in
    race_fails text c.in-Ok.found.1 (length c.lines.result.now) c.in-Err-read_first.fault.line told c.in-Err-read_first.fault.kind c.in-Ok.ensures.read (lines_said c.lines.result.now told c.lines.ensures.value) fails

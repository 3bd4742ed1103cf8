use Rattle.std.proofs.Common.{ℕ, ◌≡◌, ◌+◌, ◌-◌, ◌<◌, ◌≤◌, ◌++◌, List, length, arith, false, refl, sym, subst, subst₂, ap, ◌∙◌, drop}
use Rattle.std.specs.Prelude.{is_some}
use Rattle.std.proofs.lemmas.List.{take_rest}
use Rattle.he_inputs.specs.declared.race_reader.RaceReader.{RaceReader}
use Rattle.he_timeline.specs.Race.{Race}
use Rattle.he_record.specs.Said.{Said}
use Rattle.he_check.specs.Slips.{warnings_of}
use Rattle.he_check.specs.Steps.{HasStepped, PassesRecords}
use Rattle.he_reading.specs.Parts.{lines_of}
use Rattle.he_check.proofs.Counts.{fault_line}
use Rattle.he_check.proofs.Recorded.{few_recorded}
use Rattle.he_check.proofs.Stepping.{breaks_off, fault_stepped, none_follows, race_stepped, stopped_here}
use Rattle.he_check.proofs.counting.Counted.read_on.Goals as goal

pub warn-added-requires : goal.warn-added-requires
warn-added-requires g c =
    let passes = rw c.in-Ok-Some.field-0-is at c.in-Ok-Some.ensures.found in
    let recorded = rw c.in-Ok-Some.field-0-is at c.in-Ok-Some.ensures.record in
    let room = c.requires.may.within.room in
    let few = few_recorded c.args.bytes.now c.args.self.now.reader c.next_recorded.new.self c.in-Ok-Some.found.1 c.in-Ok-Some.found.0 passes recorded in
    let Fits : List Said × Race → Type 0 = λ f. c.args.self.now.reader.lines + 1 + length f.0 < 18446744073709551616 in
    let fits : Fits c.in-Ok-Some.found = omega (arith, room, few) in
    subst Fits (sym c.in-Ok-Some.found-is) fits

pub returns-in_ok-added-in-Ok-Some : goal.returns-in_ok-added-in-Ok-Some
returns-in_ok-added-in-Ok-Some g c =
    let passes = rw c.in-Ok-Some.field-0-is at c.in-Ok-Some.ensures.found in
    let recorded = rw c.in-Ok-Some.field-0-is at c.in-Ok-Some.ensures.record in
    race_stepped c.args.ending c.args.bytes.now c.args.self.now (record c.args.self.now { reader = c.next_recorded.new.self; warnings = c.warn-added.new.warnings }) c.requires.may c.requires.more c.in-Ok-Some.found.1
    c.requires.reads c.in-Ok-Some.ensures.within (record { read = (c.in-Ok-Some.found.0, recorded); past = passes.past; within = passes.within; counted = passes.counted; lined = passes.lined })
    (λ none. subst (λ (f : List Said × Race). c.warn-added.new.warnings.items ≡ c.args.self.now.warnings.items ++ warnings_of (c.args.self.now.reader.lines + 1) f.0 f.1) c.in-Ok-Some.found-is
    (c.in_ok-added-in-Ok-Some.ensures (c.is_some-has_fault.ensures ∙ ap is_some none)))

pub records_before-passed-requires-clause-above : goal.records_before-passed-requires-clause-above
records_before-passed-requires-clause-above g c =
    let same = c.in-Err-Input-Text.ensures.same in
    let wrong = rw c.in-Err-Input-Text.field-0-0-is at rw c.in-Err-Input-Text.field-0-is at c.in-Err-Input-Text.ensures.fault in
    let line = fault_line c.first_recorded_faults.ensures c.args.ending c.args.bytes.now c.args.self.now.reader c.in-Err-Input-Text.fault wrong in
    let above = line.0 in
    let lines : c.next_recorded.new.self.lines ≡ c.args.self.now.reader.lines = ap (λ (r : RaceReader). r.lines) same in
    omega (arith, above, lines)

pub records_before-passed-requires-clause-there : goal.records_before-passed-requires-clause-there
records_before-passed-requires-clause-there g c =
    let same = c.in-Err-Input-Text.ensures.same in
    let wrong = rw c.in-Err-Input-Text.field-0-0-is at rw c.in-Err-Input-Text.field-0-is at c.in-Err-Input-Text.ensures.fault in
    let line = fault_line c.first_recorded_faults.ensures c.args.ending c.args.bytes.now c.args.self.now.reader c.in-Err-Input-Text.fault wrong in
    let end : c.next_recorded.new.self.end ≡ c.args.self.now.reader.end = ap (λ (r : RaceReader). r.end) same in
    let lines : c.next_recorded.new.self.lines ≡ c.args.self.now.reader.lines = ap (λ (r : RaceReader). r.lines) same in
    let text = take_rest c.args.bytes.now c.next_recorded.new.self.end ∙ ap (λ n. drop n c.args.bytes.now) end in
    let There : List ℕ → ℕ → Type 0 = λ t n. c.in-Err-Input-Text.fault.line - n ≤ length (lines_of t) in
    subst₂ There (sym text) (sym lines) line.1

pub returns-in_ok-add-in-Err-Input-Text : goal.returns-in_ok-add-in-Err-Input-Text
returns-in_ok-add-in-Err-Input-Text g c =
    let same = c.in-Err-Input-Text.ensures.same in
    let wrong = rw c.in-Err-Input-Text.field-0-0-is at rw c.in-Err-Input-Text.field-0-is at c.in-Err-Input-Text.ensures.fault in
    let end : c.next_recorded.new.self.end ≡ c.args.self.now.reader.end = ap (λ (r : RaceReader). r.end) same in
    let lines : c.next_recorded.new.self.lines ≡ c.args.self.now.reader.lines = ap (λ (r : RaceReader). r.lines) same in
    let text = take_rest c.args.bytes.now c.next_recorded.new.self.end ∙ ap (λ n. drop n c.args.bytes.now) end in
    let passed = c.records_before-passed.result in
    let Passes : List ℕ → ℕ → Type 0 = λ t n. PassesRecords c.add.new.self.is_all t (c.in-Err-Input-Text.fault.line - n) passed.bytes passed.lines in
    fault_stepped c.args.ending c.args.bytes.now c.args.self.now _ c.requires.may c.requires.more c.first_recorded_faults.ensures c.in-Err-Input-Text.fault _ c.requires.reads refl
    passed.bytes passed.lines (subst₂ Passes text lines c.records_before-passed.ensures) (ap (λ n. n + passed.bytes) end) (ap (λ n. n + passed.lines) lines) (ap (λ (r : RaceReader). r.races) same)
    wrong c.in_ok-add-in-Err-Input-Text.ensures text lines

pub returns-in-Ok-None : goal.returns-in-Ok-None
returns-in-Ok-None g c =
    let At : RaceReader → Type 0 = λ r. HasStepped c.args.ending c.args.bytes.now c.args.self.now (record c.args.self.now { reader = r }) false in
    let found = rw c.in-Ok-None.field-0-is at c.in-Ok-None.ensures.found in
    subst At (sym found.0) (stopped_here c.args.ending c.args.bytes.now c.args.self.now c.args.self.now c.requires.may c.requires.more
    (none_follows c.args.ending c.args.bytes.now c.args.self.now c.args.self.now c.requires.may c.requires.more c.requires.reads found.1))

pub returns-in-Err-Input-Read : goal.returns-in-Err-Input-Read
returns-in-Err-Input-Read g c =
    let At : RaceReader → Type 0 = λ r. HasStepped c.args.ending c.args.bytes.now c.args.self.now (record c.args.self.now { reader = r }) false in
    let wrong = rw c.in-Err-Input-Read.field-0-0-is at rw c.in-Err-Input-Read.field-0-is at c.in-Err-Input-Read.ensures.fault in
    subst At (sym c.in-Err-Input-Read.ensures.same) (stopped_here c.args.ending c.args.bytes.now c.args.self.now c.args.self.now c.requires.may c.requires.more
    (breaks_off c.args.ending c.args.bytes.now c.args.self.now c.args.self.now c.requires.may c.requires.more c.first_recorded_faults.ensures c.requires.reads wrong))

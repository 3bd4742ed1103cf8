-- A race that a reader passed, by the contents of its record.
use Rattle.std.proofs.Common.{ℕ, ◌≡◌, ◌+◌, ◌-◌, ◌≤◌, ◌∙◌, List, length, drop, eqb, ap, arith, length-append}
use Rattle.std.specs.List.{slice_range}
use Rattle.std.proofs.lemmas.List.{length-take}
use Rattle.std.proofs.lemmas.List.Sums.{count_by-le-length}
use Rattle.he_timeline.specs.Race.{Race}
use Rattle.he_record.specs.Said.{Said}
use Rattle.he_inputs.specs.RaceReading.{PassesRace}
use Rattle.he_inputs.specs.Recorded.{IsRecordedAs}
use Rattle.he_inputs.specs.declared.race_reader.RaceReader.{RaceReader}
use Rattle.he_inputs.proofs.RecordedTexts.{record_lines}

-- a record has no more lines than its text has bytes
few_said : (text : List ℕ) (said : List Said) (race : Race) → IsRecordedAs text said race → length said ≤ length text
few_said text said race is =
    let lines = record_lines is.front said is.told in
    let few = count_by-le-length (λ b. eqb b 10) is.front in
    let size : length text ≡ length is.front + length is.rest = ap length is.parts ∙ length-append is.front is.rest in
    omega (arith, lines, few, size)

module _ (bytes : List ℕ) (old new : RaceReader) (race : Race) (said : List Said) (passes : PassesRace bytes old new race)
    (recorded : IsRecordedAs (slice_range bytes old.end new.end) said race)
  where
    pub few_recorded : length said ≤ length (drop old.end bytes)
    few_recorded =
        let few = few_said (slice_range bytes old.end new.end) said race recorded in
        let size = length-take (new.end - old.end) (drop old.end bytes) in
        omega (arith, few, size)

-- Mirrors the code: the fault that a reader finds after the last race, and the reading of an input of one race.
use Rattle.std.specs.Prelude.{ℕ, ◌≡◌, ◌⊎◌, ◌<◌, ◌≤◌, ◌+◌, ◌-◌, Bool, true, false, List, [], length, take, Option, Some, None}
use Rattle.he_timeline.specs.Race.{Race}
use Rattle.he_words.specs.declared.fault.TextFault.{TextFault}
use Rattle.he_words.specs.declared.fault.TextKind.{TextKind}
use Rattle.he_words.specs.declared.fault.TextKind.TheVariants as kinds
use Rattle.he_inputs.specs.declared.inputs.NotOneRace.{NotOneRace}
use Rattle.he_inputs.specs.declared.inputs.NotOneRace.TheVariants as ones
use Rattle.he_inputs.specs.declared.race_reader.Ending.{Ending}
use Rattle.he_inputs.specs.declared.race_reader.Ending.TheVariants as endings
use Rattle.he_inputs.specs.declared.race_reader.RaceReader.{RaceReader}
use Rattle.he_inputs.specs.declared.race_reader.RaceReaderFault.{RaceReaderFault}
use Rattle.he_inputs.specs.declared.race_reader.RaceReaderFault.TheVariants as faults
use Rattle.he_words.specs.Ranges.{most_races}
use Rattle.he_reading.specs.Text.{IsLineOf}
use Rattle.he_record.specs.Said.{Said}
use Rattle.he_inputs.specs.Inputs.{line_count}
use Rattle.he_inputs.specs.RaceReading.{HasPassed, IsWithin}
use Rattle.he_inputs.specs.Recorded.{IsRecordedAs, recorded_fault}

-- the input broke off
abbrev pub breaks : Ending → Bool
breaks endings.Open = false
breaks endings.Whole = false
breaks endings.Broken = true

-- a race and its record were read from the front of a text; `left` bytes follow, and it has `lines` lines
pub record ReadsRecorded (text : List ℕ) (said : List Said) (race : Race) (left lines : ℕ) : Type 0 where
  pub shorter : left < length text
  pub is : IsRecordedAs (take (length text - left) text) said race
  pub lined : lines ≡ line_count (take (length text - left) text)

-- a reading that failed has the fault of the text, or an allocation failed
abbrev pub FailsRecorded : List ℕ → ℕ → TextKind → Type 0
FailsRecorded text line kind = (kind ≡ kinds.Memory) ⊎ (recorded_fault text ≡ Some (line, kind))

-- the fault of `rest` after `races` races, or an allocation failed
pub record IsWrong (races : ℕ) (rest : List ℕ) (fault : TextFault) : Type 0 where
  pub some : 0 < length rest
  pub line : IsLineOf rest fault.line
  pub cause : ((races ≡ most_races) × (fault ≡ record { line = 1; kind = kinds.TooMany }))
      ⊎ ((races + 1 ≤ most_races) × FailsRecorded rest fault.line fault.kind)

-- the fault of `rest`; none if it is empty
abbrev pub StopsAt : ℕ → List ℕ → Option TextFault → Type 0
StopsAt races rest None = rest ≡ []
StopsAt races rest (Some fault) = IsWrong races rest fault

-- a reader passed races of the input, at least the one that `first` passed
pub record HasFirst (input : List ℕ) (first reader : RaceReader) : Type 0 where
  pub races : List Race
  pub passed : HasPassed input 0 0 races reader
  pub within : IsWithin input reader
  pub some : 1 ≤ reader.races
  pub alone : reader.races ≡ 1 → reader ≡ first

-- an error of a reader, as the reason that the input is not one race
abbrev pub not_one : RaceReaderFault → NotOneRace
not_one (faults.Input fault) = ones.Fault fault
not_one faults.Memory = ones.Memory

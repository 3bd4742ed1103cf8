-- The results of a reader of an input's bytes, race by race.
use Rattle.std.specs.Prelude.{ℕ, ◌≡◌, ◌<◌, ◌≤◌, ◌+◌, ◌^◌, ◌++◌, Bool, true, false, List, [], length, drop, take, slice_range, Option, Some, None}
use Rattle.he_timeline.specs.Race.{Race}
use Rattle.he_inputs.specs.declared.race_reader.Ending.{Ending}
use Rattle.he_inputs.specs.declared.race_reader.Ending.TheVariants as endings
use Rattle.he_inputs.specs.declared.race_reader.RaceReader.{RaceReader}
use Rattle.he_inputs.specs.declared.race_reader.RaceReaderFault.{RaceReaderFault}
use Rattle.he_inputs.specs.declared.race_reader.RaceReaderFault.TheVariants as faults
use Rattle.he_inputs.specs.Beginnings.{MayGoOn}
use Rattle.he_inputs.specs.Inputs.{AreRaceTexts, IsFaultBehind, line_count}
use Rattle.he_words.specs.Ranges.{most_races}
use Rattle.he_inputs.specs.Recorded.{IsRecordedText}

-- the ending of an input whose bytes are all known, by whether it broke off after them
abbrev pub ending_of : Bool → Ending
ending_of true = endings.Broken
ending_of false = endings.Whole

-- `more` may follow the bytes, and `is_broken` says whether the input broke off after that
abbrev pub MayFollow : Ending → List ℕ → Bool → Type 0
MayFollow endings.Open more is_broken = Unit {0}
MayFollow endings.Whole more is_broken = (more ≡ []) × (is_broken ≡ false)
MayFollow endings.Broken more is_broken = (more ≡ []) × (is_broken ≡ true)

-- the reader is within the bytes, after no more races than an input may have, and the count of lines can't overflow
pub record IsWithin (bytes : List ℕ) (reader : RaceReader) : Type 0 where
  pub place : reader.end ≤ length bytes
  pub few : reader.races ≤ most_races
  pub room : reader.lines + length (drop reader.end bytes) ≤ 2 ^ 63

-- a reader passed one race of the bytes, with its record lines
pub record PassesRace (bytes : List ℕ) (old new : RaceReader) (race : Race) : Type 0 where
  pub read : IsRecordedText (slice_range bytes old.end new.end) race
  pub past : old.end < new.end
  pub within : new.end ≤ length bytes
  pub counted : new.races ≡ old.races + 1
  pub lined : new.lines ≡ old.lines + line_count (slice_range bytes old.end new.end)

-- no race follows: the input ends here, or the next bytes decide
abbrev pub EndsAt : Ending → List ℕ → Type 0
EndsAt endings.Open rest = MayGoOn rest
EndsAt endings.Whole rest = rest ≡ []
EndsAt endings.Broken rest = ⊥

abbrev pub IsNextOf : List ℕ → Ending → RaceReader → RaceReader → Option Race → Type 0
IsNextOf bytes ending old new (Some race) = PassesRace bytes old new race
IsNextOf bytes ending old new None = (new ≡ old) × EndsAt ending (drop old.end bytes)

-- the fault of every input that consists of these bytes and any that may follow; or an allocation failed
abbrev pub IsReaderFault : List ℕ → Ending → RaceReader → RaceReaderFault → Type 0
IsReaderFault bytes ending reader (faults.Input fault) =
    (more : List ℕ) (is_broken : Bool) → MayFollow ending more is_broken
    → IsFaultBehind is_broken reader.races reader.lines (drop reader.end bytes ++ more) (Some fault)
IsReaderFault bytes ending reader faults.Memory = Unit {0}

-- a reader passed these races; the bytes begin after `races_before` races and `lines_before` lines
pub record HasPassed (bytes : List ℕ) (races_before lines_before : ℕ) (races : List Race)
    (reader : RaceReader) : Type 0 where
  pub within : reader.end ≤ length bytes
  pub whole : AreRaceTexts races (take reader.end bytes)
  pub counted : reader.races ≡ races_before + length races
  pub lined : reader.lines ≡ lines_before + line_count (take reader.end bytes)

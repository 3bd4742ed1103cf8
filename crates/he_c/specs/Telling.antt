-- Mirrors the code: the texts for the races that the reader has passed so far. `Outputs` defines the text for the
-- whole input.
use Rattle.std.specs.Prelude.{ℕ, ◌≡◌, ◌++◌, List, take}
use Rattle.he_timeline.specs.Race.{Race}
use Rattle.he_inputs.specs.declared.race_reader.RaceReader.{RaceReader}
use Rattle.he_inputs.specs.RaceReading.{HasPassed, IsWithin}
use Rattle.he_c.specs.Outputs.{AreTold, TextRelation}

-- such a text was appended
pub record WritesText (IsSuch : List ℕ → Type 0) (old new : List ℕ) : Type 0 where
  pub told : List ℕ
  pub is_told : IsSuch told
  pub appended : new ≡ old ++ told

-- the texts for the races that the reader passed were appended
pub record HasTold (IsText : TextRelation) (input text : List ℕ) (reader : RaceReader) : Type 0 where
  pub races : List Race
  pub passed : HasPassed input 0 0 races reader
  pub within : IsWithin input reader
  pub told : AreTold IsText 1 1 races (take reader.end input) text

-- Mirrors the code: how a stream reads the bytes it holds, and takes more.
use Rattle.std.specs.Prelude.{ℕ, ◌≡◌, ◌≤◌, ◌⊎◌, ◌+◌, ◌-◌, ◌*◌, ◌++◌, Bool, List, length, drop, slice_range, Option, Some, None, Result, Ok, Err}
use Rattle.he_timeline.specs.Race.{Race}
use Rattle.he_stream.specs.declared.stream.InputStream as inputs
use Rattle.he_stream.specs.Limits.{most_reads, read_size}
use Rattle.he_inputs.specs.declared.race_reader.Ending.{Ending}
use Rattle.he_inputs.specs.declared.race_reader.Ending.TheVariants as endings
use Rattle.he_inputs.specs.declared.race_reader.RaceReader.{RaceReader}
use Rattle.he_inputs.specs.declared.race_reader.RaceReaderFault.{RaceReaderFault}
use Rattle.he_inputs.specs.declared.race_reader.RaceReaderFault.TheVariants as readers
use Rattle.he_inputs.specs.HeldInputs.{GivesBy, HeldBytes}
use Rattle.he_inputs.specs.declared.inputs.NotOneRace.{NotOneRace}
use Rattle.he_inputs.specs.Inputs.{GivesOne, IsFaultBehind, TakesOne, line_count}
use Rattle.he_inputs.specs.RaceReading.{EndsAt, IsWithin, MayFollow}
use Rattle.he_inputs.specs.RaceStreams.{StreamState}
use Rattle.he_inputs.specs.Recorded.{IsRecordedText}

-- the state of a stream with these held bytes and this reader; the last race begins at `start`
abbrev pub state_of : HeldBytes → ℕ → RaceReader → Ending → StreamState
state_of held start reader ending = record {
  text = slice_range held.bytes start reader.end;
  rest = drop reader.end held.bytes;
  races = reader.races;
  lines = reader.lines;
  ending = ending;
  steps = held.steps;
}

-- the bounds of a stream
pub record IsStream (held : HeldBytes) (start : ℕ) (reader : RaceReader) : Type 0 where
  pub begun : start ≤ reader.end
  pub within : IsWithin held.bytes reader
  pub few : held.steps ≤ most_reads
  pub size : reader.lines + length (drop reader.end held.bytes) ≤ read_size * held.steps

-- bytes were taken of the input, which may have ended, and no race was passed
pub record GoesOn {I : Type 0} (input : inputs.Ghosts I) (before after : I) (old new : StreamState) : Type 0 where
  pub races : new.races ≡ old.races
  pub lines : new.lines ≡ old.lines
  pub later : old.steps ≤ new.steps
  pub gives : (first : I) (front : List ℕ) → GivesBy input first before old.steps old.ending (front ++ old.rest)
      → GivesBy input first after new.steps new.ending (front ++ new.rest)

abbrev pub left_by : Ending → ℕ → ℕ
left_by endings.Open steps = steps + 1
left_by ending steps = 0

-- the number of steps that may follow, with the one that finds the end
abbrev pub left_of : StreamState → ℕ
left_of stream = left_by stream.ending (most_reads - stream.steps)

-- the first of the held bytes were passed, as the text of this race
pub record PassesText (old new : StreamState) (race : Race) : Type 0 where
  pub is : IsRecordedText new.text race
  pub parts : old.rest ≡ new.text ++ new.rest
  pub races : new.races ≡ old.races + 1
  pub lines : new.lines ≡ old.lines + line_count new.text
  pub ending : new.ending ≡ old.ending
  pub steps : new.steps ≡ old.steps

-- the next race of the held bytes; or none, if the next bytes decide or nothing is left; or the fault of every
-- continuation
abbrev pub PassesHeld : StreamState → StreamState → Result (Option Race) RaceReaderFault → Type 0
PassesHeld old new (Ok (Some race)) = PassesText old new race
PassesHeld old new (Ok None) = (new ≡ old) × ((old.ending ≡ endings.Open) ⊎ EndsAt old.ending old.rest)
PassesHeld old new (Err (readers.Input fault)) =
    (new ≡ old)
    × ((more : List ℕ) (is_broken : Bool) → MayFollow old.ending more is_broken
    → IsFaultBehind is_broken old.races old.lines (old.rest ++ more) (Some fault))
PassesHeld old new (Err readers.Memory) = new ≡ old

-- nothing follows the first race of an input; or the reason that it is not one race
abbrev pub TakesBehind : (List ℕ → Bool → Type 0) → (List ℕ → Type 0) → Race → Result (Unit {0}) NotOneRace → Type 0
TakesBehind Given Taken race (Ok done) = GivesOne Given race
TakesBehind Given Taken race (Err why) = TakesOne Given Taken (Err why)

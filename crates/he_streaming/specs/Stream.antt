-- The bytes taken from an input of races and put into an output.
use Rattle.std.specs.Prelude.{ℕ, ◌≡◌, ◌≤◌, ◌⊎◌, ◌++◌, Bool, List, Option, None, Some, Result, Ok, Err, length}
use Rattle.he_timeline.specs.Changes.{ChangeValues}
use Rattle.he_timeline.specs.Race.{Race}
use Rattle.he_board.specs.declared.limits.TheConstants.{LEAST_WORKERS, MOST_WORKERS}
use Rattle.he_words.specs.declared.fault.TextFault.{TextFault}
use Rattle.he_inputs.specs.declared.input_fault.InputFault.{InputFault}
use Rattle.he_inputs.specs.declared.input_fault.InputFault.TheVariants as inputs
use Rattle.he_words.specs.Ranges.{most_races}
use Rattle.he_streaming.specs.Known.{Stands}
use Rattle.he_streaming.specs.Output.{AreTold, IsOutput, IsTextWith, TextRelation}
use Rattle.he_streaming.specs.declared.race_texts.Content.{Content}
use Rattle.he_inputs.specs.declared.stream_fault.StreamFault.{StreamFault}
use Rattle.he_inputs.specs.declared.stream_fault.StreamFault.TheVariants.{Text, Read, Write, Memory}

-- the input was given, whole or up to where it broke off, and its whole output, with this fault, was put
pub record PutsOutput (IsText : TextRelation) (Gave : List ℕ → Bool → Type 0) (Whole : List ℕ → Type 0)
    (fault : Option InputFault) : Type 0 where
  pub input : List ℕ
  pub is_broken : Bool
  pub text : List ℕ
  pub gave : Gave input is_broken
  pub output : IsOutput IsText input is_broken text fault
  pub written : Whole text

-- these bytes of the input were taken, and no more, and the whole output of every input that begins with them was put
pub record PutsSure (IsText : TextRelation) (Taken : List ℕ → Type 0) (Whole : List ℕ → Type 0)
    (fault : TextFault) : Type 0 where
  pub input : List ℕ
  pub text : List ℕ
  pub taken : Taken input
  pub output : Stands IsText input text fault
  pub written : Whole text

-- a text of each of some first races of the input
pub record TellsSome (IsText : TextRelation) (input text : List ℕ) : Type 0 where
  pub races : List Race
  pub before : List ℕ
  pub rest : List ℕ
  pub parts : input ≡ before ++ rest
  pub few : length races ≤ most_races
  pub told : AreTold IsText 1 1 races before text

-- these bytes of the input were taken, whether there are more or not, and Done holds of a text of some first races of
-- them
pub record PutsSome (IsText : TextRelation) (Gave : List ℕ → Bool → Type 0) (Taken : List ℕ → Type 0)
    (Done : List ℕ → Type 0) : Type 0 where
  pub input : List ℕ
  pub text : List ℕ
  pub taken : Taken input ⊎ ((is_broken : Bool) × Gave input is_broken)
  pub told : TellsSome IsText input text
  pub written : Done text

-- Gave: the bytes that the input gave, and whether it broke off after them; Taken: the bytes taken of an input that
-- was not read further; Whole: the text that was put whole into the output and then flushed; RoundScope: the text of
-- which a first part was put, until that failed; Put: the text that was put whole and flushed, or nothing if it is
-- empty
abbrev pub Streams : TextRelation → (List ℕ → Bool → Type 0) → (List ℕ → Type 0) → (List ℕ → Type 0)
    → (List ℕ → Type 0) → (List ℕ → Type 0) → Result (Unit {0}) StreamFault → Type 0
Streams IsText Gave Taken Whole RoundScope Put (Ok done) = PutsOutput IsText Gave Whole None
Streams IsText Gave Taken Whole RoundScope Put (Err (Text fault)) =
    PutsOutput IsText Gave Whole (Some (inputs.Text fault)) ⊎ PutsSure IsText Taken Whole fault
Streams IsText Gave Taken Whole RoundScope Put (Err Read) = PutsOutput IsText Gave Whole (Some inputs.Read)
Streams IsText Gave Taken Whole RoundScope Put (Err Write) = PutsSome IsText Gave Taken RoundScope
Streams IsText Gave Taken Whole RoundScope Put (Err Memory) = PutsSome IsText Gave Taken Put

-- an allowed number of workers
abbrev pub HasWorkers : ℕ → Type 0
HasWorkers workers = (LEAST_WORKERS ≤ workers) × (workers ≤ MOST_WORKERS)

-- the text that is asked for of the races of an input of this name, if it has one, each with the changes of its
-- settings
abbrev pub Replays : Content → ChangeValues → Option (List ℕ) → (List ℕ → Bool → Type 0) → (List ℕ → Type 0)
    → (List ℕ → Type 0) → (List ℕ → Type 0) → (List ℕ → Type 0) → Result (Unit {0}) StreamFault → Type 0
Replays content changes file = Streams (IsTextWith content changes file)

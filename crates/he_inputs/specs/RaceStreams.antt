-- The races that a stream returns, of an input that is taken step by step.
use Rattle.std.specs.Prelude.{ℕ, ◌≡◌, ◌⊎◌, ◌+◌, ◌++◌, Bool, List, [], ◌∷◌, length, Option, Some, None, Result, Ok, Err}
use Rattle.he_timeline.specs.Race.{Race}
use Rattle.he_stream.specs.declared.stream.InputStream as inputs
use Rattle.he_stream.specs.Input.{Gives, GivesSoFar}
use Rattle.he_inputs.specs.declared.input_fault.InputFault.{InputFault}
use Rattle.he_inputs.specs.declared.input_fault.InputFault.TheVariants as faults
use Rattle.he_inputs.specs.declared.race_reader.Ending.{Ending}
use Rattle.he_inputs.specs.declared.race_reader.Ending.TheVariants as endings
use Rattle.he_inputs.specs.declared.race_reader.RaceReaderFault.{RaceReaderFault}
use Rattle.he_inputs.specs.declared.race_reader.RaceReaderFault.TheVariants as readers
use Rattle.he_inputs.specs.HeldInputs.{GivesBy}
use Rattle.he_inputs.specs.Inputs.{AreRaceTexts, HasRaces, line_count}
use Rattle.he_inputs.specs.Recorded.{IsRecordedText}

-- the state of a stream: the bytes of the last race returned, unless they were dropped; the bytes held after it; the
-- number of the races returned and of their lines, the ending of the input so far, and the number of steps
pub record StreamState : Type 0 where
  pub text : List ℕ
  pub rest : List ℕ
  pub races : ℕ
  pub lines : ℕ
  pub ending : Ending
  pub steps : ℕ

-- nothing was taken yet
abbrev pub at_start : StreamState
at_start = record { text = []; rest = []; races = 0; lines = 0; ending = endings.Open; steps = 0 }

-- the input gave, since its first state, the texts of these races and then the bytes held
pub record HasHanded {I : Type 0} (input : inputs.Ghosts I) (first last : I) (stream : StreamState)
    (races : List Race) (front : List ℕ) : Type 0 where
  pub whole : AreRaceTexts races front
  pub counted : stream.races ≡ length races
  pub lined : stream.lines ≡ line_count front
  pub given : GivesBy input first last stream.steps stream.ending (front ++ stream.rest)

-- the whole input, or the bytes up to where it broke off, begins with these texts of these races, and has this fault
pub record EndsRaces (Given : List ℕ → Bool → Type 0) (races : List Race) (front : List ℕ)
    (fault : Option InputFault) : Type 0 where
  pub rest : List ℕ
  pub is_broken : Bool
  pub given : Given (front ++ rest) is_broken
  pub has : HasRaces (front ++ rest) is_broken races fault
  pub texts : has.before ≡ front

-- exactly these bytes of the input were taken; every input that begins with them has these races and this fault
pub record StopsRaces (Taken : List ℕ → Type 0) (races : List Race) (front : List ℕ) (fault : InputFault) : Type 0 where
  pub rest : List ℕ
  pub taken : Taken (front ++ rest)
  pub has : (more : List ℕ) (is_broken : Bool) → HasRaces ((front ++ rest) ++ more) is_broken races (Some fault)
  pub texts : (more : List ℕ) (is_broken : Bool) → (has more is_broken).before ≡ front

-- the result after these races: the next race; or the input ended, it has a fault, or an allocation failed
abbrev pub HandsNext : {I : Type 0} → inputs.Ghosts I → I → I → StreamState → List Race → List ℕ
    → Result (Option Race) RaceReaderFault → Type 0
HandsNext input first last stream races front (Ok (Some race)) =
    IsRecordedText stream.text race × HasHanded input first last stream (races ++ race ∷ []) (front ++ stream.text)
HandsNext input first last stream races front (Ok None) =
    EndsRaces (Gives input.remaining input.takes first last) races front None
HandsNext input first last stream races front (Err (readers.Input (faults.Text fault))) =
    EndsRaces (Gives input.remaining input.takes first last) races front (Some (faults.Text fault))
    ⊎ StopsRaces (GivesSoFar input.remaining input.takes first last) races front (faults.Text fault)
HandsNext input first last stream races front (Err (readers.Input faults.Read)) =
    EndsRaces (Gives input.remaining input.takes first last) races front (Some faults.Read)
HandsNext input first last stream races front (Err readers.Memory) = HasHanded input first last stream races front

-- the number of races returned after this result
abbrev pub races_after : {E : Type 0} → ℕ → Result (Option Race) E → ℕ
races_after races (Ok (Some race)) = races + 1
races_after races (Ok None) = races
races_after races (Err fault) = races

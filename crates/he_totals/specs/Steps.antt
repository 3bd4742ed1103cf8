-- Mirrors the code: the records while an input is read. `Summed` has the whole.
use Rattle.std.specs.Prelude.{ℕ, ◌≡◌, ◌++◌, Bool, true, false, List, Result, Ok, Err}
use Rattle.he_timeline.specs.Race.{Race}
use Rattle.he_stream.specs.declared.stream.InputStream as inputs
use Rattle.he_stream.specs.Input.{Gives, GivesSoFar}
use Rattle.he_inputs.specs.RaceStreams.{HasHanded, StreamState}
use Rattle.he_inputs.specs.declared.stream_fault.StreamFault.{StreamFault}
use Rattle.he_record.specs.Said.{Said}
use Rattle.he_totals.specs.Kept.{Run}
use Rattle.he_totals.specs.Summed.{Adds, AreRows, AreRuns, HasSummed, Sums}
use Rattle.he_totals.specs.declared.kept.Place.{Place}

-- adds these to the runs summed before, with unchanged settings
pub record AddsRuns (runs : List Run) (old new : Sums) : Type 0 where
  pub settings : new.settings ≡ old.settings
  pub sums : (before : List Run) → HasSummed old before → HasSummed new (before ++ runs)

-- adds the race and its record with the settings of each row
abbrev pub AddsRace : List Said → Race → Place → Sums → Sums → Type 0
AddsRace said race place old new =
    (runs : List Run) × AreRows said race place 0 old.settings runs × AddsRuns runs old new

-- adds the races that a stream took out of an input
pub record HasRead {I : Type 0} (file : ℕ) (input : inputs.Ghosts I) (first last : I) (stream : StreamState)
    (old new : Sums) : Type 0 where
  pub races : List Race
  pub front : List ℕ
  pub added : List Run
  pub handed : HasHanded input first last stream races front
  pub are : AreRuns old.settings file 0 0 races front added
  pub adds : AddsRuns added old new

-- adds one race more; or the reading ends
abbrev pub AddsNext : {I : Type 0} → ℕ → inputs.Ghosts I → I → I → StreamState → Sums → Sums
    → Result Bool StreamFault → Type 0
AddsNext file input first last stream old new (Ok true) = HasRead file input first last stream old new
AddsNext file input first last stream old new (Ok false) =
    Adds file (Gives input.remaining input.takes first last) (GivesSoFar input.remaining input.takes first last)
    old new (Ok (record {}))
AddsNext file input first last stream old new (Err fault) =
    Adds file (Gives input.remaining input.takes first last) (GivesSoFar input.remaining input.takes first last)
    old new (Err fault)

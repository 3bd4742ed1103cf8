-- An input that is to have one race, taken step by step.
use Rattle.std.proofs.Common.{ℕ, ◌≡◌, ◌≢◌, Bool, List, [], ◌∷◌, ◌++◌, length, None, Ok, Err, arith, inl, inr}
use Rattle.he_timeline.specs.Race.{Race}
use Rattle.he_stream.specs.declared.stream.InputStream as inputs
use Rattle.he_stream.specs.Input.{Gives, GivesSoFar}
use Rattle.he_inputs.specs.declared.input_fault.InputFault.TheVariants as faults
use Rattle.he_inputs.specs.declared.inputs.NotOneRace.TheVariants as ones
use Rattle.he_inputs.specs.declared.race_reader.RaceReaderFault.{RaceReaderFault}
use Rattle.he_inputs.specs.declared.race_reader.RaceReaderFault.TheVariants as readers
use Rattle.he_inputs.specs.Inputs.{GivesNone, GivesOne, TakesOne}
use Rattle.he_inputs.specs.RaceReadingSteps.{not_one}
use Rattle.he_inputs.specs.RaceStreams.{HandsNext, StreamState}

module _ {I : Type 0} (input : inputs.Ghosts I) (first last : I) (stream : StreamState) (races : List Race) (front : List ℕ)
  where
    abbrev Given : List ℕ → Bool → Type 0
    Given = Gives input.remaining input.takes first last

    -- a fault ends it
    pub one_fault : (fault : RaceReaderFault) → HandsNext input first last stream races front (Err fault) → TakesOne Given (GivesSoFar input.remaining input.takes first last) (Err (not_one fault))
    one_fault (readers.Input (faults.Text fault)) (inl ends) = inl (record { input = front ++ ends.rest; is_broken = ends.is_broken; given = ends.given; none = (races, ends.has) })
    one_fault (readers.Input (faults.Text fault)) (inr stops) = inr (record { input = front ++ stops.rest; taken = stops.taken; none = λ more is_broken. (races, stops.has more is_broken) })
    one_fault (readers.Input faults.Read) ends = record { input = front ++ ends.rest; is_broken = ends.is_broken; given = ends.given; none = (races, ends.has) }
    one_fault readers.Memory handed = tt

    -- it has as many races
    pub not_one_race : HandsNext input first last stream races front (Ok None) → length races ≢ 1 → GivesNone Given ones.Count
    not_one_race ends other = record { input = front ++ ends.rest; is_broken = ends.is_broken; given = ends.given; none = (races, ends.has, other) }

-- the first race is the only one
pub one_race : {I : Type 0} (input : inputs.Ghosts I) (first last : I) (stream : StreamState) (race : Race) (others : List Race) (front : List ℕ) → HandsNext input first last stream (race ∷ others) front (Ok None)
    → length (race ∷ others) ≡ 1 → GivesOne (Gives input.remaining input.takes first last) race
one_race input first last stream race [] front ends one = record { input = front ++ ends.rest; is_broken = ends.is_broken; given = ends.given; one = ends.has }
one_race input first last stream race (other ∷ others) front ends one = absurd (omega arith)

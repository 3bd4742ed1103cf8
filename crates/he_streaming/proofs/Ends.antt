-- How a call goes on after a step of the input and a round, and what it comes to where it ends.
use Rattle.std.proofs.Common.{ℕ, suc, ◌≡◌, ◌+◌, ◌≤◌, ◌++◌, ◌∙◌, List, [], take, drop, Bool, true, false, Option, Some, None, Result, Ok, Err, ap, sym, subst, refl, arith, inl, inr, append_assoc, take-take}
use Rattle.std.proofs.lemmas.List.{append-nil}
use Rattle.std.specs.Result.{IsErr, IsErrAnd}
use Rattle.he_stream.specs.declared.answer.Flushed.{Flushed}
use Rattle.he_stream.specs.declared.answer.Put.{Put}
use Rattle.he_stream.specs.declared.stream.InputStream as inputs
use Rattle.he_stream.specs.Output.{PutsAndEnds, PutsInRounds, PutsRoundsPart, PutsWhole}
use Rattle.he_inputs.specs.declared.input_fault.InputFault.{InputFault}
use Rattle.he_inputs.specs.declared.input_fault.InputFault.TheVariants as faults_of
use Rattle.he_inputs.specs.HeldInputs.{GivesBy, HeldBytes, TakesMore}
use Rattle.he_inputs.specs.declared.race_reader.Ending.{Ending}
use Rattle.he_inputs.specs.declared.race_reader.Ending.TheVariants as endings
use Rattle.he_inputs.specs.declared.race_reader.RaceReader.{RaceReader}
use Rattle.he_words.specs.Ranges.{most_races}
use Rattle.he_inputs.specs.RaceReading.{ending_of}
use Rattle.he_inputs.specs.declared.stream_fault.StreamFault.{StreamFault}
use Rattle.he_inputs.specs.declared.stream_fault.StreamFault.TheVariants as faults
use Rattle.he_inputs.proofs.HeldInputLaws.{held_given}
use Rattle.he_streaming.specs.declared.rounds.RoundEnd.{RoundEnd}
use Rattle.he_streaming.specs.Output.{IsOutput, TextRelation}
use Rattle.he_streaming.specs.Rounds.{EndsWithFault, GoesOn, HasTold, IsAt, IsFaultPast, PutsAny, PutsRound, Tells}
use Rattle.he_streaming.specs.Stream.{PutsOutput, Streams, TellsSome}
use Rattle.he_streaming.proofs.Further.{last_output, not_broken, one_more_round, round_failed, round_on, some_told, told_output}
use Rattle.he_streaming.proofs.RoundEnd.{none_told}

-- a fault that is handed on
pub ends_handed : (IsText : TextRelation) (Gave : List ℕ → Bool → Type 0) (Taken Whole RoundScope Put : List ℕ → Type 0) (result : Result (Unit {0}) StreamFault) (fault : StreamFault)
    → IsErr result × IsErrAnd result (λ f. f ≡ fault) → Streams IsText Gave Taken Whole RoundScope Put (Err fault) → Streams IsText Gave Taken Whole RoundScope Put result
ends_handed IsText Gave Taken Whole RoundScope Put (Ok done) fault told ends = absurd told.1
ends_handed IsText Gave Taken Whole RoundScope Put (Err found) fault told ends = subst (λ (f : StreamFault). Streams IsText Gave Taken Whole RoundScope Put (Err f)) (sym told.1) ends

-- an input that ended goes on no more
not_open : (is_broken : Bool) → ending_of is_broken ≡ endings.Open → ⊥
not_open true is = cc
not_open false is = cc

-- a round in which nothing was ready
pub told_none : {S : Type 0} (IsText : TextRelation) (contents : S → Option (List ℕ)) (puts : S → Put → S → Type 0) (flushes : S → Flushed → S → Type 0)
    (bytes : List ℕ) (reader : RaceReader) (state : S) → reader.end ≡ 0 → reader.races ≤ most_races → GoesOn IsText contents puts flushes endings.Open bytes reader bytes reader state state
told_none IsText contents puts flushes bytes reader state front few = record {
  text = [];
  reader = reader;
  told = none_told IsText bytes reader [] front few refl;
  fault_is = inl refl;
  put = inr (refl, refl, refl);
  held = sym (ap (λ (n : ℕ). drop n bytes) front);
  at = ap (λ (n : ℕ). record { end = n; races = reader.races; lines = reader.lines }) front;
}

-- more of the input was taken
pub at_more : {I : Type 0} (IsText : TextRelation) (Done : List ℕ → Type 0) (input : inputs.Ghosts I) (first before after : I) (held new : HeldBytes) (ending : Ending) (reader : RaceReader)
    → TakesMore input before after held new ending → IsAt IsText held.bytes reader (GivesBy input first before held.steps endings.Open) Done → IsAt IsText new.bytes reader (GivesBy input first after new.steps ending) Done
at_more IsText Done input first before after held new ending reader taken at = record {
  races = at.races;
  before = at.before;
  text = at.text;
  told = at.told;
  front = at.front;
  counted = at.counted;
  few = at.few;
  lined = at.lined;
  took = held_given input first before after at.before held new ending taken at.took;
  put = at.put;
}

module _ {S : Type 0} (IsText : TextRelation) (contents : S → Option (List ℕ)) (puts : S → Put → S → Type 0) (flushes : S → Flushed → S → Type 0)
    (Took : List ℕ → Type 0) (first state last : S) (bytes : List ℕ) (from : RaceReader) (at : IsAt IsText bytes from Took (PutsInRounds contents puts flushes first state))
  where
    abbrev Done : List ℕ → Type 0
    Done = PutsInRounds contents puts flushes first state

    -- the text of a round was put, or there was none
    put_on : (text : List ℕ) → PutsAny contents puts flushes endings.Open text state last → PutsInRounds contents puts flushes first last (at.text ++ text)
    put_on text (inl all) = let so_far = at.put in (suc so_far.0, (at.text, text, state, refl, so_far.1, all))
    put_on text (inr (more, none, same)) =
        let Here : S → Type 0 = λ s. PutsInRounds contents puts flushes first s (at.text ++ text) in
        subst Here same (subst (PutsInRounds contents puts flushes first state) (sym (ap (λ (t : List ℕ). at.text ++ t) none ∙ append-nil at.text)) at.put)

    -- a round went on
    pub at_round : (kept : List ℕ) (next : RaceReader) → GoesOn IsText contents puts flushes endings.Open bytes from kept next state last → IsAt IsText kept next Took (PutsInRounds contents puts flushes first last)
    at_round kept next on =
        let Held : List ℕ → Type 0 = λ h. IsAt IsText h next Took (PutsInRounds contents puts flushes first last) in
        let Next : RaceReader → Type 0 = λ w. IsAt IsText (drop on.reader.end bytes) w Took (PutsInRounds contents puts flushes first last) in
        subst Held (sym on.held) (subst Next (sym on.at) (round_on IsText bytes from Took Done at on.text on.reader on.told (PutsInRounds contents puts flushes first last) (put_on on.text on.put)))

    -- what was told so far
    told_so_far : TellsSome IsText (at.before ++ bytes) at.text
    told_so_far = record {
      races = at.races;
      before = at.before;
      rest = bytes;
      parts = refl;
      few = let same = at.counted in let few = at.few in omega arith;
      told = at.told;
    }

    module _ (Gave : List ℕ → Bool → Type 0) (Taken : List ℕ → Type 0) where
      abbrev Ends : Result (Unit {0}) StreamFault → Type 0
      Ends = Streams IsText Gave Taken (PutsAndEnds contents puts flushes first last) (PutsRoundsPart contents puts flushes first last) (PutsInRounds contents puts flushes first last)

      -- an allocation was refused before anything was put in
      pub ends_refused : ((taken : List ℕ) → Took taken → Taken taken) → state ≡ last → Ends (Err faults.Memory)
      ends_refused taken same = record {
        input = at.before ++ bytes;
        text = at.text;
        taken = inl (taken _ at.took);
        told = told_so_far;
        written = subst (λ (s : S). PutsInRounds contents puts flushes first s at.text) same at.put;
      }

      -- a round was the last, since something was wrong
      pub ends_told : ((taken : List ℕ) → Took taken → Taken taken) → (kept : List ℕ) (next : RaceReader) (fault : StreamFault)
          → PutsRound IsText contents puts flushes endings.Open bytes from kept next state last (Err fault) → Ends (Err fault)
      ends_told taken kept next (faults.Text fault) ends = inr record {
        input = at.before ++ bytes;
        text = at.text ++ ends.text;
        taken = taken _ at.took;
        output = λ more is_broken. told_output IsText bytes from Took Done at ends.text ends.reader ends.told more is_broken (Some (faults_of.Text fault)) (ends.fault_is more is_broken tt);
        written = one_more_round contents puts flushes first state last at.text ends.text at.put ends.put;
      }
      ends_told taken kept next faults.Read ends = absurd (not_broken bytes ends.reader ends.fault_is)
      ends_told taken kept next faults.Write (text, reader, told, failed) = record {
        input = at.before ++ bytes;
        text = at.text ++ text;
        taken = inl (taken _ at.took);
        told = some_told IsText bytes from Took Done at text reader told;
        written = round_failed contents puts flushes first state last at.text text at.put failed;
      }
      ends_told taken kept next faults.Memory same = ends_refused taken same

      module _ (is_broken : Bool) (gave : (taken : List ℕ) → Took taken → Gave taken is_broken) where
        -- all was told and put
        ends_output : (text : List ℕ) (reader : RaceReader) (fault : Option InputFault) → HasTold IsText bytes from.races from.lines text reader → IsFaultPast (ending_of is_broken) bytes reader fault
            → PutsWhole contents puts flushes state last text → PutsOutput IsText Gave (PutsAndEnds contents puts flushes first last) fault
        ends_output text reader fault told is put = record {
          input = at.before ++ bytes;
          is_broken = is_broken;
          text = at.text ++ text;
          gave = gave _ at.took;
          output = last_output IsText bytes from Took Done at text reader told is_broken fault is;
          written = one_more_round contents puts flushes first state last at.text text at.put put;
        }

        ends_fault : (fault : InputFault) → EndsWithFault IsText contents puts flushes (ending_of is_broken) bytes from state last fault
            → PutsOutput IsText Gave (PutsAndEnds contents puts flushes first last) (Some fault)
        ends_fault fault ends = ends_output ends.text ends.reader (Some fault) ends.told ends.fault_is ends.put

        -- nothing followed, and so the round was the last
        pub ends_given : (kept : List ℕ) (next : RaceReader) (result : Result (Unit {0}) StreamFault)
            → PutsRound IsText contents puts flushes (ending_of is_broken) bytes from kept next state last result → Ends result
        ends_given kept next (Ok done) on = elim on.fault_is [
          | inl goes_on ↦ absurd (not_open is_broken goes_on)
          | inr is ↦ elim on.put [
            | inl put ↦ ends_output on.text on.reader None on.told is put
            | inr none ↦ absurd (not_open is_broken none.0)
          ]
        ]
        ends_given kept next (Err (faults.Text fault)) ends = inl (ends_fault (faults_of.Text fault) ends)
        ends_given kept next (Err faults.Read) ends = ends_fault faults_of.Read ends
        ends_given kept next (Err faults.Write) (text, reader, told, failed) = record {
          input = at.before ++ bytes;
          text = at.text ++ text;
          taken = inr (is_broken, gave _ at.took);
          told = some_told IsText bytes from Took Done at text reader told;
          written = round_failed contents puts flushes first state last at.text text at.put failed;
        }
        ends_given kept next (Err faults.Memory) same = record {
          input = at.before ++ bytes;
          text = at.text;
          taken = inr (is_broken, gave _ at.took);
          told = told_so_far;
          written = subst (λ (s : S). PutsInRounds contents puts flushes first s at.text) same at.put;
        }

-- A round more: where a call stands after it, and what it comes to when it ends there.
use Rattle.std.proofs.Common.{ℕ, ◌≡◌, ◌+◌, ◌≤◌, ◌++◌, ◌∙◌, List, [], ◌∷◌, length, take, drop, Bool, true, false, Option, Some, None, Result, Ok, Err, ◌⊎◌, ap, sym, subst, refl, arith, inl, inr, append_assoc, length-append, take-append-drop}
use Rattle.std.proofs.lemmas.List.{append-nil}
use Rattle.he_stream.specs.declared.answer.Flushed.{Flushed}
use Rattle.he_stream.specs.declared.answer.Put.{Put}
use Rattle.he_stream.specs.Output.{PutsInRounds, PutsPart, PutsRoundsPart, PutsAndEnds, PutsWhole}
use Rattle.he_inputs.specs.declared.input_fault.InputFault.{InputFault}
use Rattle.he_inputs.specs.declared.input_fault.InputFault.TheVariants as inputs
use Rattle.he_inputs.specs.declared.race_reader.Ending.{Ending}
use Rattle.he_inputs.specs.declared.race_reader.Ending.TheVariants as endings
use Rattle.he_inputs.specs.declared.race_reader.RaceReader.{RaceReader}
use Rattle.he_inputs.specs.Inputs.{IsFaultBehind, line_count}
use Rattle.he_words.specs.Ranges.{most_races}
use Rattle.he_inputs.specs.RaceReading.{MayFollow, ending_of}
use Rattle.he_inputs.proofs.RaceReadingLaws.{line_count-append}
use Rattle.std.specs.Result.{IsErr, IsErrAnd}
use Rattle.he_inputs.specs.declared.stream_fault.StreamFault.{StreamFault}
use Rattle.he_inputs.specs.declared.stream_fault.StreamFault.TheVariants as faults
use Rattle.he_streaming.specs.declared.rounds.RoundEnd.{RoundEnd}
use Rattle.he_streaming.specs.Output.{AreTold, IsOutput, TextRelation}
use Rattle.he_streaming.specs.Rounds.{GoesOn, HasTold, IsAt, IsFaultPast, PutsRound, PutsTold}
use Rattle.he_streaming.specs.Stream.{TellsSome}
use Rattle.he_streaming.proofs.RaceTexts.{AreTold-append, told_at, told_texts}

-- the bytes up to the place and those after it are the bytes
parts_of : (before bytes : List ℕ) (end : ℕ) → before ++ bytes ≡ (before ++ take end bytes) ++ drop end bytes
parts_of before bytes end = ap (λ (b : List ℕ). before ++ b) (sym (take-append-drop end bytes)) ∙ sym (append_assoc before (take end bytes) (drop end bytes))

module _ (IsText : TextRelation) (bytes : List ℕ) (from : RaceReader) (Took Done : List ℕ → Type 0) (at : IsAt IsText bytes from Took Done)
    (text : List ℕ) (reader : RaceReader) (told : HasTold IsText bytes from.races from.lines text reader)
  where
    abbrev front : List ℕ
    front = take reader.end bytes

    texts : AreTold IsText 1 1 (at.races ++ told.races) (at.before ++ front) (at.text ++ text)
    texts =
        let counted = at.counted in
        let lined = at.lined in
        AreTold-append IsText 1 1 at.races at.before at.text at.told told.races front text
        (told_at IsText told.races front text _ _ (1 + length at.races) (1 + line_count at.before) (omega arith) (omega arith) told.told)

    counted : reader.races ≡ length (at.races ++ told.races)
    counted = let before = at.counted in let more = told.counted in let longer = length-append at.races told.races in omega arith

    lined : reader.lines ≡ line_count (at.before ++ front)
    lined = let before = at.lined in let more = told.lined in let all = line_count-append at.before front in omega arith

    few : length (at.races ++ told.races) ≤ most_races
    few = let same = counted in let most = told.few in omega arith

    -- some races more were told, and their text was put
    pub round_on : (Done' : List ℕ → Type 0) → Done' (at.text ++ text)
        → IsAt IsText (drop reader.end bytes) (record { end = 0; races = reader.races; lines = reader.lines }) Took Done'
    round_on Done' done = record {
      races = at.races ++ told.races;
      before = at.before ++ front;
      text = at.text ++ text;
      told = texts;
      front = refl;
      counted = counted;
      few = told.few;
      lined = lined;
      took = subst Took (parts_of at.before bytes reader.end) at.took;
      put = done;
    }

    -- some first races of what was taken were told
    pub some_told : TellsSome IsText (at.before ++ bytes) (at.text ++ text)
    some_told = record {
      races = at.races ++ told.races;
      before = at.before ++ front;
      rest = drop reader.end bytes;
      parts = parts_of at.before bytes reader.end;
      few = few;
      told = texts;
    }

    -- what was taken, and what may follow it, has this output, where this is the fault after the races
    pub told_output : (more : List ℕ) (is_broken : Bool) (fault : Option InputFault) → IsFaultBehind is_broken reader.races reader.lines (drop reader.end bytes ++ more) fault
        → IsOutput IsText ((at.before ++ bytes) ++ more) is_broken (at.text ++ text) fault
    told_output more is_broken fault is =
        let Counted : ℕ → Type 0 = λ n. IsFaultBehind is_broken n reader.lines (drop reader.end bytes ++ more) fault in
        let Lined : ℕ → Type 0 = λ n. IsFaultBehind is_broken (length (at.races ++ told.races)) n (drop reader.end bytes ++ more) fault in
        record {
          races = at.races ++ told.races;
          has = record {
            before = at.before ++ front;
            rest = drop reader.end bytes ++ more;
            parts = ap (λ (b : List ℕ). b ++ more) (parts_of at.before bytes reader.end) ∙ append_assoc (at.before ++ front) (drop reader.end bytes) more;
            whole = told_texts IsText 1 1 (at.races ++ told.races) (at.before ++ front) (at.text ++ text) texts;
            few = few;
            fault_is = subst Lined lined (subst Counted counted is);
          };
          told = texts;
        }

    -- nothing followed it
    pub last_output : (is_broken : Bool) (fault : Option InputFault) → IsFaultPast (ending_of is_broken) bytes reader fault
        → IsOutput IsText (at.before ++ bytes) is_broken (at.text ++ text) fault
    last_output is_broken fault is =
        let Of : List ℕ → Type 0 = λ input. IsOutput IsText input is_broken (at.text ++ text) fault in
        subst Of (append-nil (at.before ++ bytes)) (told_output [] is_broken fault (is [] is_broken (nothing is_broken)))
      where
        nothing : (is_broken : Bool) → MayFollow (ending_of is_broken) [] is_broken
        nothing true = (refl, refl)
        nothing false = (refl, refl)

-- an input that may go on has not broken off
no_break : (races lines : ℕ) (rest : List ℕ) → IsFaultBehind false races lines rest (Some inputs.Read) → ⊥
no_break races lines [] is = cc
no_break races lines (byte ∷ rest) (inl most) = let is = most.1 in cc
no_break races lines (byte ∷ rest) (inr (few, (line, kind), found, is)) = cc

pub not_broken : (bytes : List ℕ) (reader : RaceReader) → IsFaultPast endings.Open bytes reader (Some inputs.Read) → ⊥
not_broken bytes reader is = no_break reader.races reader.lines (drop reader.end bytes ++ []) (is [] false tt)

-- how a round ends of which so much was told, by how the text was put
module _ {S : Type 0} (IsText : TextRelation) (contents : S → Option (List ℕ)) (puts : S → Put → S → Type 0) (flushes : S → Flushed → S → Type 0)
    (ending : Ending) (bytes : List ℕ) (from : RaceReader) (kept text : List ℕ) (told : RoundEnd) (has : HasTold IsText bytes from.races from.lines text told.reader)
    (is : ((ending ≡ endings.Open) × (told.fault ≡ None)) ⊎ IsFaultPast ending bytes told.reader told.fault) (first last : S)
  where
    past : (fault : InputFault) → told.fault ≡ Some fault → IsFaultPast ending bytes told.reader (Some fault)
    past fault found = elim is [
      | inl (goes_on, none) ↦ let both : None ≡ Some fault = sym none ∙ found in cc
      | inr behind ↦ subst (IsFaultPast ending bytes told.reader) found behind
    ]

    pub round_ends : (next : RaceReader) (fault : StreamFault) → PutsTold contents puts flushes ending told text first last (Err fault) → (result : Result (Unit {0}) StreamFault)
        → IsErr result × IsErrAnd result (λ f. f ≡ fault) → PutsRound IsText contents puts flushes ending bytes from kept next first last result
    round_ends next fault put (Ok done) handed = absurd handed.1
    round_ends next fault put (Err other) handed = subst (λ (f : StreamFault). PutsRound IsText contents puts flushes ending bytes from kept next first last (Err f)) (sym handed.1) (ends fault put)
      where
        ends : (fault : StreamFault) → PutsTold contents puts flushes ending told text first last (Err fault) → PutsRound IsText contents puts flushes ending bytes from kept next first last (Err fault)
        ends (faults.Text fault) (found, put) = record { text = text; reader = told.reader; told = has; fault_is = past (inputs.Text fault) found; put = put }
        ends faults.Read (found, put) = record { text = text; reader = told.reader; told = has; fault_is = past inputs.Read found; put = put }
        ends faults.Write failed = (text, told.reader, has, failed)
        ends faults.Memory none = absurd none

    pub round_goes : (reader : RaceReader) → PutsTold contents puts flushes ending told text first last (Ok reader) → kept ≡ drop reader.end bytes
        → GoesOn IsText contents puts flushes ending bytes from kept (record { end = 0; races = reader.races; lines = reader.lines }) first last
    round_goes reader (same, none, put) held = record {
      text = text;
      reader = reader;
      told = subst (HasTold IsText bytes from.races from.lines text) (sym same) has;
      fault_is = elim is [
        | inl (goes_on, right) ↦ inl goes_on
        | inr behind ↦ inr (subst (λ (w : RaceReader). IsFaultPast ending bytes w None) (sym same) (subst (IsFaultPast ending bytes told.reader) none behind))
      ];
      put = put;
      held = held;
      at = refl;
    }

-- a round more was put
pub one_more_round : {S : Type 0} (contents : S → Option (List ℕ)) (puts : S → Put → S → Type 0) (flushes : S → Flushed → S → Type 0) (first state last : S) (before text : List ℕ)
    → PutsInRounds contents puts flushes first state before → PutsWhole contents puts flushes state last text → PutsAndEnds contents puts flushes first last (before ++ text)
one_more_round contents puts flushes first state last before text (rounds, put) all = (rounds, (before, text, state, refl, put, all))

-- the next round failed
pub round_failed : {S : Type 0} (contents : S → Option (List ℕ)) (puts : S → Put → S → Type 0) (flushes : S → Flushed → S → Type 0) (first state last : S) (before text : List ℕ)
    → PutsInRounds contents puts flushes first state before → PutsPart contents puts flushes state last text → PutsRoundsPart contents puts flushes first last (before ++ text)
round_failed contents puts flushes first state last before text put failed = record {
  before = before;
  more = text;
  state = state;
  parts = refl;
  put = put;
  failed = failed;
}

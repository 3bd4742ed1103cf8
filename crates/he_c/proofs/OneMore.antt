-- One race more of an input that is told, and how its reading ends.
use Rattle.std.proofs.Common.{ℕ, ◌≡◌, ◌+◌, ◌-◌, ◌≤◌, ◌∙◌, List, [], ◌∷◌, ◌++◌, Some, None, false, sym, subst, ap, arith, refl, take, drop, length, append_assoc, take-append-drop}
use Rattle.std.specs.List.{slice_range}
use Rattle.std.proofs.lemmas.List.{append-nil}
use Rattle.std.proofs.Math.Seq.{take-add}
use Rattle.he_timeline.specs.Race.{Race}
use Rattle.he_inputs.specs.declared.input_fault.InputFault.{InputFault}
use Rattle.he_inputs.specs.declared.race_reader.RaceReader.{RaceReader}
use Rattle.he_inputs.specs.declared.race_reader.RaceReaderFault.TheVariants as readers
use Rattle.he_inputs.specs.Inputs.{line_count}
use Rattle.he_inputs.specs.RaceReading.{IsNextOf, IsReaderFault, IsWithin, PassesRace, ending_of}
use Rattle.he_inputs.specs.Recorded.{IsRecordedAs, IsRecordedText}
use Rattle.he_inputs.proofs.RaceReadingLaws.{has_fault, has_none, line_count-append, passes_on}
use Rattle.he_record.specs.Said.{Said}
use Rattle.he_c.specs.Outputs.{AreTold, IsOutput, TextRelation}
use Rattle.he_c.specs.Telling.{HasTold, WritesText}

-- the places of a race may be counted otherwise
told_at : (IsText : TextRelation) (said : List Said) (race : Race) (told : List ℕ) (number line other_number other_line : ℕ) → number ≡ other_number → line ≡ other_line
    → IsText number line told said race → IsText other_number other_line told said race
told_at IsText said race told number line other_number other_line same same_line is =
    let Line : ℕ → Type 0 = λ l. IsText other_number l told said race in
    let Number : ℕ → Type 0 = λ n. IsText n line told said race in
    subst Line same_line (subst Number same is)

-- one race more after others
AreTold-snoc : (IsText : TextRelation) (number line : ℕ) (races : List Race) (bytes text : List ℕ) → AreTold IsText number line races bytes text
    → (race : Race) (own told : List ℕ) → (read : IsRecordedText own race) → IsText (number + length races) (line + line_count bytes) told read.0 race
    → AreTold IsText number line (races ++ race ∷ []) (bytes ++ own) (text ++ told)
AreTold-snoc IsText number line [] bytes text (none, nothing) race own told read is =
    let lines : line_count bytes ≡ 0 = ap line_count none in (
      own,
      [],
      ap (λ (b : List ℕ). b ++ own) none ∙ sym (append-nil own),
      read,
      told,
      [],
      ap (λ (t : List ℕ). t ++ told) nothing ∙ sym (append-nil told),
      told_at IsText read.0 race told _ _ number line (omega arith) (omega arith) is,
      (refl, refl),
    )
AreTold-snoc IsText number line (first ∷ races) bytes text (head, behind, split, is_head, one, after, written, is_one, later) race own told read is =
    let lines : line_count bytes ≡ line_count head + line_count behind = ap line_count split ∙ line_count-append head behind in (
      head,
      behind ++ own,
      ap (λ (b : List ℕ). b ++ own) split ∙ append_assoc head behind own,
      is_head,
      one,
      after ++ told,
      ap (λ (t : List ℕ). t ++ told) written ∙ append_assoc one after told,
      is_one,
      AreTold-snoc IsText (number + 1) (line + line_count head) races behind after later race own told read
          (told_at IsText read.0 race told _ _ (number + 1 + length races) (line + line_count head + line_count behind) (omega arith) (omega arith) is),
    )

-- up to the end of a range: up to its start, and the range
take_to : (bytes : List ℕ) (from end : ℕ) → from ≤ end → take end bytes ≡ take from bytes ++ slice_range bytes from end
take_to bytes from end le =
    let sum : end ≡ from + (end - from) = omega arith in
    ap (λ (n : ℕ). take n bytes) sum ∙ take-add from (end - from) bytes

pub one_more_told : (IsText : TextRelation) (input text new : List ℕ) (old next : RaceReader) (said : List Said) (race : Race)
    → HasTold IsText input text old → PassesRace input old next race → IsRecordedAs (slice_range input old.end next.end) said race → IsWithin input next
    → WritesText (λ told. IsText (old.races + 1) (old.lines + 1) told said race) text new → HasTold IsText input new next
one_more_told IsText input text new old next said race before passes recorded within written =
    let front : List ℕ = take old.end input in
    let own : List ℕ = slice_range input old.end next.end in
    let split : take next.end input ≡ front ++ own = take_to input old.end next.end (let past = passes.past in omega arith) in
    let counted = before.passed.counted in
    let lined = before.passed.lined in
    let Bytes : List ℕ → Type 0 = λ b. AreTold IsText 1 1 (before.races ++ race ∷ []) b new in
    let Text : List ℕ → Type 0 = λ t. AreTold IsText 1 1 (before.races ++ race ∷ []) (front ++ own) t in
    record {
      races = before.races ++ race ∷ [];
      passed = passes_on input 0 0 before.races old next race before.passed passes;
      within = within;
      told = subst Bytes (sym split) (subst Text (sym written.appended) (AreTold-snoc IsText 1 1 before.races front text before.told race own written.told (said, recorded)
          (told_at IsText said race written.told _ _ (1 + length before.races) (1 + line_count front) (omega arith) (omega arith) written.is_told)));
    }

-- the front of an input, and the rest
parted : (n : ℕ) (input : List ℕ) → input ≡ take n input ++ drop n input
parted n input = sym (take-append-drop n input)

pub fault_told : (IsText : TextRelation) (input text : List ℕ) (reader : RaceReader) (fault : InputFault) → HasTold IsText input text reader
    → IsReaderFault input (ending_of false) reader (readers.Input fault) → IsOutput IsText input text (Some fault)
fault_told IsText input text reader fault told is = record {
  races = told.races;
  has = has_fault input false told.races reader fault told.passed told.within.few is;
  before = take reader.end input;
  rest = drop reader.end input;
  parts = parted reader.end input;
  told = told.told;
}

pub end_told : (IsText : TextRelation) (input text : List ℕ) (old new : RaceReader) → HasTold IsText input text old
    → IsNextOf input (ending_of false) old new None → IsOutput IsText input text None
end_told IsText input text old new told next = record {
  races = told.races;
  has = has_none input false told.races old told.passed told.within.few next.1;
  before = take old.end input;
  rest = drop old.end input;
  parts = parted old.end input;
  told = told.told;
}

-- Texts of races, each at its place in the input.
use Rattle.std.proofs.Common.{ℕ, ◌≡◌, ◌+◌, ◌++◌, ◌∙◌, List, [], ◌∷◌, length, sym, ap, subst, arith, append_assoc}
use Rattle.std.proofs.lemmas.List.{append_cancel_left}
use Rattle.he_timeline.specs.Race.{Race}
use Rattle.he_record.specs.Said.{Said}
use Rattle.he_inputs.specs.Inputs.{AreRaceTexts, line_count}
use Rattle.he_inputs.specs.Recorded.{IsRecordedText}
use Rattle.he_inputs.proofs.RaceReadingLaws.{line_count-append}
use Rattle.he_streaming.specs.Output.{AreTold, TextRelation}
use Rattle.he_streaming.specs.Pieces.{IsAnywhere}

-- the places of the first race may be counted otherwise
pub told_at : (IsText : TextRelation) (races : List Race) (bytes text : List ℕ) (number line other_number other_line : ℕ) → number ≡ other_number → line ≡ other_line
    → AreTold IsText number line races bytes text → AreTold IsText other_number other_line races bytes text
told_at IsText races bytes text number line other_number other_line same same_line told =
    let Line : ℕ → Type 0 = λ l. AreTold IsText other_number l races bytes text in
    let Number : ℕ → Type 0 = λ n. AreTold IsText n line races bytes text in
    subst Line same_line (subst Number same told)

-- races more after them
pub AreTold-append : (IsText : TextRelation) (number line : ℕ) (races : List Race) (bytes text : List ℕ) → AreTold IsText number line races bytes text
    → (others : List Race) (rest more : List ℕ) → AreTold IsText (number + length races) (line + line_count bytes) others rest more
    → AreTold IsText number line (races ++ others) (bytes ++ rest) (text ++ more)
AreTold-append IsText number line [] bytes text (none, nothing) others rest more are =
    let Bytes : List ℕ → Type 0 = λ b. AreTold IsText number line others (b ++ rest) (text ++ more) in
    let Text : List ℕ → Type 0 = λ t. AreTold IsText number line others rest (t ++ more) in
    let lines : line_count bytes ≡ 0 = ap line_count none in
    subst Bytes (sym none) (subst Text (sym nothing) (told_at IsText others rest more _ _ number line (omega arith) (omega arith) are))
AreTold-append IsText number line (race ∷ races) bytes text (own, behind, split, is, told, after, written, is_told, later) others rest more are =
    let lines : line_count bytes ≡ line_count own + line_count behind = ap line_count split ∙ line_count-append own behind in
    let next = told_at IsText others rest more _ _ (number + 1 + length races) (line + line_count own + line_count behind) (omega arith) (omega arith) are in (
      own,
      behind ++ rest,
      ap (λ (b : List ℕ). b ++ rest) split ∙ append_assoc own behind rest,
      is,
      told,
      after ++ more,
      ap (λ (t : List ℕ). t ++ more) written ∙ append_assoc told after more,
      is_told,
      AreTold-append IsText (number + 1) (line + line_count own) races behind after later others rest more next,
    )

-- their bytes are timeline texts of the races
pub told_texts : (IsText : TextRelation) (number line : ℕ) (races : List Race) (bytes text : List ℕ) → AreTold IsText number line races bytes text → AreRaceTexts races bytes
told_texts IsText number line [] bytes text are = are.0
told_texts IsText number line (race ∷ races) bytes text (own, behind, split, is, told, more, written, is_told, later) =
    (own, behind, split, is, told_texts IsText (number + 1) (line + line_count own) races behind more later)

-- where a text does not depend on the place, they may stand anywhere
pub told_anywhere : (IsText : TextRelation) → IsAnywhere IsText → (number line other_number other_line : ℕ) (races : List Race) (bytes text : List ℕ) → AreTold IsText number line races bytes text
    → AreTold IsText other_number other_line races bytes text
told_anywhere IsText anywhere number line other_number other_line [] bytes text are = are
told_anywhere IsText anywhere number line other_number other_line (race ∷ races) bytes text (own, behind, split, is, told, more, written, is_told, later) = (
  own,
  behind,
  split,
  is,
  told,
  more,
  written,
  anywhere number line other_number other_line told is.0 race is_told,
  told_anywhere IsText anywhere (number + 1) (line + line_count own) (other_number + 1) (other_line + line_count own) races behind more later,
)

-- an input that begins with the races has one text of them, where each has one
pub one_told : (IsText : TextRelation) → ((number line : ℕ) (said other_said : List Said) (race : Race) (text other : List ℕ) → IsText number line text said race → IsText number line other other_said race → text ≡ other)
    → ((front rest other_front other_rest : List ℕ) (race other : Race) → IsRecordedText front race → IsRecordedText other_front other → front ++ rest ≡ other_front ++ other_rest → (front ≡ other_front) × (race ≡ other))
    → (number line : ℕ) (races : List Race) (bytes rest other_bytes other_rest text other : List ℕ) → bytes ++ rest ≡ other_bytes ++ other_rest
    → AreTold IsText number line races bytes text → AreTold IsText number line races other_bytes other → text ≡ other
one_told IsText one first number line [] bytes rest other_bytes other_rest text other same are others = are.1 ∙ sym others.1
one_told IsText one first number line (race ∷ races) bytes rest other_bytes other_rest text other same
    (own, behind, split, is, told, more, written, is_told, later) (other_own, other_behind, other_split, other_is, other_told, other_more, other_written, other_is_told, other_later) =
    let whole : own ++ (behind ++ rest) ≡ other_own ++ (other_behind ++ other_rest) =
    sym (append_assoc own behind rest) ∙ ap (λ (b : List ℕ). b ++ rest) (sym split) ∙ same ∙ ap (λ (b : List ℕ). b ++ other_rest) other_split ∙ append_assoc other_own other_behind other_rest in
    let own_is : own ≡ other_own = (first own (behind ++ rest) other_own (other_behind ++ other_rest) race race is other_is whole).0 in
    let left : behind ++ rest ≡ other_behind ++ other_rest = append_cancel_left own _ _ (whole ∙ ap (λ (b : List ℕ). b ++ (other_behind ++ other_rest)) (sym own_is)) in
    let Next : List ℕ → Type 0 = λ o. AreTold IsText (number + 1) (line + line_count o) races other_behind other_more in
    let later_is : more ≡ other_more =
    one_told IsText one first (number + 1) (line + line_count own) races behind rest other_behind other_rest more other_more left later (subst Next (sym own_is) other_later) in
    written ∙ ap (λ (t : List ℕ). t ++ more) (one number line is.0 other_is.0 race told other_told is_told other_is_told) ∙ ap (λ (m : List ℕ). other_told ++ m) later_is ∙ sym other_written

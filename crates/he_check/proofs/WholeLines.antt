-- Whole lines at the front of a text: the texts of races are such, and each line after them is one of the rest.
use Rattle.std.proofs.Common.{ℕ, zero, suc, ◌≡◌, ◌+◌, ◌-◌, ◌<◌, ◌≤◌, Bool, true, false, cond, eqb, List, [], ◌∷◌, ◌++◌, length, get_or, refl, sym, subst, ◌∙◌, ap, append_assoc, append-nil, length-append, get_or-append-add, arith, codes, inl, inr}
use Rattle.std.specs.List.{join_with_byte, onto_first}
use Rattle.std.proofs.lemmas.List.Splits.{join_with_byte-slice_split, length-slice_split, slice_split-cons_yes}
use Rattle.std.proofs.lemmas.Option.{unwrap_or-slice_get}
use Rattle.he_timeline.specs.Race.{Race}
use Rattle.he_inputs.specs.Inputs.{AreRaceTexts, line_count}
use Rattle.he_reading.specs.Parts.{lines_of}
use Rattle.he_reading.specs.Text.{IsRaceText}
use Rattle.he_inputs.specs.Recorded.{IsRecordedText}
use Rattle.he_words.specs.Words.{header_of}
use Rattle.he_inputs.proofs.RaceReadingLaws.{line_count-append}
use Rattle.he_faults.specs.Clauses.{line_at}
use Rattle.he_check.specs.Steps.{AreWhole}

pub whole_append : (first more : List ℕ) → AreWhole first → AreWhole more → AreWhole (first ++ more)
whole_append first more are (inl none) = subst AreWhole (sym (ap (λ (r : List ℕ). first ++ r) none ∙ append-nil first)) are
whole_append first more are (inr (front, is)) = inr (first ++ front, ap (λ (r : List ℕ). first ++ r) is ∙ sym (append_assoc first front (10 ∷ [])))

-- joined lines of which the last is empty end with a line end
join_last : (line : List ℕ) (lines : List (List ℕ)) → join_with_byte 10 (line ∷ lines ++ [] ∷ []) ≡ join_with_byte 10 (line ∷ lines) ++ 10 ∷ []
join_last line [] = refl
join_last line (next ∷ lines) = ap (λ (r : List ℕ). line ++ 10 ∷ r) (join_last next lines) ∙ sym (append_assoc line (10 ∷ join_with_byte 10 (next ∷ lines)) (10 ∷ []))

race_whole : (text : List ℕ) (race : Race) → IsRaceText text race → AreWhole text
race_whole text race is =
    let header = header_of is.version in
    let lines : List (List ℕ) = is.lines ++ codes "end" ∷ [] in
    let parts : lines_of text ≡ header ∷ lines ++ [] ∷ [] = is.parts ∙ ap (λ (l : List (List ℕ)). header ∷ l) (sym (append_assoc is.lines (codes "end" ∷ []) ([] ∷ []))) in
    inr (join_with_byte 10 (header ∷ lines), sym (join_with_byte-slice_split 10 text) ∙ ap (join_with_byte 10) parts ∙ join_last header lines)

pub whole_race : (text : List ℕ) (race : Race) → IsRecordedText text race → AreWhole text
whole_race text race (said, is) = elim (race_whole is.rest race is.is) [
  | inl none ↦ absurd (some is.rest none is.is)
  | inr (front, ends) ↦ inr (is.front ++ front, is.parts ∙ ap (λ (r : List ℕ). is.front ++ r) ends ∙ sym (append_assoc is.front front (10 ∷ [])))
]
  where
    some : (rest : List ℕ) → rest ≡ [] → IsRaceText rest race → ⊥
    some rest none is =
        let one : length (lines_of rest) ≡ 1 = ap (λ (t : List ℕ). length (lines_of t)) none in
        let more : length (lines_of rest) ≡ length (header_of is.version ∷ is.lines ++ codes "end" ∷ [] ∷ []) = ap length is.parts in
        omega (arith, one, more, length-append is.lines (codes "end" ∷ [] ∷ []))

pub whole_races : (races : List Race) (text : List ℕ) → AreRaceTexts races text → AreWhole text
whole_races [] text none = inl none
whole_races (race ∷ races) text (first, more, split, is, are) =
    subst AreWhole (sym split) (whole_append first more (whole_race first race is) (whole_races races more are))

-- the parts of a text before a mark, and those after it
pub split_on : (front rest : List ℕ) → lines_of (front ++ (10 ∷ rest)) ≡ lines_of front ++ lines_of rest
split_on [] rest = slice_split-cons_yes (λ b. eqb b 10) 10 rest refl
split_on (byte ∷ front) rest =
    ap (λ (parts : List (List ℕ)). cond (eqb byte 10) ([] ∷ parts) (onto_first byte parts)) (split_on front rest)
    ∙ step (eqb byte 10) (lines_of front) (let counted = length-slice_split (λ b. eqb b 10) front in omega arith)
  where
    step : (mark : Bool) (parts : List (List ℕ)) → 0 < length parts
        → cond mark ([] ∷ (parts ++ lines_of rest)) (onto_first byte (parts ++ lines_of rest)) ≡ cond mark ([] ∷ parts) (onto_first byte parts) ++ lines_of rest
    step true parts some = refl
    step false [] some = absurd (omega arith)
    step false (part ∷ parts) some = refl

-- the lines of a text after whole ones
lines_behind : (before rest : List ℕ) → AreWhole before
    → (lines : List (List ℕ)) × (lines_of (before ++ rest) ≡ lines ++ lines_of rest) × (length lines ≡ line_count before)
lines_behind before rest (inl none) = ([], ap (λ (b : List ℕ). lines_of (b ++ rest)) none, ap line_count (sym none))
lines_behind before rest (inr (front, is)) =
    let counted : length (lines_of front) ≡ line_count front + 1 = length-slice_split (λ b. eqb b 10) front in (
      lines_of front,
      ap (λ (b : List ℕ). lines_of (b ++ rest)) is ∙ ap lines_of (append_assoc front (10 ∷ []) rest) ∙ split_on front rest,
      counted ∙ sym (ap line_count is ∙ line_count-append front (10 ∷ [])),
    )

-- a line of what stands after whole lines is one of all
pub line_there : (before rest : List ℕ) (line : ℕ) → AreWhole before → line_count before + 1 ≤ line → line_at (line - line_count before) rest ≡ line_at line (before ++ rest)
line_there before rest line whole behind =
    let lines = lines_behind before rest whole in
    let same : length lines.0 ≡ line_count before = lines.2 in
    let at : ℕ = line - line_count before - 1 in
    let place : line - 1 ≡ length lines.0 + at = omega arith in
    unwrap_or-slice_get (lines_of rest) at []
    ∙ sym (get_or-append-add lines.0 (lines_of rest) at [])
    ∙ ap (λ (n : ℕ). get_or (lines.0 ++ lines_of rest) n []) (sym place)
    ∙ ap (λ (l : List (List ℕ)). get_or l (line - 1) []) (sym lines.1)
    ∙ sym (unwrap_or-slice_get (lines_of (before ++ rest)) (line - 1) [])

-- a line after which another one stands stays, whatever follows the text
pub line_stays : (text more : List ℕ) (at : ℕ) → at + 1 < length (lines_of text) → get_or (lines_of (text ++ more)) at [] ≡ get_or (lines_of text) at []
line_stays [] more at short = let one : length (lines_of []) ≡ 1 = refl in absurd (omega arith)
line_stays (byte ∷ text) more at short =
    by_mark (eqb byte 10) (lines_of text) (lines_of (text ++ more)) at (let counted = length-slice_split (λ b. eqb b 10) text in omega arith)
    (let counted = length-slice_split (λ b. eqb b 10) (text ++ more) in omega arith) (line_stays text more) short
  where
    by_mark : (mark : Bool) (lines longer : List (List ℕ)) (at : ℕ) → 0 < length lines → 0 < length longer → ((n : ℕ) → n + 1 < length lines → get_or longer n [] ≡ get_or lines n [])
        → at + 1 < length (cond mark ([] ∷ lines) (onto_first byte lines)) → get_or (cond mark ([] ∷ longer) (onto_first byte longer)) at [] ≡ get_or (cond mark ([] ∷ lines) (onto_first byte lines)) at []
    by_mark true lines longer zero some others same short = refl
    by_mark true lines longer (suc at) some others same short = same at (omega arith)
    by_mark false [] longer at some others same short = absurd (omega arith)
    by_mark false (line ∷ lines) [] at some others same short = absurd (omega arith)
    by_mark false (line ∷ lines) (other ∷ longer) zero some others same short = ap (λ (l : List ℕ). byte ∷ l) (same zero (omega arith))
    by_mark false (line ∷ lines) (other ∷ longer) (suc at) some others same short = same (suc at) (omega arith)

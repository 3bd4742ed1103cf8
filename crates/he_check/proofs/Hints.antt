-- What was meant by a fault, as what is left of an input tells it, and as the whole input does.
use Rattle.std.proofs.Common.{ℕ, ◌≡◌, ◌⊎◌, ◌↔◌, ◌+◌, ◌-◌, ◌<◌, ◌≤◌, Bool, true, false, List, [], ◌∷◌, ◌++◌, length, Option, Some, None, refl, sym, ◌∙◌, ap, append-nil, length-append, arith, inl, inr, if◌then◌else◌, ◌==◌}
use Rattle.std.specs.Cmp.Lexicographic.{pointwise}
use Rattle.std.specs.Option.{option_or}
use Rattle.std.specs.Prelude.{codes, nat_lt}
use Rattle.std.proofs.lemmas.Bool.{eqb-true}
use Rattle.std.proofs.lemmas.List.{take-append-le}
use Rattle.std.proofs.lemmas.Option.{unwrap_or-slice_get}
use Rattle.he_reading.specs.Faults.{line_fault}
use Rattle.he_reading.specs.Parts.{lines_of}
use Rattle.he_record.specs.Fronts.{IsRecordFault}
use Rattle.he_record.proofs.FrontLaws.{as_many}
use Rattle.he_inputs.specs.FirstFault.{IsFirstFault, fault_on}
use Rattle.he_inputs.specs.Inputs.{line_count}
use Rattle.he_inputs.specs.Recorded.{IsFirstRecordedFault, recorded_fault}
use Rattle.he_inputs.proofs.RaceReadingLaws.{line_count-append}
use Rattle.he_words.specs.Ranges.{most_line_bytes}
use Rattle.he_words.specs.declared.fault.TextFault.{TextFault}
use Rattle.he_words.specs.declared.fault.TextKind.{TextKind}
use Rattle.he_faults.specs.Clauses.{hint_of, is_of_words, line_at, line_meant}
use Rattle.he_faults.specs.Meant.{begins, input_meant, is_capture}
use Rattle.he_check.specs.Steps.{AreWhole}
use Rattle.he_faults.specs.Clauses.{hint_in}
use Rattle.he_faults.specs.declared.meant.Meant.{Meant}
use Rattle.he_check.proofs.WholeLines.{line_stays, line_there}
use Rattle.he_check.proofs.WrongLines.{ends_wrong, record_fault, record_wrong}

abbrev pub FirstFaults : Type 0
FirstFaults = (text : List ℕ) (line : ℕ) (kind : TextKind) → (recorded_fault text ≡ Some (line, kind)) ↔ IsFirstRecordedFault text line kind

-- what a text begins with is no matter of what follows it
pub begins_more : (pattern text more : List ℕ) → length pattern ≤ length text → begins pattern (text ++ more) ≡ begins pattern text
begins_more pattern text more long = ap (pointwise (λ a b. a == b) pattern) (take-append-le (length pattern) text more long)

capture_more : (text more : List ℕ) → 6 ≤ length text → is_capture (text ++ more) ≡ is_capture text
unfolding is_capture
capture_more text more long =
    let a = begins_more (0xD4 ∷ 0xC3 ∷ 0xB2 ∷ 0xA1 ∷ []) text more (omega arith) in
    let b = begins_more (0xA1 ∷ 0xB2 ∷ 0xC3 ∷ 0xD4 ∷ []) text more (omega arith) in
    let c = begins_more (0x4D ∷ 0x3C ∷ 0xB2 ∷ 0xA1 ∷ []) text more (omega arith) in
    let d = begins_more (0xA1 ∷ 0xB2 ∷ 0x3C ∷ 0x4D ∷ []) text more (omega arith) in
    let e = begins_more (0x0A ∷ 0x0D ∷ 0x0D ∷ 0x0A ∷ []) text more (omega arith) in
    cc

pub meant_more : (text more : List ℕ) → 6 ≤ length text → input_meant (text ++ more) ≡ input_meant text
unfolding input_meant
meant_more text more long =
    let a = begins_more (0x1F ∷ 0x8B ∷ []) text more (omega arith) in
    let b = begins_more (0x28 ∷ 0xB5 ∷ 0x2F ∷ 0xFD ∷ []) text more (omega arith) in
    let c = begins_more (0xFD ∷ 0x37 ∷ 0x7A ∷ 0x58 ∷ 0x5A ∷ 0 ∷ []) text more (omega arith) in
    let d = begins_more (0xFF ∷ 0xFE ∷ []) text more (omega arith) in
    let e = begins_more (0xFE ∷ 0xFF ∷ []) text more (omega arith) in
    let f = begins_more (114 ∷ 0 ∷ []) text more (omega arith) in
    let g = begins_more (0 ∷ 114 ∷ []) text more (omega arith) in
    let h = begins_more (codes "{") text more (omega arith) in
    let i = begins_more (codes "[") text more (omega arith) in
    let j = capture_more text more long in
    cc

-- in the line in which a race ends no word is wrong
last_wrong : (before : List (List ℕ)) (line : List ℕ) (kind : TextKind) → fault_on before line [] ≡ Some kind → is_of_words kind ≡ false
unfolding line_fault
last_wrong [] line kind is = ends_wrong (nat_lt most_line_bytes (length line)) _ kind is
last_wrong (first ∷ before) line kind is = ends_wrong (nat_lt most_line_bytes (length line)) _ kind is

-- after the line of a fault of its words stands another
words_in : (lines : List (List ℕ)) (line : ℕ) (kind : TextKind) → IsFirstFault lines line kind → is_of_words kind ≡ true → line < length lines
words_in lines line kind is words = by_after is.before is.line is.after is.parts is.number is.fails
  where
    by_after : (before : List (List ℕ)) (own : List ℕ) (after : List (List ℕ)) → lines ≡ before ++ own ∷ after → line ≡ length before + 1 → fault_on before own after ≡ Some kind → line < length lines
    by_after before own [] parts number fails = let wrong : true ≡ false = sym words ∙ last_wrong before own kind fails in cc
    by_after before own (next ∷ after) parts number fails =
        let size : length lines ≡ length before + length (own ∷ next ∷ after) = ap length parts ∙ length-append before (own ∷ next ∷ after) in
        omega arith

words_in_record : (text : List ℕ) (line : ℕ) (kind : TextKind) → IsRecordFault text line kind → is_of_words kind ≡ true → line < length (lines_of text)
words_in_record text line kind is words = by_after is.after is.parts is.fails
  where
    by_after : (after : List (List ℕ)) → lines_of text ≡ is.lines ++ is.line ∷ after → record_fault is.said is.line after ≡ Some kind → line < length (lines_of text)
    by_after [] parts fails = let wrong : true ≡ false = sym words ∙ record_wrong is.said is.line kind fails in cc
    by_after (next ∷ after) parts fails =
        let size : length (lines_of text) ≡ length is.lines + length (is.line ∷ next ∷ after) = ap length parts ∙ length-append is.lines (is.line ∷ next ∷ after) in
        omega (arith, size, is.number)

pub words_behind : FirstFaults → (text : List ℕ) (line : ℕ) (kind : TextKind) → recorded_fault text ≡ Some (line, kind) → is_of_words kind ≡ true → line < length (lines_of text)
words_behind first text line kind at words = elim ((first text line kind).0 at) [
  | inl is ↦ words_in_record text line kind is words
  | inr is ↦
      let short : is.line < length is.left = words_in is.left is.line kind is.fails words in
      let all : length (lines_of text) ≡ length is.begins.lines + length is.left = ap length is.begins.parts ∙ length-append is.begins.lines is.left in
      omega (arith, as_many is.begins.lines is.said is.begins.are.say, is.number)
]

-- the line of a fault is one of the text
abbrev IsThere : List (List ℕ) → ℕ → Type 0
IsThere lines line = (1 ≤ line) × (line ≤ length lines)

there_in : (lines : List (List ℕ)) (line : ℕ) (kind : TextKind) → IsFirstFault lines line kind → IsThere lines line
there_in lines line kind is =
    let size : length lines ≡ length is.before + length (is.line ∷ is.after) = ap length is.parts ∙ length-append is.before (is.line ∷ is.after) in
    (omega (arith, is.number), omega (arith, size, is.number))

pub fault_there : FirstFaults → (text : List ℕ) (line : ℕ) (kind : TextKind) → recorded_fault text ≡ Some (line, kind) → IsThere (lines_of text) line
fault_there first text line kind at = elim ((first text line kind).0 at) [
  | inl is ↦
      let size : length (lines_of text) ≡ length is.lines + length (is.line ∷ is.after) = ap length is.parts ∙ length-append is.lines (is.line ∷ is.after) in
      (omega (arith, is.number), omega (arith, size, is.number))
  | inr is ↦
      let own : IsThere is.left is.line = there_in is.left is.line kind is.fails in
      let some = own.0 in
      let most = own.1 in
      let all : length (lines_of text) ≡ length is.begins.lines + length is.left = ap length is.begins.parts ∙ length-append is.begins.lines is.left in
      (omega (arith, some, is.number), omega (arith, most, all, as_many is.begins.lines is.said is.begins.are.say, is.number))
]

when_same : {A : Type 0} (is : Bool) (one other : Option A) → (is ≡ true → one ≡ other) → (if is then one else None) ≡ (if is then other else None)
when_same true one other same = same refl
when_same false one other same = refl

module _ (front left more : List ℕ) (lines : ℕ) (fault : TextFault) (whole : AreWhole front) (lined : lines ≡ line_count front) (behind : lines + 1 ≤ fault.line)
  where
    -- by the first bytes, where nothing stands before what is left
    by_bytes : (more ≡ []) ⊎ (6 ≤ length left) → fault.line ≡ 1 → input_meant left ≡ input_meant (front ++ (left ++ more))
    by_bytes long one = elim whole [
      | inl none ↦ same long ∙ ap (λ (f : List ℕ). input_meant (f ++ (left ++ more))) (sym none)
      | inr (line, is) ↦
          let some : line_count front ≡ line_count line + 1 = ap line_count is ∙ line_count-append line (10 ∷ []) in
          absurd (omega arith)
    ]
      where
        same : (more ≡ []) ⊎ (6 ≤ length left) → input_meant left ≡ input_meant (left ++ more)
        same (inl end) = ap input_meant (sym (append-nil left) ∙ ap (λ (m : List ℕ). left ++ m) (sym end))
        same (inr long) = sym (meant_more left more long)

    -- by the words of the line
    by_words : (more ≡ []) ⊎ (fault.line - lines < length (lines_of left)) → line_at (fault.line - lines) left ≡ line_at fault.line (front ++ (left ++ more))
    by_words there = same there ∙ ap (λ (n : ℕ). line_at (fault.line - n) (left ++ more)) lined ∙ line_there front (left ++ more) fault.line whole (let first = lined in omega arith)
      where
        number : ℕ
        number = fault.line - lines

        same : (more ≡ []) ⊎ (fault.line - lines < length (lines_of left)) → line_at (fault.line - lines) left ≡ line_at (fault.line - lines) (left ++ more)
        same (inl end) = ap (line_at number) (sym (append-nil left) ∙ ap (λ (m : List ℕ). left ++ m) (sym end))
        same (inr short) =
            unwrap_or-slice_get (lines_of left) (number - 1) [] ∙ sym (line_stays left more (number - 1) (omega arith)) ∙ sym (unwrap_or-slice_get (lines_of (left ++ more)) (number - 1) [])

    pub hint_there : (fault.line ≡ 1 → (more ≡ []) ⊎ (6 ≤ length left)) → (is_of_words fault.kind ≡ true → (more ≡ []) ⊎ (fault.line - lines < length (lines_of left)))
        → hint_in lines left fault ≡ hint_of (front ++ (left ++ more)) fault
    hint_there long short =
        let words : Option Meant = if is_of_words fault.kind then line_meant (line_at (fault.line - lines) left) else None in
        let bytes : Option Meant = if fault.line == 1 then input_meant (front ++ (left ++ more)) else None in
        ap (λ (m : Option Meant). option_or m words) (when_same (fault.line == 1) _ _ (λ one. by_bytes (long (eqb-true fault.line 1 one)) (eqb-true fault.line 1 one)))
        ∙ ap (λ (m : Option Meant). option_or bytes m) (when_same (is_of_words fault.kind) _ _ (λ of_words. ap line_meant (by_words (short of_words))))

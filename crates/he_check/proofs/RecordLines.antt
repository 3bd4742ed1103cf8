-- Record lines at the front of a part, and how they are passed.
use Rattle.std.proofs.Common.{ℕ, ◌≡◌, ◌⊎◌, ◌+◌, ◌-◌, ◌<◌, ◌≤◌, Bool, true, false, List, [], ◌∷◌, ◌++◌, length, take, drop, Some, None, refl, sym, ◌∙◌, ap, append_assoc, length-append, length-drop, take-append-drop, true≢false, arith, inl, inr}
use Rattle.std.specs.List.{AllByRecursion}
use Rattle.std.proofs.lemmas.List.{append_cancel_right}
use Rattle.std.proofs.Math.Seq.{take-add}
use Rattle.memchr.specs.Find.{IsFirstByte, is_byte}
use Rattle.he_reading.specs.Parts.{lines_of, tokens_of}
use Rattle.he_reading.proofs.PartLaws.{first_byte, parts_counted, parts_found, parts_whole}
use Rattle.he_record.specs.Forms.{is_record_line}
use Rattle.he_record.specs.Fronts.{goes_on}
use Rattle.he_record.proofs.Stands.{behind_lines, first_line_decides}
use Rattle.he_inputs.specs.Inputs.{line_count}
use Rattle.he_check.specs.AllFaults.{SeeksAfter}
use Rattle.he_check.specs.Steps.{PassesRecords}
use Rattle.he_check.proofs.NextParts.{IsLine, is_line}
use Rattle.he_check.proofs.WholeLines.{split_on}

-- so many bytes are so many record lines
pub record ArePassed (text : List ℕ) (bytes lines : ℕ) : Type 0 where
  pub inside : bytes ≤ length text
  pub rows : List (List ℕ)
  pub whole : lines_of (take bytes text) ≡ rows ++ [] ∷ []
  pub records : AllByRecursion (λ l. is_record_line (tokens_of l) ≡ true) rows
  pub count : lines ≡ length rows

pub none_passed : (text : List ℕ) → ArePassed text 0 0
none_passed text = record { inside = omega arith; rows = []; whole = refl; records = tt; count = refl }

-- their lines
pub passed_lines : (text : List ℕ) (bytes lines : ℕ) → ArePassed text bytes lines → lines ≡ line_count (take bytes text)
passed_lines text bytes lines is =
    let all : line_count (take bytes text) + 1 ≡ length (lines_of (take bytes text)) = parts_counted 10 (take bytes text) in
    let size : length (lines_of (take bytes text)) ≡ length is.rows + 1 = ap length is.whole ∙ length-append is.rows ([] ∷ []) in
    omega (arith, is.count)

-- all lines of the text are those and what follows them
all_lines : (text : List ℕ) (bytes lines : ℕ) → (is : ArePassed text bytes lines) → lines_of text ≡ is.rows ++ lines_of (drop bytes text)
all_lines text bytes lines is = ap lines_of (sym (take-append-drop bytes text)) ∙ behind_lines (take bytes text) (drop bytes text) is.rows is.whole

records_more : (rows : List (List ℕ)) (line : List ℕ) → AllByRecursion (λ l. is_record_line (tokens_of l) ≡ true) rows → is_record_line (tokens_of line) ≡ true → AllByRecursion (λ l. is_record_line (tokens_of l) ≡ true) (rows ++ line ∷ [])
records_more [] line all one = (one, tt)
records_more (row ∷ rows) line all one = (all.0, records_more rows line all.1 one)

-- one more
pub passes_more : (text : List ℕ) (bytes lines at : ℕ) → ArePassed text bytes lines → goes_on (lines_of (drop bytes text)) ≡ true → IsFirstByte (is_byte 10) (drop bytes text) (Some at)
    → ArePassed text (bytes + (at + 1)) (lines + 1)
passes_more text bytes lines at is goes found =
    let rest : List ℕ = drop bytes text in
    let next : List ℕ = drop (at + 1) rest in
    let line : IsLine rest at next = is_line rest at next found refl in
    let own : List ℕ = take at rest in
    let cut : lines_of rest ≡ own ∷ lines_of next = parts_found 10 rest at (sym (first_byte 10 rest (Some at) found)) in
    let twice : lines_of own ++ lines_of next ≡ (own ∷ []) ++ lines_of next = sym (split_on own next) ∙ ap lines_of (sym line.cut) ∙ cut in
    let alone : lines_of own ≡ own ∷ [] = append_cancel_right (lines_of own) (own ∷ []) (lines_of next) twice in
    let ended : lines_of (take (at + 1) rest) ≡ own ∷ [] ∷ [] = ap lines_of line.line ∙ split_on own [] ∙ ap (λ ls. ls ++ [] ∷ []) alone in
    let size : length rest ≡ length text - bytes = length-drop bytes text in
    let within = line.inside in
    let inside = is.inside in
    record {
      inside = omega arith;
      rows = is.rows ++ own ∷ [];
      whole = ap lines_of (take-add bytes (at + 1) text) ∙ behind_lines (take bytes text) (take (at + 1) rest) is.rows is.whole ∙ ap (λ ls. is.rows ++ ls) ended ∙ sym (append_assoc is.rows (own ∷ []) ([] ∷ []));
      records = records_more is.rows own is.records (sym (ap goes_on cut) ∙ goes);
      count = ap (λ n. n + 1) is.count ∙ sym (length-append is.rows (own ∷ []));
    }

-- the next part is sought there
seeks : (text : List ℕ) (line bytes lines : ℕ) → ArePassed text bytes lines → lines + 1 ≤ line → (line ≡ lines + 1) ⊎ (goes_on (lines_of (drop bytes text)) ≡ false) → SeeksAfter text line (take bytes text) (drop bytes text)
seeks text line bytes lines is before ends =
    let count = is.count in
    record {
      lines = is.rows;
      parts = sym (take-append-drop bytes text);
      whole = is.whole;
      records = is.records;
      before = omega arith;
      ends = elim ends [
        | inl last ↦ inl (omega arith)
        | inr over ↦ inr over
      ];
    }

pub passes_so : (is_all : Bool) (text : List ℕ) (line bytes lines : ℕ) → is_all ≡ true → ArePassed text bytes lines → lines + 1 ≤ line → (line ≡ lines + 1) ⊎ (goes_on (lines_of (drop bytes text)) ≡ false)
    → PassesRecords is_all text line bytes lines
passes_so is_all text line bytes lines all is before ends = record {
  inside = is.inside;
  lined = passed_lines text bytes lines is;
  seeks = λ _. seeks text line bytes lines is before ends;
  none = λ one. absurd (true≢false (sym all ∙ one));
}

pub passes_none : (is_all : Bool) (text : List ℕ) (line : ℕ) → is_all ≡ false → PassesRecords is_all text line 0 0
passes_none is_all text line one = record { inside = omega arith; lined = refl; seeks = λ all. absurd (true≢false (sym all ∙ one)); none = λ _. refl }

-- before a line of the text a line ends
pub some_end : (text : List ℕ) (line bytes lines : ℕ) → ArePassed text bytes lines → line ≤ length (lines_of text) → lines + 1 < line → IsFirstByte (is_byte 10) (drop bytes text) None → ⊥
some_end text line bytes lines is there before none =
    let rest : List ℕ = drop bytes text in
    let whole : lines_of rest ≡ rest ∷ [] = parts_whole 10 rest (sym (first_byte 10 rest None none)) in
    let size : length (lines_of text) ≡ length is.rows + 1 = ap length (all_lines text bytes lines is) ∙ length-append is.rows (lines_of rest) ∙ ap (λ n. length is.rows + n) (ap length whole) in
    omega (arith, is.count)

-- what follows a text changes nothing of that
pub seeks_more : (text more : List ℕ) (line : ℕ) (front left : List ℕ) → line ≤ length (lines_of text) → SeeksAfter text line front left → SeeksAfter (text ++ more) line front (left ++ more)
seeks_more text more line front left there is = record {
  lines = is.lines;
  parts = ap (λ t. t ++ more) is.parts ∙ append_assoc front left more;
  whole = is.whole;
  records = is.records;
  before = is.before;
  ends = elim is.ends [
    | inl last ↦ inl last
    | inr over ↦ by_lines (lines_of left) refl over
  ];
}
  where
    by_lines : (lines : List (List ℕ)) → lines_of left ≡ lines → goes_on (lines_of left) ≡ false → (line ≡ length is.lines + 1) ⊎ (goes_on (lines_of (left ++ more)) ≡ false)
    by_lines (own ∷ next ∷ after) e over = inr (first_line_decides left more own next after e ∙ over)
    by_lines (own ∷ []) e over =
        let size : length (lines_of text) ≡ length is.lines + 1 =
        ap (λ t. length (lines_of t)) is.parts ∙ ap length (behind_lines front left is.lines is.whole) ∙ length-append is.lines (lines_of left) ∙ ap (λ n. length is.lines + n) (ap length e) in
        inl (omega (arith, is.before))
    by_lines [] e over =
        let some : line_count left + 1 ≡ length (lines_of left) = parts_counted 10 left in
        let none : length (lines_of left) ≡ 0 = ap length e in
        absurd (omega arith)

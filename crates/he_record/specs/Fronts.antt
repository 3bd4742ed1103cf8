-- The record with which a text begins, or its first fault. No search.
use Rattle.std.specs.Prelude.{ℕ, ◌≡◌, ◌<◌, ◌+◌, Bool, true, false, List, [], ◌∷◌, ◌++◌, length, Some}
use Rattle.he_words.specs.declared.fault.TextKind.{TextKind}
use Rattle.he_reading.specs.Parts.{lines_of, tokens_of}
use Rattle.he_record.specs.Faults.{line_fault}
use Rattle.he_record.specs.Forms.{is_record_line}
use Rattle.he_record.specs.Said.{Said}
use Rattle.he_record.specs.Text.{AreRecordLines}

-- whether a record line comes next
abbrev pub goes_on : List (List ℕ) → Bool
goes_on [] = false
goes_on (line ∷ after) = is_record_line (tokens_of line)

-- the text begins with the lines of a record with these contents, and no record line follows them; the bytes after
-- the last line end of a text are no line
pub record BeginsWithRecord (text : List ℕ) (said : List Said) (left : List (List ℕ)) : Type 0 where
  pub lines : List (List ℕ)
  pub parts : lines_of text ≡ lines ++ left
  pub some : 0 < length left
  pub are : AreRecordLines lines said
  pub ends : goes_on left ≡ false

-- the first faulty record line of a text is line n, counted from 1, and this is the first check that fails on it
pub record IsRecordFault (text : List ℕ) (n : ℕ) (kind : TextKind) : Type 0 where
  pub lines : List (List ℕ)
  pub said : List Said
  pub line : List ℕ
  pub after : List (List ℕ)
  pub parts : lines_of text ≡ lines ++ line ∷ after
  pub number : n ≡ length lines + 1
  pub are : AreRecordLines lines said
  pub goes : goes_on (line ∷ after) ≡ true
  pub fails : line_fault said line after ≡ Some kind

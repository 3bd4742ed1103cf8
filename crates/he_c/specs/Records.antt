-- The record line that `he_record_line` writes.
use Rattle.std.specs.Prelude.{ℕ, ◌≡◌, ◌++◌, List, [], ◌∷◌, codes, None}
use Rattle.he_record.specs.Said.{Said}
use Rattle.he_record.specs.Text.{IsRecordText}
use Rattle.he_record.specs.Written.{said_text}
use Rattle.he_c.specs.Answers.{Leaves}
use Rattle.he_c.specs.declared.answer.CallDetails.{CallDetails}

-- the words as a record line
abbrev pub recorded : List ℕ → List ℕ
recorded words = codes "record " ++ (words ++ 10 ∷ [])

-- the text is a record line, and the line is the one that says the same, with addresses as in RFC 5952
abbrev pub IsWritten : List ℕ → List ℕ → Type 0
IsWritten text line = (said : Said) × IsRecordText text (said ∷ []) × (line ≡ said_text said)

-- the text is no record line
abbrev pub IsNoLine : List ℕ → Type 0
IsNoLine text = (said : Said) → IsRecordText text (said ∷ []) → ⊥

-- the line of the record line with these words
abbrev pub IsRecordLine : List ℕ → List ℕ → Type 0
IsRecordLine words line = IsWritten (recorded words) line

-- the words are those of no record line
abbrev pub AreNoWords : List ℕ → Type 0
AreNoWords words = IsNoLine (recorded words)

-- the line was written, all of it or nothing
pub record LeavesRecordLine (words old new : List ℕ) (details : CallDetails) (answer : ℕ) : Type 0 where
  pub line : List ℕ
  pub is : IsRecordLine words line
  pub left : Leaves line None old new details answer

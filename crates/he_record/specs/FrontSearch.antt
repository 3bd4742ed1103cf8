-- Mirrors the code: the search for the record with which a text begins. `Fronts` gives its result in words (laws
-- `fronts_are_records` and `first_record_faults`).
use Rattle.std.specs.Prelude.{ℕ, ◌≡◌, ◌⊎◌, ◌<◌, ◌≤◌, ◌+◌, List, [], ◌∷◌, ◌++◌, length, take, drop, Option, Some, None, Result, Ok, Err, IfErr, if◌then◌else◌}
use Rattle.std.specs.Borrow.{Bor}
use Rattle.he_words.specs.declared.fault.TextKind.{TextKind}
use Rattle.he_words.specs.declared.fault.TextKind.TheVariants as kinds
use Rattle.he_reading.specs.Faults.{first_fault, too_long, unfinished}
use Rattle.he_reading.specs.Parts.{lines_of, tokens_of}
use Rattle.he_record.specs.Faults.{line_fault}
use Rattle.he_record.specs.Forms.{is_record_line, said_in}
use Rattle.he_record.specs.Said.{Said}
use Rattle.he_record.specs.Text.{IsRecordText}

-- the contents of a record, and the lines after it
pub record Front : Type 0 where
  pub said : List Said
  pub left : List (List ℕ)

abbrev pub at_line : ℕ → Option TextKind → Result Front (ℕ × TextKind) → Result Front (ℕ × TextKind)
at_line n (Some kind) later = Err (n, kind)
at_line n None later = later

abbrev pub and_said : List Said → Result Said TextKind → List Said
and_said before (Ok said) = before ++ said ∷ []
and_said before (Err kind) = before

-- the record that goes on from line n, after lines with these contents; or the first fault of its lines
unfoldable pub front_from : ℕ → List Said → List (List ℕ) → Result Front (ℕ × TextKind)
front_from n said [] = Ok (record { said = said; left = [] })
front_from n said (line ∷ after) =
    if is_record_line (tokens_of line)
    then at_line n (line_fault said line after) (front_from (n + 1) (and_said said (said_in line)) after)
    else Ok (record { said = said; left = line ∷ after })

-- the record with which a text begins, maybe one without lines
abbrev pub front_of : List ℕ → Result Front (ℕ × TextKind)
front_of text = front_from 1 [] (lines_of text)

-- the first line of a text, if it is whole and not too long
abbrev pub IsWholeLine : List ℕ → Result (Bor (List ℕ)) TextKind → Type 0
IsWholeLine text (Ok line) =
    (length line.now < length text) × (lines_of text ≡ line.now ∷ lines_of (drop (length line.now + 1) text))
    × (too_long line.now ≡ None)
IsWholeLine text (Err kind) =
    (line : List ℕ) × (after : List (List ℕ)) × (lines_of text ≡ line ∷ after)
    × (first_fault (too_long line ∷ unfinished after ∷ []) ≡ Some kind)

-- a record line of `passed` bytes was read: the result for the whole text is the result after this line, and a
-- record's text before this line goes on with it
pub record PassesLine (text : List ℕ) (before told : List Said) (passed : ℕ) : Type 0 where
  pub some : 0 < passed
  pub within : passed ≤ length text
  pub more : length told ≡ length before + 1
  pub fewer : length (lines_of text) ≡ length (lines_of (drop passed text)) + 1
  pub grows : (front : List ℕ) → IsRecordText front before → IsRecordText (front ++ take passed text) told
  pub read : (n : ℕ) → front_from n before (lines_of text) ≡ front_from (n + 1) told (lines_of (drop passed text))

-- the first line of the text, a record line, has this fault
abbrev pub StopsOn : List ℕ → List Said → TextKind → Type 0
StopsOn text before kind = (n : ℕ) → front_from n before (lines_of text) ≡ Err (n, kind)

-- the record with which a text begins was read, and has `end` bytes
abbrev pub ReadsFront : List ℕ → List Said → ℕ → Type 0
ReadsFront text said end = front_of text ≡ Ok (record { said = said; left = lines_of (drop end text) })

-- a reading that failed has the fault of the search, or an allocation failed at a line before which nothing is wrong
abbrev pub FailsFront : List ℕ → ℕ → TextKind → Type 0
FailsFront text line kind =
    ((kind ≡ kinds.Memory) × IfErr (front_of text) (λ fault. line ≤ fault.0)) ⊎ (front_of text ≡ Err (line, kind))

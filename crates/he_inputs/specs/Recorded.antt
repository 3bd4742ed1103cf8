-- Texts of races with the record lines right before them, and the fault of a text.
use Rattle.std.specs.Prelude.{ℕ, ◌≡◌, ◌⊎◌, ◌+◌, ◌++◌, List, length, Option, Some, option_map, Result, Ok, Err}
use Rattle.he_timeline.specs.Race.{Race}
use Rattle.he_words.specs.declared.fault.TextKind.{TextKind}
use Rattle.he_reading.specs.FaultSearch.{fault_in}
use Rattle.he_reading.specs.Text.{IsRaceText}
use Rattle.he_record.specs.FrontSearch.{Front, front_of}
use Rattle.he_record.specs.Fronts.{BeginsWithRecord, IsRecordFault}
use Rattle.he_record.specs.Said.{Said}
use Rattle.he_record.specs.Text.{IsRecordText}
use Rattle.he_inputs.specs.FirstFault.{IsFirstFault}

-- the text is a text of a record with these contents, maybe without a line, and then one of the race
pub record IsRecordedAs (text : List ℕ) (said : List Said) (race : Race) : Type 0 where
  pub front : List ℕ
  pub rest : List ℕ
  pub parts : text ≡ front ++ rest
  pub told : IsRecordText front said
  pub is : IsRaceText rest race

-- a text of the race, with its record lines, which don't change the race
abbrev pub IsRecordedText : List ℕ → Race → Type 0
IsRecordedText text race = (said : List Said) × IsRecordedAs text said race

-- the text begins with a text of a recorded race
abbrev pub BeginsRecorded : List ℕ → Type 0
BeginsRecorded text =
    (front : List ℕ) × (rest : List ℕ) × (race : Race) × (text ≡ front ++ rest) × IsRecordedText front race

-- a fault, with its line counted on after `lines` lines
abbrev pub lines_on : ℕ → ℕ × TextKind → ℕ × TextKind
lines_on lines fault = (lines + fault.0, fault.1)

-- the fault of a text, by its record: that of the record's lines, else that of the text after them
abbrev pub fault_after : Result Front (ℕ × TextKind) → Option (ℕ × TextKind)
fault_after (Ok front) = option_map (lines_on (length front.said)) (fault_in front.left)
fault_after (Err fault) = Some fault

-- the fault of a text that should begin with a recorded race: its first faulty line, counted from 1, and the first
-- check that fails on it
abbrev pub recorded_fault : List ℕ → Option (ℕ × TextKind)
recorded_fault text = fault_after (front_of text)

-- without a search: the record is right, and this is the first fault of the text after it
pub record IsFaultAfterRecord (text : List ℕ) (n : ℕ) (kind : TextKind) : Type 0 where
  pub said : List Said
  pub left : List (List ℕ)
  pub line : ℕ
  pub begins : BeginsWithRecord text said left
  pub number : n ≡ length said + line
  pub fails : IsFirstFault left line kind

-- or the first faulty line is one of the record
abbrev pub IsFirstRecordedFault : List ℕ → ℕ → TextKind → Type 0
IsFirstRecordedFault text n kind = IsRecordFault text n kind ⊎ IsFaultAfterRecord text n kind

-- The fault of a text in words: the first check that fails on the first faulty line, if no race ends before.
use Rattle.std.specs.Prelude.{ℕ, ◌≡◌, ◌+◌, ◌++◌, Bool, false, List, [], ◌∷◌, length, Option, Some, None}
use Rattle.he_words.specs.declared.fault.TextKind.{TextKind}
use Rattle.he_reading.specs.Faults.{header_fault, version_on, line_fault, ends}
use Rattle.he_reading.specs.Parts.{lines_of}

-- the first check that fails on a line, by the lines before it and the parts after it
abbrev pub fault_on : List (List ℕ) → List ℕ → List (List ℕ) → Option TextKind
fault_on [] line after = header_fault line after
fault_on (first ∷ before) line after = line_fault (version_on first) before line after

-- whether a race ends with the line; the first line ends none
abbrev pub ends_race : List (List ℕ) → List ℕ → Bool
ends_race [] line = false
ends_race (first ∷ before) line = ends line

-- every line passes its checks, and none ends a race
abbrev pub GoOnRight : List (List ℕ) → List (List ℕ) → Type 0
GoOnRight lines after =
    (front : List (List ℕ)) (line : List ℕ) (more : List (List ℕ)) → lines ≡ front ++ line ∷ more
    → (fault_on front line (more ++ after) ≡ None) × (ends_race front line ≡ false)

-- the fault of these lines is on line n, counted from 1
pub record IsFirstFault (lines : List (List ℕ)) (n : ℕ) (kind : TextKind) : Type 0 where
  pub before : List (List ℕ)
  pub line : List ℕ
  pub after : List (List ℕ)
  pub parts : lines ≡ before ++ line ∷ after
  pub number : n ≡ length before + 1
  pub right : GoOnRight before (line ∷ after)
  pub fails : fault_on before line after ≡ Some kind

-- the fault of a text
abbrev pub IsFirstFaultOf : List ℕ → ℕ → TextKind → Type 0
IsFirstFaultOf text n kind = IsFirstFault (lines_of text) n kind

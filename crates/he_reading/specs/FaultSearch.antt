-- Mirrors the code: the search for the first faulty line, by the checks of `Faults`.
use Rattle.std.specs.Prelude.{ℕ, ◌+◌, List, [], ◌∷◌, ◌++◌, Option, Some, None, if◌then◌else◌}
use Rattle.he_words.specs.declared.fault.TextKind.{TextKind}
use Rattle.he_words.specs.declared.fault.TextKind.TheVariants as kinds
use Rattle.he_words.specs.declared.words.Version.{Version}
use Rattle.he_reading.specs.Faults.{header_fault, version_on, line_fault, ends}
use Rattle.he_reading.specs.Parts.{lines_of}

abbrev pub at_line_number : ℕ → Option TextKind → Option (ℕ × TextKind) → Option (ℕ × TextKind)
at_line_number n (Some kind) later = Some (n, kind)
at_line_number n None later = later

-- the first faulty line from line n on, after these lines of a text of the version, with its first fault; None if a
-- line ends the race before
unfoldable pub fault_from : Version → ℕ → List (List ℕ) → List (List ℕ) → Option (ℕ × TextKind)
fault_from version n before [] = Some (n, kinds.Unfinished)
fault_from version n before (line ∷ after) =
    at_line_number n (line_fault version before line after)
    (if ends line then None else fault_from version (n + 1) (before ++ line ∷ []) after)

-- the first faulty line from the first line on
unfoldable pub fault_in : List (List ℕ) → Option (ℕ × TextKind)
fault_in [] = Some (1, kinds.Unfinished)
fault_in (line ∷ after) =
    at_line_number 1 (header_fault line after) (fault_from (version_on line) 2 [] after)

-- the fault of a text: its first faulty line, counted from 1, and the first check that fails on it
abbrev pub fault_of : List ℕ → Option (ℕ × TextKind)
fault_of text = fault_in (lines_of text)

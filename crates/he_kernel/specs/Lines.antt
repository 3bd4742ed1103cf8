-- The non-empty lines of a text with their numbers: lines count from 1, empty ones included.
use Rattle.std.specs.Prelude.{ℕ, ◌+◌, ◌==◌, List, [], ◌∷◌, length, if◌then◌else◌}
use Rattle.he_kernel.specs.declared.lines.NumberedLine.{NumberedLine}
use Rattle.he_kernel.specs.declared.parts.Cut.TheVariants.{Lines}
use Rattle.he_kernel.specs.Parts.{parts_of}

-- a line's number and its bytes
abbrev pub plain : NumberedLine → ℕ × List ℕ
plain line = (line.number, line.text.now)

abbrev pub numbered_from : ℕ → List (List ℕ) → List (ℕ × List ℕ)
numbered_from number [] = []
numbered_from number (part ∷ parts) =
    if length part == 0 then numbered_from (number + 1) parts else (number, part) ∷ numbered_from (number + 1) parts

unfoldable pub numbered : List ℕ → List (ℕ × List ℕ)
numbered text = numbered_from 1 (parts_of Lines text)

-- Cuts a text into parts. A line ends with byte 10; fields of a line are separated by spaces and tabs.
use Rattle.std.specs.Prelude.{ℕ, ◌-◌, ◌==◌, ◌||◌, Bool, List, [], ◌∷◌, Option, Some, None, length, if◌then◌else◌}
use Rattle.std.specs.Borrow.{Bor}
use Rattle.std.specs.List.{slice_split}
use Rattle.he_kernel.specs.declared.parts.Cut.{Cut}
use Rattle.he_kernel.specs.declared.parts.Cut.TheVariants.{Lines, Fields}
use Rattle.he_kernel.specs.declared.parts.Parts.{Parts}

abbrev pub is_mark : Cut → ℕ → Bool
is_mark Lines byte = byte == 10
is_mark Fields byte = byte == 32 || byte == 9

abbrev pub parts_of : Cut → List ℕ → List (List ℕ)
parts_of cut text = slice_split (is_mark cut) text

abbrev pub parts_from : Cut → Option (Bor (List ℕ)) → List (List ℕ)
parts_from cut None = []
parts_from cut (Some rest) = parts_of cut rest.now

-- the remaining parts
abbrev pub parts_left : Parts → List (List ℕ)
parts_left parts = parts_from parts.cut parts.rest

-- the part at this place, empty ones not counted
abbrev pub field_among : ℕ → List (List ℕ) → Option (List ℕ)
field_among place [] = None
field_among place (part ∷ parts) =
    if length part == 0 then field_among place parts
    else (if place == 0 then Some part else field_among (place - 1) parts)

-- the field of a line at this place, from 0
unfoldable pub field_of : ℕ → List ℕ → Option (List ℕ)
field_of place line = field_among place (parts_of Fields line)

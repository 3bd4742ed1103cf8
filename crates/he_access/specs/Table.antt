-- The table of the code, for the proofs.
use Rattle.std.specs.Prelude.{ℕ, ◌&&◌, Bool, true, List, Option, Some, None, nat_le}
use Rattle.std.specs.List.{find}
use Rattle.he_access.specs.declared.table.Range.{Range}

abbrev pub has : Range → ℕ → Bool
has range n = nat_le range.first n && nat_le n range.last

-- whether the range is globally reachable; true if there is none
abbrev pub said_by : Option Range → Bool
said_by None = true
said_by (Some range) = range.is_global

-- whether the first range that has the number is globally reachable; true if none has it
abbrev pub first_says : List Range → ℕ → Bool
first_says ranges n = said_by (find (λ r. has r n) ranges)

-- Mirrors the code: the search for faults of a policy table, in the order of the checks.
use Rattle.std.specs.Prelude.{ℕ, ◌+◌, ◌==◌, ◌||◌, Bool, not, nat_lt, List, [], ◌∷◌, length, Option, None, option_map, Result, Ok, Err}
use Rattle.std.specs.List.{list_any, position_from}
use Rattle.std.specs.Option.{option_or, option_map_or}
use Rattle.he_addr.specs.Prefix.{PrefixBits}
use Rattle.he_select.specs.declared.limits.TheConstants.{ROWS}
use Rattle.he_select.specs.declared.policy.Row.{Row}
use Rattle.he_select.specs.declared.policy.PolicyFault.{PolicyFault}
use Rattle.he_select.specs.declared.policy.PolicyFault.TheVariants as faults
use Rattle.he_select.specs.Refusals.{first_repeat, cause_if, first_cause}
use Rattle.he_select.specs.Tables.{any_address, any_v4_address, same_prefix, same_row, shares_precedence}

abbrev pub has_row : List Row → PrefixBits → Bool
has_row rows prefix = list_any (λ row. same_prefix row.prefix prefix) rows

-- the first row, counted from `place`, that shares its precedence with a later one, and the first such later row
abbrev pub shared_from : ℕ → List Row → Option (ℕ × ℕ)
shared_from place [] = None
shared_from place (row ∷ rows) =
    option_or (option_map (λ later. (place, later)) (position_from (shares_precedence row) (place + 1) rows))
    (shared_from (place + 1) rows)

-- the faults of the rows, in their order
abbrev pub table_causes : List Row → List (Option PolicyFault)
table_causes rows =
    cause_if (length rows == 0 || nat_lt ROWS (length rows)) faults.Size
    ∷ option_map faults.Repeated (first_repeat same_row rows)
    ∷ cause_if (not (has_row rows any_address)) faults.NoDefault
    ∷ cause_if (not (has_row rows any_v4_address)) faults.NoMapped
    ∷ option_map (λ pair. faults.SharedPrecedence pair.0 pair.1) (shared_from 0 rows)
    ∷ []

-- the first fault of the rows
unfoldable pub table_fault : List Row → Option PolicyFault
table_fault rows = first_cause (table_causes rows)

-- the table of these rows, or their first fault
abbrev pub table_of : List Row → Result (List Row) PolicyFault
table_of rows = option_map_or Err (table_fault rows) (Ok rows)

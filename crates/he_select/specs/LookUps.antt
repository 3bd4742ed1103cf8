-- Mirrors the code: the rows that it searches for an address, what it keeps of the row, and what it passes to the
-- rules.
use Rattle.std.specs.Prelude.{List, Option}
use Rattle.std.specs.Option.{option_map_or}
use Rattle.he_select.specs.declared.host.Route.{Route}
use Rattle.he_select.specs.declared.host.Source.{Source}
use Rattle.he_select.specs.declared.known.Known.{Known}
use Rattle.he_select.specs.declared.policy.Row.{Row}
use Rattle.he_select.specs.declared.policy.Rows.{Rows}
use Rattle.he_select.specs.declared.policy.Rows.TheVariants as rows
use Rattle.he_select.specs.declared.policy.Table.{Table}
use Rattle.he_select.specs.declared.policy.Table.TheVariants.{Standard, Listed}
use Rattle.he_select.specs.declared.standard.Class.{Class}
use Rattle.he_select.specs.Selection.{SelectionInput}
use Rattle.he_select.specs.Standard.{standard_rows}

abbrev pub rows_of : Table → List Row
rows_of Standard = standard_rows
rows_of (Listed rows) = rows.now

abbrev pub rows_in : Rows → List Row
rows_in (rows.Standard some) = some
rows_in (rows.Listed some) = some.now

-- the precedence and the label of a row; 0 and 0 if there is none
abbrev pub class_of : Option Row → Class
class_of row = record {
  precedence = option_map_or (λ row. row.precedence) row 0;
  label = option_map_or (λ row. row.label) row 0;
}

abbrev pub given : Table → List Source → List Route → List Known → SelectionInput
given table sources routes known = record { rows = rows_of table; sources = sources; routes = routes; known = known }

-- The text of an order: the addresses of a race in the order in which they would be tried if all had come (RFC 6724
-- section 6).
use Rattle.std.specs.Prelude.{ℕ, ◌+◌, List, [], ◌∷◌, ◌++◌, decimal, Option, Some, None, codes}
use Rattle.he_addr.specs.declared.ip.Ip.{Ip}
use Rattle.he_addr.specs.Printing.{printed}
use Rattle.he_plan.specs.Attempts.{order}
use Rattle.he_timeline.specs.Race.{Race, race_input, usable_addresses}
use Rattle.he_select.specs.declared.host.Source.{Source}
use Rattle.he_select.specs.Selection.{SelectionInput, source_of}
use Rattle.he_write.specs.Written.{written_line}

-- the source that the host uses for an address; `none` if the host doesn't reach it
abbrev pub from_text : Option Source → List ℕ
from_text None = codes "none"
from_text (Some source) = printed source.ip

-- N ADDRESS from SOURCE, or N ADDRESS from none
abbrev pub order_line : SelectionInput → ℕ → Ip → List ℕ
order_line input place ip =
    written_line (decimal place ∷ printed ip ∷ codes "from" ∷ from_text (source_of input ip) ∷ [])

-- the lines of the addresses, counted from `place`
abbrev pub order_lines : SelectionInput → ℕ → List Ip → List ℕ
order_lines input place [] = []
order_lines input place (ip ∷ ips) = order_line input place ip ++ order_lines input (place + 1) ips

-- the addresses in sorted order, not interlaced, each with its source; then `end`
abbrev pub order_text : Race → List ℕ
order_text race =
    order_lines (race_input race) 0 (order race (usable_addresses race)) ++ written_line (codes "end" ∷ [])

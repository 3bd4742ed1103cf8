use Rattle.std.proofs.Common.{◌≡◌, drop, option_map}
use Rattle.std.specs.Prelude.{None}
use Rattle.he_addr.specs.Bits.{agrees}
use Rattle.he_select.specs.Tables.{is_longer_row}
use Rattle.he_select.specs.Walking.{walk_fitting}
use Rattle.he_select.proofs.lookup.longest_row.Given as goal

abbrev pub invariant-loop-row : goal.invariant-loop-row
invariant-loop-row l =
    walk_fitting (λ row. agrees 128 l.number row.prefix.bits row.prefix.len) is_longer_row (option_map (λ kept. kept.now) l.best) (drop l.row-index l.rows)
    ≡ walk_fitting (λ row. agrees 128 l.number row.prefix.bits row.prefix.len) is_longer_row None l.rows

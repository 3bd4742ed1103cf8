use Rattle.he_text.specs.InRange.{RowInRange}
use Rattle.he_text.proofs.ranges.rows_range.Given as goal
use Rattle.std.specs.List.{AllWithin}

abbrev pub invariant-loop-row : goal.invariant-loop-row
invariant-loop-row l = AllWithin RowInRange l.rows 0 l.row-index

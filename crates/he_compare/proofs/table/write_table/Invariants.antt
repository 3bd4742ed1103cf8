use Rattle.std.proofs.Common.{ℕ, ◌-◌, List, length}
use Rattle.he_compare.specs.Table.{IsTable}
use Rattle.he_compare.proofs.table.write_table.Given as goal

abbrev pub invariant-loop-row : goal.invariant-loop-row
invariant-loop-row g l =
    (new : List ℕ) → IsTable l.form l.kept l.row (length l.settings - l.row) l.text.items new → IsTable l.form l.kept 0 (length l.settings) l.fn.text.items new

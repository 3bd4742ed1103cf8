use Rattle.std.proofs.Common.{◌≡◌, ◌++◌, take}
use Rattle.std.specs.List.{flat_map}
use Rattle.he_write.specs.Written.{row_text}
use Rattle.he_write.proofs.timelines.write_rows.Given as goal

abbrev pub invariant-loop-row : goal.invariant-loop-row
invariant-loop-row g l = l.out.items ≡ l.fn.out.items ++ flat_map row_text (take l.row-index l.rows)

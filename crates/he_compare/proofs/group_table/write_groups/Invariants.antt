use Rattle.std.proofs.Common.{ℕ, List, drop}
use Rattle.he_compare.specs.Groups.{AreGroupTexts, division_of}
use Rattle.he_compare.proofs.group_table.write_groups.Given as goal

abbrev pub invariant-loop-group : goal.invariant-loop-group
invariant-loop-group g l =
    (new : List ℕ) → AreGroupTexts l.form (division_of l.grouping) (drop l.group-index l.group-items) l.text.items new
    → AreGroupTexts l.form (division_of l.grouping) l.group-items l.initial.text.items new

use Rattle.std.proofs.Common.{◌++◌, List, length}
use Rattle.std.specs.List.Sorted.{IsNonDecreasingBy}
use Rattle.he_compare.specs.Groups.{AreGroups, division_of, key_of}
use Rattle.he_compare.specs.declared.groups.Group.{Group}
use Rattle.he_compare.proofs.groups.cut.Given as goal

abbrev pub invariant-loop-first : goal.invariant-loop-first
invariant-loop-first g l = record {
  rises : IsNonDecreasingBy (key_of (division_of l.grouping)) l.rest;
  are : (more : List Group) → AreGroups (division_of l.grouping) l.rest more → AreGroups (division_of l.grouping) l.sorted (l.groups.items ++ more);
}

abbrev pub decreases-loop-first : goal.decreases-loop-first
decreases-loop-first g l = length l.rest

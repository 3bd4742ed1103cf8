use Rattle.std.proofs.Common.{◌≡◌, drop}
use Rattle.std.specs.List.{list_any}
use Rattle.he_kernel.specs.Keeping.{same_way}
use Rattle.he_kernel.proofs.keeping.is_known.Given as goal

abbrev pub invariant-loop-other : goal.invariant-loop-other
invariant-loop-other l = list_any (same_way l.route) (drop l.other-index l.kept) ≡ list_any (same_way l.route) l.kept

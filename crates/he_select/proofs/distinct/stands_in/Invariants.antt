use Rattle.std.proofs.Common.{◌≡◌, drop}
use Rattle.std.specs.List.{list_any}
use Rattle.he_select.proofs.distinct.stands_in.Given as goal

abbrev pub invariant-loop-other : goal.invariant-loop-other
invariant-loop-other g l = list_any (g.T.Distinct.same l.item) (drop l.other-index l.earlier) ≡ list_any (g.T.Distinct.same l.item) l.earlier

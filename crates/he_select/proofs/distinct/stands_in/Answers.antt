use Rattle.std.proofs.Common.{sym, ◌∙◌}
use Rattle.std.specs.List.{list_any}
use Rattle.std.proofs.lemmas.List.{at_drop_all}
use Rattle.he_select.proofs.Repeats.{none_here}
use Rattle.he_select.proofs.distinct.stands_in.Goals as goal

pub loop-other-preserved : goal.loop-other-preserved
loop-other-preserved g c =
    none_here (g.T.Distinct.same c.args.item.now) c.args.earlier.now c.loop-other.other-index c.other-item.result _ c.loop-other-test.true c.other-item.is c.if-is_same.ensures c.loop-other.invariant

pub returns : goal.returns
returns g c = sym (at_drop_all (list_any (g.T.Distinct.same c.args.item.now)) c.args.earlier.now c.loop-other.other-index c.loop-other-test.false) ∙ c.loop-other.invariant

use Rattle.std.proofs.Common.{false, true, ap, sym, ◌∙◌}
use Rattle.he_names.proofs.Once.{has_alike, kept_more}
use Rattle.he_names.proofs.answers.clean.Goals as goal
use Rattle.he_names.proofs.answers.clean.Goals.{then-not-has+in_ok-push, else-not-has}

pub loop-ip-preserved : goal.loop-ip-preserved
loop-ip-preserved g c =
    let found = has_alike _ _ _ _ c.has.ensures c.deref.ensures.value in
    elim c.if-not-has.branch [
      | then-not-has+in_ok-push w ↦
          ap (λ kept. kept.items) w.kept-is ∙ w.in_ok-push.ensures.items
          ∙ kept_more _ _ _ _ false c.loop-ip-test.true c.loop-ip.invariant (sym w.if-not-has.true ∙ found)
      | else-not-has w ↦
          ap (λ kept. kept.items) w.kept-is
          ∙ kept_more _ _ _ _ true c.loop-ip-test.true c.loop-ip.invariant (sym w.if-not-has.false ∙ found)
    ]

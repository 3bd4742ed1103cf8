use Rattle.std.proofs.Common.{sym, ◌∙◌, ap}
use Rattle.he_turns.proofs.Cleaned.{cleaned_left, cleaned_next}
use Rattle.he_turns.proofs.hearing.cleaned.Goals as goal
use Rattle.he_turns.proofs.hearing.cleaned.Goals.{then-is_wanted+in_ok-push, else-is_wanted}

pub loop-one-preserved : goal.loop-one-preserved
loop-one-preserved c = elim c.if-is_wanted.branch [
  | then-is_wanted+in_ok-push w ↦ ap (λ v. v.items) w.clean-is ∙ cleaned_next c.args.family c.args.told.now c.loop-one.clean.items c.loop-one.one-index _ c.loop-one-test.true c.loop-one.invariant _ (sym (rw c.deref.ensures.value at c.is_wanted.ensures) ∙ w.if-is_wanted.true) w.in_ok-push.ensures.items
  | else-is_wanted w ↦ ap (λ v. v.items) w.clean-is ∙ cleaned_left c.args.family c.args.told.now c.loop-one.clean.items c.loop-one.one-index _ c.loop-one-test.true c.loop-one.invariant (sym (rw c.deref.ensures.value at c.is_wanted.ensures) ∙ w.if-is_wanted.false)
]

use Rattle.std.proofs.Common.{sym, subst, ap}
use Rattle.std.specs.Prelude.{All}
use Rattle.he_board.specs.declared.view.View.{View}
use Rattle.he_board.specs.Passes.{notes}
use Rattle.he_pool.specs.Batch.{IsOfSuccess}
use Rattle.he_pool.proofs.Pooling.{looked_later, not_late, offered_later, later_then, skipped_honest, success_honest, other_honest, success_real}
use Rattle.he_pool.proofs.attempting.run_attempt.Goals as goal

pub returns-then-attempt-seen-clause-later : goal.returns-then-attempt-seen-clause-later
returns-then-attempt-seen-clause-later g c = looked_later _ _ _ _ c.least-seen.ensures.noted

pub returns-then-attempt-seen-clause-honest : goal.returns-then-attempt-seen-clause-honest
returns-then-attempt-seen-clause-honest g c = skipped_honest _ _ _ c.least-seen.result _ _ _ c.least-seen.ensures.noted c.if-attempt-seen.true

pub returns-in-Succeeded-clause-later : goal.returns-in-Succeeded-clause-later
returns-in-Succeeded-clause-later g c = later_then _ _ _ (looked_later _ _ _ _ c.least-seen.ensures.noted) (offered_later _ _ _ _ _ c.offer.ensures.noted)

pub returns-in-Succeeded-clause-real : goal.returns-in-Succeeded-clause-real
returns-in-Succeeded-clause-real g c = λ races stands real.
    success_real races c.args.timeline.now c.args.attempts.now c.args.attempt.now c.args.number c.args.place c.in-Succeeded.finish _ (notes c.least-seen.new.pass) _ stands c.requires.are c.requires.stands c.in-Succeeded.ensures.value c.requires.place c.offer.ensures.noted
    (subst (λ (v : View). All (IsOfSuccess races) v.offers) (sym c.least-seen.ensures.noted) real)

pub returns-in-Succeeded-clause-honest : goal.returns-in-Succeeded-clause-honest
returns-in-Succeeded-clause-honest g c = success_honest _ _ _ _ _ _ _ _ c.offer.ensures.noted c.in-Succeeded.ensures.value

pub returns-in-Succeeded-clause-skips : goal.returns-in-Succeeded-clause-skips
returns-in-Succeeded-clause-skips g c = λ late. not_late c.args.number c.least-seen.result _ _ _ c.least-seen.ensures.below c.if-attempt-seen.false late

pub returns-in_default : goal.returns-in_default
returns-in_default g c = record {
  own = c.least-seen.ensures.own;
  parts = ap (λ (v : View). v.parts) c.least-seen.ensures.noted;
  taken = ap (λ (v : View). v.taken) c.least-seen.ensures.noted;
  known = ap (λ (v : View). v.known) c.least-seen.ensures.noted;
  later = looked_later _ _ _ _ c.least-seen.ensures.noted;
  real = λ races stands real. subst (λ (v : View). All (IsOfSuccess races) v.offers) (sym c.least-seen.ensures.noted) real;
  honest = other_honest _ _ _ _ _ _ c.fate_of-fate.ensures.value c.in_default.not-Succeeded;
  skips = λ late. not_late c.args.number c.least-seen.result _ _ _ c.least-seen.ensures.below c.if-attempt-seen.false late;
}

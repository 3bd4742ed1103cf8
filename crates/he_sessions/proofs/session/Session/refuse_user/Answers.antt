use Rattle.std.proofs.Common.{ap, inl, inr, refl, rules, ◌∷◌}
use Rattle.he_front.specs.declared.replies.Ended.TheVariants as ends
use Rattle.he_sessions.proofs.Stages.{asked_for}
use Rattle.he_sessions.proofs.session.Session.refuse_user.Goals as goal

pub returns-in-Ok-clause-step : goal.returns-in-Ok-clause-step
returns-in-Ok-clause-step g c = record {
  goes_on = λ first at. c.close.ensures.told first _ _ (asked_for _ _ first _ _ c.requires.asks.told c.requires.asks.asks at)
      (ends.NoUser, refl, inr (inl (ap (λ xs. 5 ∷ 2 ∷ xs) c.in-Ok.ensures, refl)));
  follows = search rules;
  same = search rules;
}

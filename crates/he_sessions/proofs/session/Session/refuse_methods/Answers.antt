use Rattle.std.proofs.Common.{◌∙◌, ap, inl, refl, rules}
use Rattle.he_sessions.proofs.Going.{silent}
use Rattle.he_handshake.specs.Asks.{ended_without_method}
use Rattle.he_sessions.proofs.session.Session.refuse_methods.Goals as goal

pub returns-in-Ok-clause-step : goal.returns-in-Ok-clause-step
returns-in-Ok-clause-step g c = record {
  goes_on = λ first at. c.close.ensures.told first _ _ (silent _ _ first _ _ c.requires.asks.told c.requires.asks.asks at) (
    c.ended_without_method-ended.result,
    refl,
    inl (c.in-Ok.ensures, c.ended_without_method-ended.ensures ∙ ap ended_without_method c.users.ensures),
  );
  follows = search rules;
  same = search rules;
}

use Rattle.std.proofs.Common.{◌∙◌, ap, drop, rules}
use Rattle.he_sessions.proofs.Going.{as_protocol, has_asked, spoken}
use Rattle.he_sessions.proofs.session.Session.begin.Goals as goal

pub returns-in-Ok-clause-step : goal.returns-in-Ok-clause-step
returns-in-Ok-clause-step g c = record {
  goes_on = λ first at. record {
    has_asked = has_asked _ _ first _ _ _ _ _ _ c.requires.asks (c.in-Ok.ensures.early ∙ ap (drop c.args.len) c.deref-3.ensures.value) at;
    can = c.in-Ok.ensures.can;
    gives = c.in-Ok.ensures.named;
  };
  follows = search rules;
  same = search rules;
}

pub returns-clause-step : goal.returns-clause-step
returns-clause-step g c = record {
  goes_on = λ first at. c.lose.ensures.told first _
      (as_protocol _ _ first _ _ _ _ c.protocol_of.ensures (spoken _ _ first _ _ _ c.requires.asks.told c.requires.asks.asks.0 at));
  follows = search rules;
  same = search rules;
}

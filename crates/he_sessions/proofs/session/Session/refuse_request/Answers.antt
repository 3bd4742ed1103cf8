use Rattle.std.proofs.Common.{rules}
use Rattle.he_sessions.proofs.Going.{spoken}
use Rattle.he_sessions.proofs.session.Session.refuse_request.Goals as goal

pub returns-clause-step : goal.returns-clause-step
returns-clause-step g c = record {
  goes_on = λ first at. c.refuse.ensures.told first _ (spoken _ _ first _ _ _ c.requires.asks.told c.requires.asks.asks.0 at);
  follows = search rules;
  same = search rules;
}

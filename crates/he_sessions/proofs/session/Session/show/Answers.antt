use Rattle.std.proofs.Common.{rules}
use Rattle.he_sessions.proofs.Going.{silent}
use Rattle.he_sessions.proofs.session.Session.show.Goals as goal

pub returns-in-Ok-page-clause-step : goal.returns-in-Ok-page-clause-step
returns-in-Ok-page-clause-step g c = record {
  goes_on = λ first at. c.close.ensures.told first _ _ (silent _ _ first _ _ c.requires.asks.told c.requires.asks.asks.0 at)
      (c.args.extent, c.args.path, c.args.host, c.requires.asks.asks.1);
  follows = search rules;
  same = search rules;
}

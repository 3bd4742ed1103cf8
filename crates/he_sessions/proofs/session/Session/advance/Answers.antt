use Rattle.std.proofs.Common.{rules}
use Rattle.he_sessions.proofs.Stages.{is_advanced}
use Rattle.he_sessions.proofs.session.Session.advance.Goals as goal

pub returns-in-Ok-clause-step : goal.returns-in-Ok-clause-step
returns-in-Ok-clause-step g c = record {
  goes_on = λ first at. is_advanced _ _ first _ _ _ _ _ c.requires.asks c.in-Ok.ensures at;
  follows = search rules;
  same = search rules;
}

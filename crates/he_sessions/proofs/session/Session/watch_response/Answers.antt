use Rattle.std.proofs.Common.{refl, rules}
use Rattle.he_sessions.proofs.Forwarded.{is_forwarding}
use Rattle.he_sessions.proofs.session.Session.watch_response.Goals as goal

pub returns-clause-step : goal.returns-clause-step
returns-clause-step g c = record {
  goes_on = λ first at. is_forwarding _ _ first _ _ _ _ _ _ refl at;
  follows = search rules;
  same = search rules;
}

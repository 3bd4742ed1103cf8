use Rattle.std.proofs.Common.{refl, rules}
use Rattle.he_sessions.proofs.Going.{is_lingering}
use Rattle.he_sessions.proofs.session.Session.linger.Goals as goal

pub returns-in-Pending-clause-step : goal.returns-in-Pending-clause-step
returns-in-Pending-clause-step g c = record {
  goes_on = λ first at. is_lingering _ _ first _ _ _ _ refl refl c.poll_linger.ensures.lingers at;
  follows = search rules;
  same = search rules;
}

pub returns-in-Ready-Ok-clause-step : goal.returns-in-Ready-Ok-clause-step
returns-in-Ready-Ok-clause-step g c = record {
  goes_on = λ first at. is_lingering _ _ first _ _ _ _ refl refl c.poll_linger.ensures.lingers at;
  follows = search rules;
  same = search rules;
}

use Rattle.std.proofs.Common.{rules}
use Rattle.he_sessions.proofs.session.Session.step_cutting.Goals as goal

pub returns-in-Pending-clause-step : goal.returns-in-Pending-clause-step
returns-in-Pending-clause-step g c = record {
  goes_on = λ first at. record { client = at.client; server = at.server; was = at.was; broke = at.broke; is_cut = at.is_cut };
  follows = search rules;
  same = search rules;
}

pub returns-in-Ready-clause-step : goal.returns-in-Ready-clause-step
returns-in-Ready-clause-step g c = record {
  goes_on = λ first at. record { client = at.client; server = at.server; was = at.was; broke = at.broke; is_cut = at.is_cut };
  follows = search rules;
  same = search rules;
}

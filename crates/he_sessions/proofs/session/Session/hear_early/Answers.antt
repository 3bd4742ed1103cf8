use Rattle.std.proofs.Common.{rules}
use Rattle.he_sessions.proofs.Going.{early_heard}
use Rattle.he_sessions.proofs.session.Session.hear_early.Goals as goal

pub returns-in-Pending-clause-step : goal.returns-in-Pending-clause-step
returns-in-Pending-clause-step g c = record {
  goes_on = λ first at. record {
    has_asked = early_heard _ _ first _ _ _ _ _ _ _ c.in-Pending.ensures.heard at.has_asked;
    can = at.can;
    gives = at.gives;
  };
  follows = search rules;
  same = search rules;
}

pub returns-in-Ready-Octets-clause-step : goal.returns-in-Ready-Octets-clause-step
returns-in-Ready-Octets-clause-step g c = record {
  goes_on = λ first at. record {
    has_asked = early_heard _ _ first _ _ _ _ _ _ _ (rw c.in-Ready-Octets.field-0-is at c.in-Ready-Octets.ensures.heard) at.has_asked;
    can = at.can;
    gives = at.gives;
  };
  follows = search rules;
  same = search rules;
}

pub returns-in-Ready-End-clause-step : goal.returns-in-Ready-End-clause-step
returns-in-Ready-End-clause-step g c = record {
  goes_on = λ first at. record {
    has_asked = early_heard _ _ first _ _ _ _ _ _ _ (rw c.in-Ready-End.field-0-is at c.in-Ready-End.ensures.heard) at.has_asked;
    can = at.can;
    gives = at.gives;
  };
  follows = search rules;
  same = search rules;
}

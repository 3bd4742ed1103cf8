use Rattle.std.proofs.Common.{rules}
use Rattle.he_sessions.proofs.Talking.{talks_heard}
use Rattle.he_sessions.proofs.session.Session.hear.Goals as goal

pub returns-else-has_lost-clause-step : goal.returns-else-has_lost-clause-step
returns-else-has_lost-clause-step g c = record {
  goes_on = λ first at. record {
    greeting = at.greeting;
    greeted = at.greeted;
    talks = talks_heard _ _ first _ _ _ _ _ _ _ c.in-Pending.ensures.heard at.talks;
  };
  follows = search rules;
  same = search rules;
}

pub returns-in-Ready-Octets-clause-step : goal.returns-in-Ready-Octets-clause-step
returns-in-Ready-Octets-clause-step g c = record {
  goes_on = λ first at. record {
    greeting = at.greeting;
    greeted = at.greeted;
    talks = talks_heard _ _ first _ _ _ _ _ _ _ (rw c.in-Ready-Octets.field-0-is at c.in-Ready-Octets.ensures.heard) at.talks;
  };
  follows = search rules;
  same = search rules;
}

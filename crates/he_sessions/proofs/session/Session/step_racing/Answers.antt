use Rattle.std.proofs.Common.{rules}
use Rattle.he_sessions.proofs.Going.{as_protocol}
use Rattle.he_sessions.proofs.session.Session.step_racing.Goals as goal

pub returns-in-Pending-clause-step : goal.returns-in-Pending-clause-step
returns-in-Pending-clause-step g c = record {
  goes_on = λ first at. c.hear_early.ensures.step.goes_on first (record {
    has_asked = at.has_asked;
    can = c.in-Pending.ensures.again;
    gives = λ end given. at.gives end (c.in-Pending.ensures.same end given);
  });
  follows = c.hear_early.ensures.step.follows;
  same = search rules;
}

pub returns-in-Ready-Ok-clause-step : goal.returns-in-Ready-Ok-clause-step
returns-in-Ready-Ok-clause-step g c = record {
  goes_on = λ first at. c.open.ensures.asked first at.has_asked;
  follows = c.open.ensures.next.follows c.args.racing;
  same = search rules;
}

pub returns-in-Ready-Err-clause-step : goal.returns-in-Ready-Err-clause-step
returns-in-Ready-Err-clause-step g c = record {
  goes_on = λ first at. c.lose.ensures.told first _ (as_protocol _ _ first _ _ _ _ c.protocol_of.ensures at.has_asked.talks);
  follows = c.lose.ensures.next.follows c.args.racing;
  same = search rules;
}

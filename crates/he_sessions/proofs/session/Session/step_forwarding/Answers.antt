use Rattle.std.proofs.Common.{rules}
use Rattle.he_sessions.proofs.Forwarded.{is_forwarded}
use Rattle.he_sessions.proofs.session.Session.step_forwarding.Goals as goal

pub returns-then-is_answered-clause-step : goal.returns-then-is_answered-clause-step
returns-then-is_answered-clause-step g c = record {
  goes_on = λ first at. c.part.ensures.step.goes_on first (is_forwarded _ _ first _ _ _ _ _ _ _ _ c.poll_tunnel-polled.ensures.moves at);
  follows = c.part.ensures.step.follows;
  same = search rules;
}

pub returns-in-Pending-clause-step : goal.returns-in-Pending-clause-step
returns-in-Pending-clause-step g c = record {
  goes_on = λ first at. c.watch_response.ensures.step.goes_on first (is_forwarded _ _ first _ _ _ _ _ _ _ _ c.poll_tunnel-polled.ensures.moves at);
  follows = c.watch_response.ensures.step.follows;
  same = search rules;
}

pub returns-in-Ready-Err-clause-step : goal.returns-in-Ready-Err-clause-step
returns-in-Ready-Err-clause-step g c = record {
  goes_on = λ first at. c.break_off.ensures.step.goes_on first (is_forwarded _ _ first _ _ _ _ _ _ _ _ c.poll_tunnel-polled.ensures.moves at);
  follows = c.break_off.ensures.step.follows;
  same = search rules;
}

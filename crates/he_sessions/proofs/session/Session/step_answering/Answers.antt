use Rattle.std.proofs.Common.{rules}
use Rattle.he_sessions.proofs.Talking.{talks_written}
use Rattle.he_sessions.proofs.session.Session.step_answering.Goals as goal

pub returns-in-Pending-clause-step : goal.returns-in-Pending-clause-step
returns-in-Pending-clause-step g c = record {
  goes_on = λ first at. record {
    asks = at.asks;
    told = at.told;
    opened = at.opened;
    is_won = at.is_won;
    talks = talks_written _ _ first _ _ _ _ _ _ c.poll_write_all_buf.ensures.bytes at.talks;
  };
  follows = search rules;
  same = search rules;
}

pub returns-in-Ready-Ok-clause-step : goal.returns-in-Ready-Ok-clause-step
returns-in-Ready-Ok-clause-step g c = record {
  goes_on = λ first at. c.relay.ensures.step.goes_on first (record {
    asks = at.asks;
    told = at.told;
    opened = at.opened;
    is_won = at.is_won;
    talks = talks_written _ _ first _ _ _ _ _ _ c.poll_write_all_buf.ensures.bytes at.talks;
  });
  follows = c.relay.ensures.step.follows;
  same = search rules;
}

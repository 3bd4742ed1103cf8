use Rattle.std.proofs.Common.{inl, rules, sym}
use Rattle.he_sessions.proofs.Going.{is_relayed}
use Rattle.he_sessions.proofs.session.Session.step_relaying.Goals as goal

pub returns-in-Pending-clause-step : goal.returns-in-Pending-clause-step
returns-in-Pending-clause-step g c = record {
  goes_on = λ first at. c.watch.ensures.step.goes_on first (is_relayed _ _ first _ _ _ _ _ _ _ c.poll_tunnel-polled.ensures.moves at);
  follows = c.watch.ensures.step.follows;
  same = search rules;
}

pub returns-in-Ready-Err-clause-step : goal.returns-in-Ready-Err-clause-step
returns-in-Ready-Err-clause-step g c = record {
  goes_on = λ first at. record {
    client = _;
    server = _;
    was = inl (record {
      tunnel = c.poll_tunnel-polled.new.self;
      was = is_relayed _ _ first _ _ _ _ _ _ _ c.poll_tunnel-polled.ensures.moves at;
      is_client = sym c.into_ends-client.ensures.0;
      is_server = sym c.into_ends-client.ensures.1;
    });
    broke = c.in-Ready-Err.broke;
    is_cut = c.cutting_of.ensures;
  };
  follows = search rules;
  same = search rules;
}

use Rattle.std.proofs.Common.{arith, inr, rules, sym}
use Rattle.he_sessions.proofs.Forwarded.{inner_of, is_unanswered, last_follows, server_of}
use Rattle.he_sessions.proofs.session.Session.break_off.Goals as goal

pub returns-then-eq-clause-step : goal.returns-then-eq-clause-step
returns-then-eq-clause-step g c = record {
  goes_on = λ first at. c.excuse.ensures.told first _ (is_unanswered _ _ first _ _ _ _ c.args.forwarding.tunnel _
      (inner_of _ _ _ c.into_ends-client.ensures.0 c.into_inner.ensures)
      (omega (arith, c.traffic-received.ensures.1, c.if-received-eq0.true)) at);
  follows = last_follows c.args.forwarding _ c.excuse.ensures.last;
  same = search rules;
}

pub returns-clause-step : goal.returns-clause-step
returns-clause-step g c = record {
  goes_on = λ first at. record {
    client = _;
    server = _;
    was = inr (record {
      tunnel = c.args.forwarding.tunnel;
      was = at;
      is_client = sym (inner_of _ _ _ c.into_ends-client.ensures.0 c.into_inner-2.ensures);
      is_server = sym (server_of _ _ _ c.into_ends-client.ensures.1 c.into_inner-3.ensures);
    });
    broke = c.args.broke;
    is_cut = c.cutting_of.ensures;
  };
  follows = search rules;
  same = search rules;
}

use Rattle.std.proofs.Common.{rules}
use Rattle.he_sessions.proofs.Forwarded.{inner_of, is_parting}
use Rattle.he_sessions.proofs.session.Session.part.Goals as goal

pub returns-clause-step : goal.returns-clause-step
returns-clause-step g c = record {
  goes_on = λ first at. is_parting _ _ first _ _ _ _ c.args.forwarding.tunnel _
      (inner_of _ _ _ c.into_ends-client.ensures.0 c.into_inner.ensures) c.requires.answered at;
  follows = search rules;
  same = search rules;
}

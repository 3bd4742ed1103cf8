use Rattle.std.proofs.Common.{◌≡◌, rules}
use Rattle.he_relay.proofs.relaying.relay.Goals as goal

pub returns : goal.returns
returns g c =
    let taken : c.input-1.given.0 ≡ c.join_mut-received.new.g.0.now = search rules in
    let put : c.output-1.given.0 ≡ c.join_mut-received.new.f.1.now = search rules in
    rw (taken, put) (c.join_mut-received.ensures.1.met.1, c.join_mut-received.ensures.0.met.1)

use Rattle.he_proxy_request.proofs.Refusing.{bracketed_none}
use Rattle.he_proxy_request.proofs.rules.read_bracketed.Goals as goal

pub returns-in-Some-clause-none : goal.returns-in-Some-clause-none
returns-in-Some-clause-none c =
    bracketed_none c.args.text.now c.in-Some.inner.now c.as_bytes.result.now c.read_network.result c.in-Some.ensures.some c.as_bytes.ensures.value
    c.read_network.ensures.none

pub returns-in-None-clause-none : goal.returns-in-None-clause-none
returns-in-None-clause-none c =
    λ network named. c.in-None.ensures.none named.0 named.1

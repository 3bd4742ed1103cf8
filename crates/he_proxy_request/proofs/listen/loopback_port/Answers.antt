use Rattle.he_proxy_request.proofs.Ports.{none_of_both}
use Rattle.he_proxy_request.proofs.listen.loopback_port.Goals as goal

pub returns-in-None-clause-none : goal.returns-in-None-clause-none
returns-in-None-clause-none c =
    none_of_both c.as_slice.result.now c.args.text.now c.port_after.result c.as_slice.ensures c.in-None.ensures.none c.port_after.ensures.none

use Rattle.he_proxy_request.proofs.Refusing.{ports_none}
use Rattle.he_proxy_request.proofs.rules.read_ports.Goals as goal

pub returns-in-None-clause-none : goal.returns-in-None-clause-none
returns-in-None-clause-none c =
    ports_none c.args.text.now c.as_bytes.result.now c.read_range.result c.as_bytes.ensures.value c.in-None.ensures.none
    c.read_range.ensures.none

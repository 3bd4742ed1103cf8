use Rattle.he_proxy_request.proofs.Refusing.{any_none}
use Rattle.he_proxy_request.proofs.rules.read_any_network.Goals as goal

pub returns-in-None-clause-none : goal.returns-in-None-clause-none
returns-in-None-clause-none c =
    any_none c.args.text.now c.as_bytes.result.now c.read_bracketed.result c.as_bytes.ensures.value c.in-None.ensures.none
    c.read_bracketed.ensures.none

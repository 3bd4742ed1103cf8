use Rattle.he_proxy_request.proofs.Refusing.{rule_none}
use Rattle.he_proxy_request.proofs.rules.read_rule.Goals as goal

pub returns-in-None-clause-none : goal.returns-in-None-clause-none
returns-in-None-clause-none c =
    rule_none c.args.text.now c.read_with_ports.result c.in-None.ensures.none c.read_with_ports.ensures.none

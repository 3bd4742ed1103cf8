use Rattle.he_proxy_request.proofs.Refusing.{none_of_targets}
use Rattle.he_proxy_request.proofs.rules.read_targets.Goals as goal

pub returns-in-None-clause-none : goal.returns-in-None-clause-none
returns-in-None-clause-none c =
    none_of_targets c.args.text.now c.read_named.result c.in-None.ensures.none c.read_named.ensures.none

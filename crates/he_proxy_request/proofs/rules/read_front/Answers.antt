use Rattle.he_proxy_request.proofs.Refusing.{bare_front, front_none}
use Rattle.he_proxy_request.proofs.rules.read_front.Goals as goal

pub returns-then-is_bare-clause-none : goal.returns-then-is_bare-clause-none
returns-then-is_bare-clause-none c =
    bare_front c.args.text.now c.as_bytes.result.now c.is_empty.result c.is_bare.result c.is_empty.ensures c.if-is_empty.false
    c.as_bytes.ensures.value c.is_bare.ensures c.if-is_bare.true

pub returns-clause-none : goal.returns-clause-none
returns-clause-none c =
    front_none c.args.text.now c.is_empty.result c.read_targets.result c.is_empty.ensures c.if-is_empty.false c.read_targets.ensures.none

use Rattle.std.proofs.Common.{◌∙◌, None, lit<, sym}
use Rattle.std.proofs.lemmas.Str.Pattern.{strip_prefix_char}
use Rattle.he_proxy_request.proofs.Refusing.{lacks_host}
use Rattle.he_proxy_request.proofs.rules.read_named.Goals as goal

pub returns-else-is_name-2-clause-none : goal.returns-else-is_name-2-clause-none
returns-else-is_name-2-clause-none c =
    lacks_host c.args.text.now c.as_bytes-in-None.result.now
    (strip_prefix_char 46 c.args.text.now None c.in-None.ensures.cases (lit< tt)) c.as_bytes-in-None.ensures.value
    (sym c.is_name-in-None.ensures ∙ c.if-is_name-2.false)

use Rattle.std.proofs.Common.{◌++◌, ◌∷◌, [], None, Some, lit<}
use Rattle.std.proofs.lemmas.Str.Pattern.{strip_prefix_char, strip_suffix_char}
use Rattle.he_proxy_request.proofs.Refusing.{inner_none}
use Rattle.he_proxy_request.proofs.rules.inner.Goals as goal

pub returns-in-Some-clause-none : goal.returns-in-Some-clause-none
returns-in-Some-clause-none c =
    inner_none c.args.text.now c.in-Some.rest.now c.strip_suffix.result
    (strip_prefix_char 91 c.args.text.now (Some c.in-Some.rest) c.in-Some.ensures.cases (lit< tt))
    (strip_suffix_char 93 c.in-Some.rest.now c.strip_suffix.result c.strip_suffix.ensures.cases (lit< tt))

pub returns-in-None-clause-none : goal.returns-in-None-clause-none
returns-in-None-clause-none c =
    λ inner is. strip_prefix_char 91 c.args.text.now None c.in-None.ensures.cases (lit< tt) (inner ++ 93 ∷ []) is

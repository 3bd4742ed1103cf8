use Rattle.std.proofs.Common.{◌∙◌, ◌+◌, None, Some, ap, arith, drop, length, lit<, sym}
use Rattle.std.proofs.lemmas.List.{drop_all}
use Rattle.std.proofs.lemmas.Str.Pattern.{split_once_first}
use Rattle.he_options.proofs.rows.list_of.Goals as goal

pub returns-in-Some : goal.returns-in-Some
returns-in-Some c = (split_once_first 61 c.args.text.now (Some (c.in-Some.field-0-0, c.in-Some.list)) c.in-Some.ensures.cases (lit< tt)).2

pub returns-in-None : goal.returns-in-None
returns-in-None c =
    let lacks = split_once_first 61 c.args.text.now None c.in-None.ensures.cases (lit< tt) in
    sym (ap (λ n. drop (n + 1) c.args.text.now) lacks ∙ drop_all (length c.args.text.now + 1) c.args.text.now (omega arith))

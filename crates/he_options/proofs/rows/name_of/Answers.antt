use Rattle.std.proofs.Common.{◌∙◌, None, Some, ap, arith, length, lit<, sym, take}
use Rattle.std.proofs.lemmas.List.{take_all}
use Rattle.std.proofs.lemmas.Str.Pattern.{split_once_first}
use Rattle.he_options.proofs.rows.name_of.Goals as goal

pub returns-in-Some : goal.returns-in-Some
returns-in-Some c = (split_once_first 61 c.args.text.now (Some (c.in-Some.name, c.in-Some.field-0-1)) c.in-Some.ensures.cases (lit< tt)).1

pub returns-in-None : goal.returns-in-None
returns-in-None c =
    let lacks = split_once_first 61 c.args.text.now None c.in-None.ensures.cases (lit< tt) in
    sym (ap (λ n. take n c.args.text.now) lacks ∙ take_all (length c.args.text.now) c.args.text.now (omega arith))

use Rattle.std.proofs.Common.{◌∙◌, ap, lit<}
use Rattle.std.specs.Option.{unwrap_or}
use Rattle.std.proofs.lemmas.Iterator.Consumers.{nth_from_yields_List}
use Rattle.std.proofs.lemmas.Iterator.Splits.{YieldsList-from_str_split}
use Rattle.he_options.proofs.InRows.{lent_or}
use Rattle.he_options.proofs.rows.number_at.Goals as goal

pub returns : goal.returns
returns c =
    ap (λ word. word.now) c.unwrap_or.ensures
    ∙ lent_or c.nth.result c.args.list
    ∙ ap (λ word. unwrap_or word c.args.list.now)
    (nth_from_yields_List _ _ c.args.row c.nth.ensures.ran
    (YieldsList-from_str_split 44 c.args.list.now (lit< tt) c.split.ensures.text c.split.ensures.has_more c.split.ensures.pattern))

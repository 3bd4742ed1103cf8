use Rattle.std.proofs.Common.{[], ◌∙◌, ap, lit<}
use Rattle.std.specs.Option.{unwrap_or}
use Rattle.std.proofs.lemmas.Iterator.Consumers.{nth_from_yields_List}
use Rattle.std.proofs.lemmas.Iterator.Splits.{YieldsList-from_str_split}
use Rattle.he_compare.proofs.Forms.{lent_or}
use Rattle.he_compare.proofs.hours.piece.Goals as goal

pub returns : goal.returns
returns c =
    ap (λ word. word.now) c.unwrap_or.ensures
    ∙ lent_or c.nth.result _
    ∙ ap (λ word. unwrap_or word [])
    (nth_from_yields_List _ _ c.args.place c.nth.ensures.ran
    (YieldsList-from_str_split 47 c.args.name.now (lit< tt) c.split.ensures.text c.split.ensures.has_more c.split.ensures.pattern))

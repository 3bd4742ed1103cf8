use Rattle.std.proofs.Common.{rules, sym, ◌∙◌}
use Rattle.std.proofs.lemmas.Iterator.Search.{any_from_yields_List}
use Rattle.std.proofs.lemmas.Iterator.{YieldsList-from_slice}
use borrow.Author.Tests.{tests}
use Rattle.he_names.proofs.Texts.{list_any_texts}
use Rattle.he_names.specs.Order.{is_root}
use Rattle.he_names.proofs.order.has_root.Goals as goal

pub returns : goal.returns
returns c =
    any_from_yields_List (λ other. is_root other.now) _ _ _ c.any.ensures.ran
    (YieldsList-from_slice c.args.search.now cc) (λ x b q k. search (rules, tests))
    ∙ sym (list_any_texts is_root c.args.search.now)

use Rattle.std.proofs.Common.{rules, sym, ◌∙◌}
use Rattle.std.specs.Str.{bytes_eq}
use Rattle.std.proofs.lemmas.Iterator.Search.{any_from_yields_List}
use Rattle.std.proofs.lemmas.Iterator.{YieldsList-from_slice}
use borrow.Author.Tests.{tests}
use Rattle.he_names.proofs.Texts.{list_any_texts}
use Rattle.he_names.proofs.fields.has_text.Goals as goal

pub returns : goal.returns
returns c =
    any_from_yields_List (λ other. bytes_eq c.args.text.now other.now) _ _ _ c.any.ensures.ran
    (YieldsList-from_slice c.args.others.now cc) (λ x b q k. search (rules, tests))
    ∙ sym (list_any_texts (bytes_eq c.args.text.now) c.args.others.now)

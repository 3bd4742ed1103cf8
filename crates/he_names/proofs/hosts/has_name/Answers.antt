use Rattle.std.proofs.Common.{rules, sym, ◌∙◌}
use Rattle.std.specs.Str.{str_eq_ignore_ascii_case}
use Rattle.std.proofs.lemmas.Iterator.Search.{any_from_yields_List}
use Rattle.std.proofs.lemmas.Iterator.{YieldsList-from_slice}
use borrow.Author.Tests.{tests}
use Rattle.he_names.proofs.Texts.{list_any_texts}
use Rattle.he_names.proofs.hosts.has_name.Goals as goal

pub returns : goal.returns
returns c =
    any_from_yields_List (λ other. str_eq_ignore_ascii_case c.args.name.now other.now) _ _ _ c.any.ensures.ran
    (YieldsList-from_slice c.args.names.now cc) (λ x b q k. search (rules, tests))
    ∙ sym (list_any_texts (str_eq_ignore_ascii_case c.args.name.now) c.args.names.now)

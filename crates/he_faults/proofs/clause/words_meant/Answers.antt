use Rattle.std.proofs.Common.{◌≡◌, ◌==◌, ◌∙◌, refl, rules, Option, Some, None, option_map}
use Rattle.std.proofs.lemmas.Iterator.Consumers.{nth_from_yields_List, YieldsList-at, YieldsList-from_filter_map}
use Rattle.std.proofs.lemmas.Iterator.Splits.{YieldsList-from_slice_split}
use borrow.Author.Tests.{tests}
use Rattle.he_faults.specs.Meant.{meant_of}
use Rattle.he_faults.proofs.clause.words_meant.Goals as goal

as_it_is : {A : Type 0} (found : Option A) → found ≡ option_map (λ x. x) found
as_it_is None = refl
as_it_is (Some x) = refl

pub returns : goal.returns
returns c = as_it_is c.nth.result ∙ nth_from_yields_List _ _ 0 c.nth.ensures.ran
    (YieldsList-from_filter_map _ meant_of
    (YieldsList-at c.filter_map.ensures.source
    (YieldsList-from_slice_split _ (λ byte. byte == 32) c.args.line.now c.split.ensures.rest c.split.ensures.done c.split.ensures.closure
    (λ x b q k. search (rules, tests))))
    c.filter_map.ensures.closure (λ x r q k. search (rules, tests)))

use Rattle.std.proofs.Common.{length, nat_lt, rules}
use Rattle.std.proofs.lemmas.Iterator.Consumers.{map_from_collect, YieldsList-at, YieldsList-from_filter}
use Rattle.std.proofs.lemmas.Iterator.Splits.{YieldsList-from_slice_split}
use borrow.Author.Tests.{tests}
use Rattle.he_names.specs.Fields.{fields_of, is_blank}
use Rattle.he_names.proofs.fields.fields.Goals as goal

pub returns : goal.returns
unfolding fields_of
returns g c = map_from_collect _ c.collect.ensures.ran
    (YieldsList-from_filter _ (λ field. nat_lt 0 (length field))
    (YieldsList-at c.filter.ensures.source
    (YieldsList-from_slice_split _ is_blank c.args.line.now c.split.ensures.rest c.split.ensures.done c.split.ensures.closure
    (λ x b q k. search (rules, tests))))
    c.filter.ensures.closure (λ x b q k. search (rules, tests)))

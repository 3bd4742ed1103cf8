use Rattle.std.proofs.Common.{◌≡◌, rules}
use Rattle.std.proofs.lemmas.Fn.{always_returns_same}
use Rattle.std.proofs.lemmas.List.Sorted.{IsNonDecreasingBy-from_sort_by_key}
use Rattle.he_compare.specs.Groups.{division_of, key_of}
use Rattle.he_compare.proofs.groups.sort_by_key.Goals as goal

pub returns-clause-sorted : goal.returns-clause-sorted
returns-clause-sorted g c =
    IsNonDecreasingBy-from_sort_by_key (key_of (division_of c.args.grouping)) _ c.in_ok-sort_by_key.ensures.sorted (λ a r q k. search rules)

pub returns-clause-stable : goal.returns-clause-stable
returns-clause-stable g c = c.sort_by_key.ensures.stable (key_of (division_of c.args.grouping)) (always_returns_same _ (λ a r. r ≡ key_of (division_of c.args.grouping) a.0.now) _ (λ a r q k. search rules))

use Rattle.std.proofs.Common.{rules}
use Rattle.std.proofs.lemmas.List.Sorted.{answers_always, IsNonDecreasingBy-from_sort}
use Rattle.std.proofs.lemmas.Result.{on_ok_weaker}
use Rattle.he_host.specs.Gathering.{rank_found}
use Rattle.he_host.proofs.gathering.rank_routes.Goals as goal

pub returns : goal.returns
returns g c =
    let keys = answers_always _ _ _ (λ f a r next called. search rules) in
    on_ok_weaker c.sort_by_key.result
    (λ sorted. record {
      same = c.sort_by_key.ensures.permutation;
      ascends = IsNonDecreasingBy-from_sort rank_found _ (sorted rank_found keys);
      stable = c.sort_by_key.ensures.stable rank_found keys;
    })
    c.sort_by_key.ensures.sorted

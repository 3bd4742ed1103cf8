use Rattle.std.proofs.Common.{◌≡◌, sym, ◌∙◌, ap, subst, List, length}
use Rattle.std.specs.Prelude.{IsPermutation, IsSorted}
use Rattle.std.proofs.lemmas.List.Sorted.{length_permutation}
use Rattle.he_select.specs.declared.ranking.Key.{Key}
use Rattle.he_select.specs.DestinationKeys.{key_cmp, keys_of}
use Rattle.he_select.proofs.Listing.{written_back}
use Rattle.he_select.proofs.sorting.sorted_keys.Goals as goal

pub returns : goal.returns
returns g c =
    let keyed : c.deref_mut.result.now ≡ keys_of 0 c.args.all_attributes.now = c.deref_mut.ensures.value ∙ c.in_ok-keys.ensures in
    let kept = length_permutation c.deref_mut.result.now c.sort.new.keys c.sort.ensures.permutation ∙ ap (λ (l : List Key). length l) c.deref_mut.ensures.value in
    let now = written_back c.in_ok-keys.keys.items c.sort.new.keys c.in_ok-keys.keys.len kept (sym (ap (λ (l : List Key). length l) c.deref_mut.ensures.value) ∙ c.deref_mut.ensures.len) in
    record {
      permutation = subst (λ (l : List Key). IsPermutation (keys_of 0 c.args.all_attributes.now) l) (sym now) (subst (λ (l : List Key). IsPermutation l c.sort.new.keys) keyed c.sort.ensures.permutation);
      sorted = subst (IsSorted key_cmp) (sym now) c.sort.ensures.sorted;
    }

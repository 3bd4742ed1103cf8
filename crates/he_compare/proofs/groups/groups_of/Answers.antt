use Rattle.std.proofs.Common.{IsPermutation, List, subst}
use Rattle.std.specs.List.Sorted.{IsStableByKey}
use Rattle.std.specs.Ordering.{nat_cmp}
use Rattle.std.proofs.lemmas.Result.{IfOk-weaker}
use Rattle.he_totals.specs.declared.kept.Kept.{Kept}
use Rattle.he_compare.specs.Groups.{division_of, key_of}
use Rattle.he_compare.proofs.Grouped.{moved}
use Rattle.he_compare.proofs.groups.groups_of.Goals as goal

pub returns : goal.returns
returns g c =
    let division = division_of c.args.grouping in
    let (permuted, stable) = subst (λ (l : List Kept). IsPermutation l c.sort_by_key.new.kept.items × IsStableByKey (key_of division) nat_cmp l c.sort_by_key.new.kept.items) c.in_ok-sorted.ensures.items
    (c.sort_by_key.ensures.permutation, c.sort_by_key.ensures.stable) in
    IfOk-weaker c.cut.result _ _
    (λ groups is. moved division c.args.kept.now c.sort_by_key.new.kept.items groups.items permuted stable (rw c.as_slice.ensures.value at is))
    c.cut.ensures

use Rattle.std.proofs.Common.{◌≡◌, ◌∙◌, refl, sym, subst, List, map}
use Rattle.std.specs.Prelude.{IsPermutation, IsSorted}
use Rattle.std.proofs.lemmas.Result.{IfOk-weaker}
use Rattle.he_addr.specs.declared.ip.Ip.{Ip}
use Rattle.he_addr.specs.Ip.{IsUsable}
use Rattle.he_select.specs.declared.ranking.Key.{Key}
use Rattle.he_select.specs.DestinationKeys.{destination_key, key_cmp}
use Rattle.he_select.specs.Preference.{IsOrder, members_from, order_of}
use Rattle.he_select.specs.Selection.{SelectionInput}
use Rattle.he_select.specs.Attributes.{attributes_of}
use Rattle.he_select.specs.LookUps.{rows_of}
use Rattle.he_select.proofs.Arranged.{each_usable}
use Rattle.he_select.proofs.Chosen.{all_keys}
use Rattle.he_select.proofs.Counting.{Each}
use Rattle.he_select.proofs.Families.{parts_families}
use Rattle.he_select.proofs.Keyed.{PartsFamilies}
use Rattle.he_select.proofs.Picked.{picked, picked_is, picked_mapped, picked_order}
use Rattle.he_select.proofs.sorting.sort_attributes.Goals as goal

pub returns : goal.returns
returns g c =
    let input : SelectionInput = record { rows = rows_of c.args.table; sources = c.args.sources.now; routes = c.args.routes.now; known = c.args.known.now } in
    let ips : List Ip = c.args.addresses.now in
    let made : c.in_ok-all_attributes.all_attributes.items ≡ map (attributes_of input) ips = c.in_ok-all_attributes.ensures.all_attributes in
    let keys : List Key = c.deref-3.result.now in
    let moved : IsPermutation (map (destination_key input) (members_from 0 ips)) keys =
    subst (λ (l : List Key). IsPermutation (map (destination_key input) (members_from 0 ips)) l) (sym c.deref-3.ensures.value) (subst (λ (l : List Key). IsPermutation l c.in_ok-keys.keys.items) (all_keys input ips c.deref.result.now _ (c.deref.ensures.value ∙ made) refl) c.in_ok-keys.ensures.permutation) in
    let sorted : IsSorted key_cmp keys = subst (IsSorted key_cmp) (sym c.deref-3.ensures.value) c.in_ok-keys.ensures.sorted in
    let parts : PartsFamilies (rows_of c.args.table) = parts_families (rows_of c.args.table) c.requires.admitted in
    let usable : Each IsUsable ips = each_usable ips c.requires.usable c.in_ok-all_attributes.ensures.range in
    let is : picked ips keys ≡ order_of input ips = picked_is input parts ips usable keys moved sorted in
    let order : IsOrder input ips (order_of input ips) = subst (IsOrder input ips) is (picked_order input parts ips usable keys moved sorted) in
    let value : picked c.deref-2.result.now keys ≡ map (attributes_of input) (order_of input ips) =
    picked_mapped input parts ips usable keys moved sorted (attributes_of input) c.deref-2.result.now (c.deref-2.ensures.value ∙ made) in
    record {
      order = IfOk-weaker c.pick.result _ _ (λ v e. order) c.pick.ensures;
      value = IfOk-weaker c.pick.result _ _ (λ v e. e ∙ value) c.pick.ensures;
    }

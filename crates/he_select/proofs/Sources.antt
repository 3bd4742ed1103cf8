-- The source rules by keys, and the source that a loop over labelled sources finds.
use Rattle.std.proofs.Common.{◌≡◌, ℕ, Bool, false, not, [], ◌∷◌, map, refl, sym, ◌∙◌, ap}
use Rattle.std.specs.Prelude.{Option, None, Some, filter, option_map, nat_eq, nat_lt, ◌==◌}
use Rattle.std.specs.Int.{abs_diff}
use Rattle.std.specs.Option.{option_map_or}
use Rattle.std.specs.Cmp.{IsTotalOrder, IsStrictWeakOrder, bool_cmp_total}
use Rattle.std.specs.declared.cmp.Ordering.{Ordering}
use Rattle.std.specs.Ordering.{nat_cmp, bool_cmp, is_lt, ordering_then}
use Rattle.std.proofs.lemmas.Cmp.{nat_cmp_total, then_total, on_total, back_total}
use Rattle.std.proofs.lemmas.List.Sorted.{ranks_by}
use Rattle.he_addr.specs.declared.ip.Ip.{Ip}
use Rattle.he_addr.specs.Ip.{same_ip}
use Rattle.he_addr.specs.Prefix.{common_of}
use Rattle.he_select.specs.declared.host.Source.{Source}
use Rattle.he_select.specs.declared.host.Route.{Route}
use Rattle.he_select.specs.declared.selection.Destination.{Destination}
use Rattle.he_select.specs.declared.selection.LabelledSource.{LabelledSource}
use Rattle.he_select.specs.LabelledRules.{admits, destination_of, is_better_labelled, labelled_of, labelled_rules, late_rules}
use Rattle.he_select.specs.Rules.{best_by, first_of, yes_first}
use Rattle.he_select.specs.Selection.{SelectionInput, avoids_deprecated, candidates, is_better, is_candidate, prefers_appropriate_scope, prefers_longest_match, prefers_matching_label, prefers_same_address, prefers_temporary, route_of, source_of, source_rules}
use Rattle.he_select.specs.Tables.{label_of}
use Rattle.he_select.specs.Walking.{walk_fitting}
use Rattle.he_select.proofs.Listing.{best_by-map, best_by-same, filter-map}
use Rattle.he_select.proofs.Orders.{no_as_less, scope_then, then_equal, then_same, yes_as_less}
use Rattle.he_select.proofs.Walks.{best_fitting}

-- the source rules as numbers: the best source has the least key
pub record SourceKey : Type 0 where
  pub other_address : Bool
  pub narrow : Bool
  pub scope_distance : ℕ
  pub deprecated : Bool
  pub other_interface : Bool
  pub other_label : Bool
  pub lasting : Bool
  pub common : ℕ

unfoldable pub source_key : Destination → LabelledSource → SourceKey
source_key destination labelled = record {
  other_address = not (same_ip labelled.source.ip destination.ip);
  narrow = nat_lt labelled.scope destination.scope;
  scope_distance = abs_diff labelled.scope destination.scope;
  deprecated = labelled.source.deprecated;
  other_interface = not (labelled.source.interface == destination.interface);
  other_label = not (labelled.label == destination.label);
  lasting = not labelled.source.temporary;
  common = common_of labelled.source.ip labelled.source.plen destination.ip;
}

unfoldable pub source_key_cmp : SourceKey → SourceKey → Ordering
source_key_cmp a b =
    ordering_then (bool_cmp a.other_address b.other_address)
    (ordering_then (bool_cmp a.narrow b.narrow)
    (ordering_then (nat_cmp a.scope_distance b.scope_distance)
    (ordering_then (bool_cmp a.deprecated b.deprecated)
    (ordering_then (bool_cmp a.other_interface b.other_interface)
    (ordering_then (bool_cmp a.other_label b.other_label)
    (ordering_then (bool_cmp a.lasting b.lasting)
    (nat_cmp b.common a.common)))))))

pub source_keys_total : IsTotalOrder source_key_cmp
unfolding source_key_cmp
source_keys_total =
    then_total (on_total (λ (k : SourceKey). k.other_address) bool_cmp_total)
    (then_total (on_total (λ (k : SourceKey). k.narrow) bool_cmp_total)
    (then_total (on_total (λ (k : SourceKey). k.scope_distance) nat_cmp_total)
    (then_total (on_total (λ (k : SourceKey). k.deprecated) bool_cmp_total)
    (then_total (on_total (λ (k : SourceKey). k.other_interface) bool_cmp_total)
    (then_total (on_total (λ (k : SourceKey). k.other_label) bool_cmp_total)
    (then_total (on_total (λ (k : SourceKey). k.lasting) bool_cmp_total)
    (back_total (on_total (λ (k : SourceKey). k.common) nat_cmp_total))))))))

pub labelled_by_keys : (destination : Destination) (a b : LabelledSource)
    → first_of (labelled_rules destination) a b ≡ source_key_cmp (source_key destination a) (source_key destination b)
unfolding labelled_rules late_rules source_key source_key_cmp
labelled_by_keys destination a b =
    then_same (yes_as_less (same_ip a.source.ip destination.ip) (same_ip b.source.ip destination.ip))
    (scope_then destination.scope a.scope b.scope
    (then_same (no_as_less a.source.deprecated b.source.deprecated)
    (then_same (yes_as_less (nat_eq a.source.interface destination.interface) (nat_eq b.source.interface destination.interface))
    (then_same (yes_as_less (nat_eq a.label destination.label) (nat_eq b.label destination.label))
    (then_same (yes_as_less a.source.temporary b.source.temporary)
    (then_equal (nat_cmp (common_of b.source.ip b.source.plen destination.ip) (common_of a.source.ip a.source.plen destination.ip))))))))

abbrev pub destined : SelectionInput → Ip → Route → Destination
destined input ip route = destination_of ip (label_of input.rows ip) route

-- the rules by what the code keeps are the rules: a route that there is decides rule 5 by its interface
pub labelled_alike : (input : SelectionInput) (ip : Ip) (route : Route) → route_of input ip ≡ Some route → (a b : Source)
    → first_of (source_rules input ip) a b ≡ first_of (labelled_rules (destined input ip route)) (labelled_of input.rows a) (labelled_of input.rows b)
unfolding source_rules labelled_rules late_rules
labelled_alike input ip route e a b =
    ap (λ (o : Option Route). first_of (prefers_same_address ip ∷ prefers_appropriate_scope ip ∷ avoids_deprecated ∷ yes_first (λ (s : Source). option_map_or (λ (r : Route). s.interface == r.interface) o false) ∷ prefers_matching_label input ip ∷ prefers_temporary ∷ prefers_longest_match ip ∷ []) a b) e

abbrev pub key_for : SelectionInput → Ip → Route → Source → SourceKey
key_for input ip route source = source_key (destined input ip route) (labelled_of input.rows source)

pub by_source_keys : (input : SelectionInput) (ip : Ip) (route : Route) → route_of input ip ≡ Some route → (a b : Source)
    → first_of (source_rules input ip) a b ≡ source_key_cmp (key_for input ip route a) (key_for input ip route b)
by_source_keys input ip route e a b =
    labelled_alike input ip route e a b ∙ labelled_by_keys (destined input ip route) (labelled_of input.rows a) (labelled_of input.rows b)

pub ranks_alike : {X : Type 0} (lt other : X → X → Bool) → ((a b : X) → other a b ≡ lt a b) → IsStrictWeakOrder lt → IsStrictWeakOrder other
ranks_alike lt other e o = record {
  one_way = λ x y h. e y x ∙ o.one_way x y (sym (e x y) ∙ h);
  chain = λ x y z h k. e x z ∙ o.chain x y z (sym (e x y) ∙ h) (sym (e y z) ∙ k);
}

labelled_rank : (destination : Destination) → IsStrictWeakOrder (is_better_labelled destination)
labelled_rank destination = ranks_alike _ (is_better_labelled destination) (λ a b. ap is_lt (labelled_by_keys destination a b)) (ranks_by source_keys_total (source_key destination))

-- the loop over the labelled sources finds the source
pub source_walked : (input : SelectionInput) (ip : Ip) (route : Route) → route_of input ip ≡ Some route
    → walk_fitting (admits (destined input ip route)) (is_better_labelled (destined input ip route)) None (map (labelled_of input.rows) input.sources)
    ≡ option_map (labelled_of input.rows) (source_of input ip)
unfolding source_of candidates
source_walked input ip route e =
    let to : Source → LabelledSource = labelled_of input.rows in
    let fits : LabelledSource → Bool = admits (destined input ip route) in
    let better : LabelledSource → LabelledSource → Bool = is_better_labelled (destined input ip route) in
    best_fitting better (labelled_rank (destined input ip route)) fits (map to input.sources)
    ∙ ap (best_by better) (filter-map to fits input.sources)
    ∙ best_by-map to better (filter (is_candidate route ip) input.sources)
    ∙ ap (option_map to) (best_by-same (λ a b. better (to a) (to b)) (is_better input ip) (λ a b. sym (ap is_lt (labelled_alike input ip route e a b))) (filter (is_candidate route ip) input.sources))
    ∙ ap (λ o. option_map to (best_by (is_better input ip) (option_map_or (λ r. filter (is_candidate r ip) input.sources) o []))) (sym e)

-- without a route there is no source
pub no_source : (input : SelectionInput) (ip : Ip) → route_of input ip ≡ None → source_of input ip ≡ None
unfolding source_of candidates
no_source input ip e = ap (λ o. best_by (is_better input ip) (option_map_or (λ r. filter (is_candidate r ip) input.sources) o [])) e

pub labelled_ip : (input : SelectionInput) (o : Option Source) → option_map (λ (l : LabelledSource). l.source.ip) (option_map (labelled_of input.rows) o) ≡ option_map (λ (s : Source). s.ip) o
labelled_ip input None = refl
labelled_ip input (Some source) = refl

-- the address of what the loop finds
pub walked_ip : (input : SelectionInput) (ip : Ip) (route : Route) → route_of input ip ≡ Some route → (best : Option LabelledSource)
    → best ≡ walk_fitting (admits (destined input ip route)) (is_better_labelled (destined input ip route)) None (map (labelled_of input.rows) input.sources)
    → option_map (λ (l : LabelledSource). l.source.ip) best ≡ option_map (λ (s : Source). s.ip) (source_of input ip)
walked_ip input ip route e best is =
    ap (option_map (λ (l : LabelledSource). l.source.ip)) (is ∙ source_walked input ip route e) ∙ labelled_ip input (source_of input ip)

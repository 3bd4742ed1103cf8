-- The laws that src/laws.rt states.
use Rattle.std.proofs.Common.{◌≡◌, ◌<◌, ◌⊎◌, true, List, [], ◌∷◌, length, refl, sym, ◌∙◌, ap, arith, inl, inr}
use Rattle.std.specs.Prelude.{Option, None, Some, filter, is_some}
use Rattle.std.specs.Option.{option_map_or}
use Rattle.std.specs.Cmp.{IsStrictWeakOrder}
use Rattle.std.specs.declared.cmp.Ordering.{Ordering}
use Rattle.std.specs.declared.cmp.Ordering.TheVariants.{Less, Equal, Greater}
use Rattle.std.specs.Ordering.{is_lt, ordering_reverse}
use Rattle.std.proofs.lemmas.Bool.{false≢true}
use Rattle.std.proofs.lemmas.Cmp.{tied_itself}
use Rattle.std.proofs.lemmas.List.Sorted.{ranks_by}
use Rattle.std.proofs.Math.Nat.{div-eq_of_lt}
use Rattle.std.proofs.Common.{eq-eqb, ◌+◌, ◌*◌, ◌/◌, ◌^◌}
use Rattle.he_addr.specs.declared.ip.Ip.{Ip}
use Rattle.he_addr.specs.declared.ip.Ip.TheVariants.{V4, V6}
use Rattle.he_addr.specs.Ip.{InRange}
use Rattle.he_addr.specs.Prefix.{contains}
use Rattle.he_select.specs.declared.host.Route.{Route}
use Rattle.he_select.specs.declared.host.Source.{Source}
use Rattle.he_select.specs.DestinationKeys.{key_cmp, destination_key}
use Rattle.he_select.specs.Laws.{EveryAddressHasRow, PreferenceIsByKeys, PreferenceIsStrictTotalOrder, ReachableWhereCandidates}
use Rattle.he_select.specs.Rules.{best_by}
use Rattle.he_select.specs.Selection.{SelectionInput, candidates, is_better, is_candidate, route_of, source_of}
use Rattle.he_select.specs.TableFaults.{has_row, table_causes, table_fault}
use Rattle.he_select.specs.Tables.{any_address}
use Rattle.he_select.proofs.Admitted.{no_fault}
use Rattle.he_select.proofs.Causes.{none_stands, not_caused}
use Rattle.std.proofs.lemmas.Bool.{not-false}
use Rattle.he_select.proofs.Families.{best_is, parts_families, row_at, v6_starts}
use Rattle.he_select.proofs.Keyed.{by_keys, keys_total, same_place}
use Rattle.he_select.proofs.Orders.{was_less}
use Rattle.he_select.proofs.Sources.{by_source_keys, key_for, ranks_alike, source_keys_total}

pub preference_by_keys : PreferenceIsByKeys
preference_by_keys input admitted a b ua ub = ap is_lt (by_keys input (parts_families input.rows admitted) a b ua ub)

one_first : (o p : Ordering) → p ≡ ordering_reverse o → (o ≡ Equal → ⊥) → (is_lt o ≡ true) ⊎ (is_lt p ≡ true)
one_first Less p e h = inl refl
one_first Equal p e h = absurd (h refl)
one_first Greater p e h = inr (ap is_lt e)

pub preference_orders : PreferenceIsStrictTotalOrder
unfolding destination_key
preference_orders input admitted =
    let keyed = preference_by_keys input admitted in
    record {
      irreflexive = λ a ua. keyed a a ua ua ∙ ap is_lt (tied_itself keys_total (destination_key input a));
      transitive = λ a b c ua ub uc ab bc.
          keyed a c ua uc ∙ ap is_lt (keys_total.trans (destination_key input a) (destination_key input b) (destination_key input c) (was_less _ (sym (keyed a b ua ub) ∙ ab)) (was_less _ (sym (keyed b c ub uc) ∙ bc)));
      total = λ a b ua ub apart.
          elim (one_first (key_cmp (destination_key input a) (destination_key input b)) (key_cmp (destination_key input b) (destination_key input a)) (keys_total.antisymm (destination_key input b) (destination_key input a)) (λ tied. apart (same_place (destination_key input a) (destination_key input b) tied))) [
            | inl ab ↦ inl (keyed a b ua ub ∙ ab)
            | inr ba ↦ inr (keyed b a ub ua ∙ ba)
          ];
    }

better_ranks : (input : SelectionInput) (ip : Ip) (route : Route) → route_of input ip ≡ Some route → IsStrictWeakOrder (is_better input ip)
better_ranks input ip route e =
    ranks_alike _ (is_better input ip) (λ a b. ap is_lt (by_source_keys input ip route e a b)) (ranks_by source_keys_total (key_for input ip route))

reached : (input : SelectionInput) (ip : Ip) (list : List Source) → candidates input ip ≡ list → (route : Option Route) → route_of input ip ≡ route → 0 < length list → is_some (source_of input ip) ≡ true
unfolding source_of candidates
reached input ip [] is route e some = absurd (omega arith)
reached input ip (s ∷ ss) is None e some =
    let none : candidates input ip ≡ [] = ap (λ o. option_map_or (λ r. filter (is_candidate r ip) input.sources) o []) e in
    let clash : s ∷ ss ≡ [] = sym is ∙ none in
    cc
reached input ip (s ∷ ss) is (Some route) e some =
    let best = best_is (is_better input ip) (better_ranks input ip route e) (s ∷ ss) s (inl refl) in
    ap (λ l. is_some (best_by (is_better input ip) l)) is ∙ ap is_some best.1

some_candidate : (input : SelectionInput) (ip : Ip) (list : List Source) → candidates input ip ≡ list → is_some (source_of input ip) ≡ true → 0 < length list
unfolding source_of
some_candidate input ip [] is h = absurd (false≢true (sym (ap (λ l. is_some (best_by (is_better input ip) l)) is) ∙ h))
some_candidate input ip (s ∷ ss) is h = omega arith

pub reachable_law : ReachableWhereCandidates
reachable_law input ip = (some_candidate input ip (candidates input ip) refl, reached input ip (candidates input ip) refl (route_of input ip) refl)

starts_anything : (ip : Ip) → InRange ip → contains any_address ip ≡ true
starts_anything (V4 n) small = eq-eqb ((65535 * 2 ^ 32 + n) / 2 ^ 128) 0 (div-eq_of_lt (omega arith))
starts_anything (V6 n) small = v6_starts n small

pub row_law : EveryAddressHasRow
unfolding table_fault
row_law rows admitted ip small =
    let default : has_row rows any_address ≡ true = not-false _ (not_caused _ _ (none_stands (table_causes rows) (no_fault rows admitted)).1.1.0) in
    let row = row_at rows ip any_address default (starts_anything ip small) in
    ap is_some row.1

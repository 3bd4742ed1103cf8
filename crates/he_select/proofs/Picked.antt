-- The members of a list at the places of its sorted keys are in the order of preference.
use Rattle.std.proofs.Common.{◌≡◌, ℕ, suc, ◌+◌, List, [], ◌∷◌, map, refl, sym, ◌∙◌, ap, subst, arith, slice_get}
use Rattle.std.specs.Prelude.{Option, None, Some, option_map, filter_map, IsPermutation, IsSorted}
use Rattle.std.specs.List.{cons_option}
use Rattle.std.proofs.lemmas.List.Sorted.{IsPermutation-map}
use Rattle.std.proofs.lemmas.Option.{slice_get-map}
use Rattle.he_addr.specs.declared.ip.Ip.{Ip}
use Rattle.he_addr.specs.declared.ip.Ip.TheVariants.{V4}
use Rattle.he_addr.specs.Ip.{IsUsable}
use Rattle.he_select.specs.declared.ranking.Key.{Key}
use Rattle.he_select.specs.DestinationKeys.{Keyed, destination_key, key_cmp, keyed_of}
use Rattle.he_select.specs.Preference.{IsOrder, Member, members_from, order_of}
use Rattle.he_select.specs.Selection.{SelectionInput}
use Rattle.he_select.proofs.Arranged.{each-permutation, is_order, keyed}
use Rattle.he_select.proofs.Counting.{Each, Rising, rising}
use Rattle.he_select.proofs.Keyed.{PartsFamilies, keys_total}
use Rattle.he_select.proofs.Ordered.{is_order_of}

-- what is there, or else any address
abbrev or_any : Option Ip → Ip
or_any None = V4 0
or_any (Some ip) = ip

abbrev pub picked : {X : Type 0} → List X → List Key → List X
picked list keys = filter_map (λ (key : Key). slice_get list key.place) keys

abbrev with_ip : List Ip → Key → Keyed
with_ip ips key = record { key = key; ip = or_any (slice_get ips key.place) }

abbrev IsThere : List Ip → Key → Type 0
IsThere ips key = slice_get ips key.place ≡ Some (or_any (slice_get ips key.place))

picked_ips : (ips : List Ip) (keys : List Key) → Each (IsThere ips) keys → picked ips keys ≡ map (λ (r : Keyed). r.ip) (map (with_ip ips) keys)
picked_ips ips [] each = refl
picked_ips ips (key ∷ keys) each =
    ap (λ o. cons_option o (picked ips keys)) each.0 ∙ ap (λ l. or_any (slice_get ips key.place) ∷ l) (picked_ips ips keys each.1)

each-map : {X Y : Type 0} (P : Y → Type 0) (f : X → Y) (xs : List X) → Each (λ x. P (f x)) xs → Each P (map f xs)
each-map P f [] each = tt
each-map P f (x ∷ xs) each = (each.0, each-map P f xs each.1)

rising_with : (ips : List Ip) (keys : List Key) → Rising key_cmp keys_total (λ (k : Key). k) keys → Rising key_cmp keys_total (λ (r : Keyed). r.key) (map (with_ip ips) keys)
rising_with ips [] up = tt
rising_with ips (key ∷ keys) up = (each-map _ (with_ip ips) keys up.0, rising_with ips keys up.1)

mapped_option : {X Y : Type 0} (f : X → Y) (o : Option X) (rest : List X) → cons_option (option_map f o) (map f rest) ≡ map f (cons_option o rest)
mapped_option f None rest = refl
mapped_option f (Some x) rest = refl

picked-map : {X Y : Type 0} (f : X → Y) (list : List X) (keys : List Key) → picked (map f list) keys ≡ map f (picked list keys)
picked-map f list [] = refl
picked-map f list (key ∷ keys) =
    ap (λ o. cons_option o (picked (map f list) keys)) (slice_get-map f list key.place)
    ∙ ap (λ l. cons_option (option_map f (slice_get list key.place)) l) (picked-map f list keys)
    ∙ mapped_option f (slice_get list key.place) (picked list keys)

module _ (input : SelectionInput) where
  abbrev pub keys_from : ℕ → List Ip → List Key
  keys_from place ips = map (destination_key input) (members_from place ips)

  -- a key names the place of its address
  named : (all rest : List Ip) (place : ℕ) → ((i : ℕ) → slice_get all (place + i) ≡ slice_get rest i)
      → (map (with_ip all) (keys_from place rest) ≡ keyed input place rest) × Each (IsThere all) (keys_from place rest)
  unfolding destination_key
  named all [] place h = (refl, tt)
  named all (x ∷ xs) place h =
      let m : Member = record { ip = x; place = place } in
      let here : slice_get all place ≡ Some x = ap (slice_get all) (omega arith) ∙ h 0 in
      let rest = named all xs (place + 1) (λ i. ap (slice_get all) (omega arith) ∙ h (suc i)) in
      let made : Option Ip → Keyed = λ o. record { key = destination_key input m; ip = or_any o } in (
        ap (λ o. made o ∷ map (with_ip all) (keys_from (place + 1) xs)) here ∙ ap (λ l. keyed_of input m ∷ l) rest.0,
        (here ∙ sym (ap (λ o. Some (or_any o)) here), rest.1),
      )

  own : (ips : List Ip) → (map (with_ip ips) (keys_from 0 ips) ≡ keyed input 0 ips) × Each (IsThere ips) (keys_from 0 ips)
  own ips = named ips ips 0 (λ i. ap (slice_get ips) (omega arith))

  module _ (parts : PartsFamilies input.rows) (ips : List Ip) (usable : Each IsUsable ips) (keys : List Key) (moved : IsPermutation (keys_from 0 ips) keys) (sorted : IsSorted key_cmp keys) where
    by_address : picked ips keys ≡ map (λ (r : Keyed). r.ip) (map (with_ip ips) keys)
    by_address = picked_ips ips keys (each-permutation (IsThere ips) (keys_from 0 ips) keys moved (own ips).1)

    all_moved : IsPermutation (keyed input 0 ips) (map (with_ip ips) keys)
    all_moved = subst (λ (l : List Keyed). IsPermutation l (map (with_ip ips) keys)) (own ips).0 (IsPermutation-map (with_ip ips) (keys_from 0 ips) keys moved)

    up : Rising key_cmp keys_total (λ (r : Keyed). r.key) (map (with_ip ips) keys)
    up = rising_with ips keys (rising key_cmp keys_total (λ (k : Key). k) keys sorted)

    pub picked_order : IsOrder input ips (picked ips keys)
    picked_order = subst (IsOrder input ips) (sym by_address) (is_order input parts ips usable (map (with_ip ips) keys) all_moved up)

    pub picked_is : picked ips keys ≡ order_of input ips
    picked_is = is_order_of input parts ips usable (map (with_ip ips) keys) all_moved up (picked ips keys) picked_order

    pub picked_mapped : {X : Type 0} (f : Ip → X) (list : List X) → list ≡ map f ips → picked list keys ≡ map f (order_of input ips)
    picked_mapped f list is = ap (λ l. picked l keys) is ∙ picked-map f ips keys ∙ ap (map f) picked_is

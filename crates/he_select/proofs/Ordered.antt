-- Destinations sorted by their keys are the list that the definition names.
use Rattle.std.proofs.Common.{◌≡◌, ℕ, zero, suc, ◌+◌, ◌<◌, ◌≤◌, Bool, true, false, List, [], ◌∷◌, map, length, refl, sym, ◌∙◌, ap, subst, arith, slice_get, eq-eqb, zero-add, inl, inr}
use Rattle.std.specs.Prelude.{◌==◌, Option, None, Some, option_map, count_by, find, filter_map, IsPermutation}
use Rattle.std.specs.List.{cons_option, range_with_len}
use Rattle.std.specs.declared.cmp.Ordering.{Ordering}
use Rattle.std.specs.declared.cmp.Ordering.TheVariants.{Less, Equal, Greater}
use Rattle.std.specs.Ordering.{is_lt, is_eq}
use Rattle.std.proofs.lemmas.Bool.{cases_Bool, eqb-true}
use Rattle.std.proofs.lemmas.List.Sorted.{length_permutation}
use Rattle.std.proofs.lemmas.List.{length-map}
use Rattle.he_addr.specs.declared.ip.Ip.{Ip}
use Rattle.he_addr.specs.Ip.{IsUsable}
use Rattle.he_select.specs.declared.ranking.Key.{Key}
use Rattle.he_select.specs.DestinationKeys.{Keyed, destination_key, key_cmp, keyed_of}
use Rattle.he_select.specs.Laws.{IsOneOrder}
use Rattle.he_select.specs.Preference.{IsOrder, Member, member_at, members_from, order_of, prefers}
use Rattle.he_select.specs.Selection.{SelectionInput}
use Rattle.he_select.proofs.Arranged.{count-map, count-same, each-permutation, ips_back, is_order, keyed, own_places, preferred_by_keys}
use Rattle.he_select.proofs.Counting.{Each, count-permutation, count_cons, counted_at, each_at, not_equal, one_if, Rising}
use Rattle.he_select.proofs.Inserted.{sorted_by, sorted_moves, sorted_rises}
use Rattle.he_select.proofs.Keyed.{PartsFamilies, keys_total, same_place}

was_equal : (o : Ordering) → is_eq o ≡ true → o ≡ Equal
was_equal Less e = cc
was_equal Equal e = refl
was_equal Greater e = cc

one_more : {X Y : Type 0} (g : X → Y) (o : Option X) (rest : List X) (y : Y) → option_map g o ≡ Some y → map g (cons_option o rest) ≡ y ∷ map g rest
one_more g None rest y e = cc
one_more g (Some x) rest y e = let same : g x ≡ y = cc in ap (λ z. z ∷ map g rest) same

-- a list is what is found for each of its places
listed : {X Y : Type 0} (f : ℕ → Option X) (g : X → Y) (ys : List Y) (a n : ℕ) → n ≡ length ys
    → ((k : ℕ) → k < n → option_map g (f (a + k)) ≡ slice_get ys k) → ys ≡ map g (filter_map f (range_with_len a n))
listed f g [] a zero e h = refl
listed f g [] a (suc n) e h = absurd (omega arith)
listed f g (y ∷ ys) a zero e h = absurd (omega arith)
listed f g (y ∷ ys) a (suc n) e h =
    let here : option_map g (f a) ≡ Some y = ap (λ i. option_map g (f i)) (omega arith) ∙ h 0 (omega arith) in
    ap (λ l. y ∷ l) (listed f g ys (a + 1) n (omega arith) (λ k lt. ap (λ i. option_map g (f i)) (omega arith) ∙ h (suc k) (omega arith)))
    ∙ sym (one_more g (f a) (filter_map f (range_with_len (a + 1) n)) y here)

at_place : {X : Type 0} (xs : List X) (k : ℕ) → k < length xs → (x : X) × (slice_get xs k ≡ Some x)
at_place [] k lt = absurd (omega arith)
at_place (x ∷ xs) zero lt = (x, refl)
at_place (x ∷ xs) (suc k) lt = at_place xs k (omega arith)

find_some : {X : Type 0} (p : X → Bool) (xs : List X) (i : ℕ) (x : X) → slice_get xs i ≡ Some x → p x ≡ true → (z : X) × (find p xs ≡ Some z)
find_some p [] i x at passes = cc
find_some p (y ∷ ys) zero x at passes =
    let same : y ≡ x = cc in
    let here : p y ≡ true = ap p same ∙ passes in
    (y, rw here refl)
find_some p (y ∷ ys) (suc i) x at passes =
    elim (cases_Bool (p y)) [
      | inl here ↦ (y, rw here refl)
      | inr gone ↦ let rest = find_some p ys i x at passes in (rest.0, rw gone rest.1)
    ]

member_stands : (ips : List Ip) (place i q : ℕ) (ip : Ip) → q ≡ place + i → slice_get ips i ≡ Some ip → slice_get (members_from place ips) i ≡ Some (record { ip = ip; place = q })
member_stands [] place i q ip e at = cc
member_stands (x ∷ xs) place zero q ip e at =
    let same : x ≡ ip = cc in
    let here : place ≡ q = omega arith in
    let made : ℕ → Ip → Option Member = λ p y. Some (record { ip = y; place = p }) in
    ap (made place) same ∙ ap (λ p. made p ip) here
member_stands (x ∷ xs) place (suc i) q ip e at = member_stands xs (place + 1) i q ip (omega arith) at

-- what is found stands in the list at its place, and passes
member_found : (p : Member → Bool) (ips : List Ip) (place : ℕ) (z : Member) → find p (members_from place ips) ≡ Some z
    → (i : ℕ) × (z.place ≡ place + i) × (slice_get ips i ≡ Some z.ip) × (p z ≡ true)
member_found p [] place z e = cc
member_found p (x ∷ xs) place z e =
    let m : Member = record { ip = x; place = place } in
    elim (cases_Bool (p m)) [
      | inl here ↦
          let same : m ≡ z = let found = rw here at e in cc in
          (0, ap (λ (w : Member). w.place) (sym same) ∙ omega arith, ap (λ (w : Member). Some w.ip) same, ap p (sym same) ∙ here)
      | inr gone ↦
          let rest = member_found p xs (place + 1) z (rw gone at e) in
          (suc rest.0, omega (arith, rest.1), rest.2, rest.3)
    ]

module _ (input : SelectionInput) where
  abbrev ties : Key → Keyed → Bool
  ties k r = is_eq (key_cmp r.key k)

  none_before : (ips : List Ip) (place : ℕ) (k : Key) → k.place < place → count_by (ties k) (keyed input place ips) ≡ 0
  unfolding destination_key
  none_before [] place k lt = refl
  none_before (x ∷ xs) place k lt =
      let r : Keyed = keyed_of input (record { ip = x; place = place }) in
      let apart : is_eq (key_cmp r.key k) ≡ false = not_equal (key_cmp r.key k) (λ tied. let same : place ≡ k.place = same_place r.key k tied in absurd (omega arith)) in
      count_cons (ties k) r (keyed input (place + 1) xs) ∙ ap (λ b. one_if b + count_by (ties k) (keyed input (place + 1) xs)) apart
      ∙ (let rest = none_before xs (place + 1) k (omega arith) in omega (arith, rest))

  -- no two have one key
  at_most_once : (ips : List Ip) (place : ℕ) (k : Key) → count_by (ties k) (keyed input place ips) ≤ 1
  unfolding destination_key
  at_most_once [] place k = omega arith
  at_most_once (x ∷ xs) place k =
      let r : Keyed = keyed_of input (record { ip = x; place = place }) in
      let counted = count_cons (ties k) r (keyed input (place + 1) xs) in
      elim (cases_Bool (ties k r)) [
        | inl tied ↦
            let same : place ≡ k.place = same_place r.key k (was_equal (key_cmp r.key k) tied) in
            let rest = none_before xs (place + 1) k (omega arith) in
            let one = ap (λ b. one_if b + count_by (ties k) (keyed input (place + 1) xs)) tied in
            omega (arith, counted, one, rest)
        | inr apart ↦
            let rest = at_most_once xs (place + 1) k in
            let none = ap (λ b. one_if b + count_by (ties k) (keyed input (place + 1) xs)) apart in
            omega (arith, counted, none, rest)
      ]

  -- each has the key of the member that it names
  own_keys : (ips : List Ip) (place : ℕ) → Each (λ (r : Keyed). r.key ≡ destination_key input (record { ip = r.ip; place = r.key.place })) (keyed input place ips)
  unfolding destination_key
  own_keys [] place = tt
  own_keys (x ∷ xs) place = (refl, own_keys xs (place + 1))

  -- the number of members preferred to the one that stands at a place of the sorted list
  preferred_before : PartsFamilies input.rows → (ips : List Ip) → Each IsUsable ips → (ys : List Keyed)
      → IsPermutation (keyed input 0 ips) ys → Rising key_cmp keys_total (λ (r : Keyed). r.key) ys → (k : ℕ) (y : Keyed) → slice_get ys k ≡ Some y
      → (slice_get ips y.key.place ≡ Some y.ip) × (count_by (λ other. prefers input other (record { ip = y.ip; place = y.key.place })) (members_from 0 ips) ≡ k)
  preferred_before parts ips usable ys moved sorted k y at =
      let m : Member = record { ip = y.ip; place = y.key.place } in
      let own : y.key ≡ destination_key input m = each_at _ ys (each-permutation _ (keyed input 0 ips) ys moved (own_keys ips 0)) k y at in
      let stands : slice_get ips y.key.place ≡ Some y.ip =
      each_at (λ (r : Keyed). slice_get ips r.key.place ≡ Some r.ip) ys (each-permutation _ (keyed input 0 ips) ys moved (own_places input ips ips 0 (λ i. ap (slice_get ips) (omega arith)))) k y at in
      let less : Key → Keyed → Bool = λ q r. is_lt (key_cmp r.key q) in
      let once : count_by (ties y.key) ys ≤ 1 = omega (arith, count-permutation (ties y.key) (keyed input 0 ips) ys moved, at_most_once ips 0 y.key) in
      let here : count_by (less y.key) ys ≡ k =
      counted_at key_cmp keys_total (λ (r : Keyed). r.key) ys sorted k y at once in
      let counts : count_by (less (destination_key input m)) ys ≡ count_by (λ other. prefers input other m) (members_from 0 ips) =
      count-permutation (less (destination_key input m)) (keyed input 0 ips) ys moved
      ∙ count-map (less (destination_key input m)) (keyed_of input) (members_from 0 ips)
      ∙ count-same _ _ (members_from 0 ips) (preferred_by_keys input parts ips 0 usable m (each_at IsUsable ips usable y.key.place y.ip stands)) in
      (stands, sym counts ∙ ap (λ q. count_by (less q) ys) (sym own) ∙ here)

  -- the member that is found for a place is the one that stands there
  found_there : (ips result : List Ip) → IsOrder input ips result → (k : ℕ) (m : Member) → slice_get ips m.place ≡ Some m.ip
      → count_by (λ other. prefers input other m) (members_from 0 ips) ≡ k
      → option_map (λ (m : Member). m.ip) (member_at input (members_from 0 ips) k) ≡ slice_get result k
  found_there ips result order k m stands counted =
      let before : Member → ℕ = λ member. count_by (λ other. prefers input other member) (members_from 0 ips) in
      let some = find_some (λ member. before member == k) (members_from 0 ips) m.place m (member_stands ips 0 m.place m.place m.ip (omega arith) stands) (eq-eqb (before m) k counted) in
      let z : Member = some.0 in
      let found = member_found (λ member. before member == k) ips 0 z some.1 in
      let place : found.0 ≡ z.place = omega (arith, found.1) in
      let same : before z ≡ k = eqb-true (before z) k found.3 in
      ap (option_map (λ (m : Member). m.ip)) some.1
      ∙ sym (order.places z.place z.ip (ap (slice_get ips) (sym place) ∙ found.2))
      ∙ ap (slice_get result) same

  -- a list in the order of preference is the one that the definition names, where there is a sorted list at all
  pub is_order_of : PartsFamilies input.rows → (ips : List Ip) → Each IsUsable ips → (ys : List Keyed)
      → IsPermutation (keyed input 0 ips) ys → Rising key_cmp keys_total (λ (r : Keyed). r.key) ys → (result : List Ip) → IsOrder input ips result → result ≡ order_of input ips
  unfolding order_of
  is_order_of parts ips usable ys moved sorted result order =
      let all : length (keyed input 0 ips) ≡ length ips = sym (length-map (keyed input 0 ips) (λ (r : Keyed). r.ip)) ∙ ap (λ (l : List Ip). length l) (ips_back input 0 ips) in
      let same : length ys ≡ length ips = length_permutation (keyed input 0 ips) ys moved ∙ all in
      listed (member_at input (members_from 0 ips)) (λ m. m.ip) result 0 (length ips) (sym (length_permutation ips result order.members)) (λ k lt.
      let y = at_place ys k (omega arith) in
      let before = preferred_before parts ips usable ys moved sorted k y.0 y.1 in
      let m : Member = record { ip = y.0.ip; place = y.0.key.place } in
      ap (λ i. option_map (λ (m : Member). m.ip) (member_at input (members_from 0 ips) i)) (zero-add k) ∙ found_there ips result order k m before.0 before.1)

  -- among usable addresses there is one such list, and only one
  pub one_order : PartsFamilies input.rows → (ips : List Ip) → Each IsUsable ips → IsOneOrder input ips
  one_order parts ips usable =
      let ys : List Keyed = sorted_by key_cmp keys_total (λ (r : Keyed). r.key) (keyed input 0 ips) in
      let moved : IsPermutation (keyed input 0 ips) ys = sorted_moves key_cmp keys_total (λ (r : Keyed). r.key) (keyed input 0 ips) in
      let up : Rising key_cmp keys_total (λ (r : Keyed). r.key) ys = sorted_rises key_cmp keys_total (λ (r : Keyed). r.key) (keyed input 0 ips) in
      let order : IsOrder input ips (map (λ (r : Keyed). r.ip) ys) = is_order input parts ips usable ys moved up in
      record {
        is = subst (IsOrder input ips) (is_order_of parts ips usable ys moved up (map (λ (r : Keyed). r.ip) ys) order) order;
        only = is_order_of parts ips usable ys moved up;
      }

  -- it is the sorted list of its members
  pub sorted_order : PartsFamilies input.rows → (ips : List Ip) → Each IsUsable ips
      → map (λ (r : Keyed). r.ip) (sorted_by key_cmp keys_total (λ (r : Keyed). r.key) (keyed input 0 ips)) ≡ order_of input ips
  sorted_order parts ips usable =
      let ys : List Keyed = sorted_by key_cmp keys_total (λ (r : Keyed). r.key) (keyed input 0 ips) in
      let moved : IsPermutation (keyed input 0 ips) ys = sorted_moves key_cmp keys_total (λ (r : Keyed). r.key) (keyed input 0 ips) in
      let up : Rising key_cmp keys_total (λ (r : Keyed). r.key) ys = sorted_rises key_cmp keys_total (λ (r : Keyed). r.key) (keyed input 0 ips) in
      is_order_of parts ips usable ys moved up (map (λ (r : Keyed). r.ip) ys) (is_order input parts ips usable ys moved up)

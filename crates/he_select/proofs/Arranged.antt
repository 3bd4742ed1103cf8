-- Destinations sorted by their keys are in the order of preference.
use Rattle.std.proofs.Common.{◌≡◌, ℕ, zero, suc, ◌+◌, ◌<◌, ◌≤◌, Bool, true, List, [], ◌∷◌, map, length, refl, sym, ◌∙◌, ap, subst, arith, get_or, slice_get}
use Rattle.std.specs.Prelude.{Some, option_map, count_by, All, IsPermutation}
use Rattle.std.specs.Ordering.{is_lt, is_eq}
use Rattle.std.proofs.lemmas.Cmp.{tied_itself}
use Rattle.std.proofs.lemmas.List.Sorted.{All-permutation, IsPermutation-map}
use Rattle.std.proofs.lemmas.Option.{slice_get-map}
use Rattle.he_addr.specs.declared.ip.Ip.{Ip}
use Rattle.std.specs.List.{AllPass, list_all}
use Rattle.std.proofs.lemmas.List.Sums.{AllPass-from_list_all}
use Rattle.std.proofs.Common.{IsTrue}
use Rattle.he_addr.specs.Ip.{InRange, IsUsable, is_usable}
use Rattle.he_select.specs.DestinationKeys.{Keyed, destination_key, key_cmp, keyed_of}
use Rattle.he_select.specs.Preference.{IsOrder, Member, members_from, prefers}
use Rattle.he_select.specs.Selection.{SelectionInput}
use Rattle.he_select.proofs.Counting.{Each, each_at, count-permutation, count_cons, each-get, found, one_if, Rising}
use Rattle.he_select.proofs.Keyed.{PartsFamilies, by_keys, keys_total, same_place}

all_from_each : {X : Type 0} (P : X → Type 0) (xs : List X) → Each P xs → (i : ℕ) (d : X) → i < length xs → P (get_or xs i d)
all_from_each P [] each i d lt = absurd (omega arith)
all_from_each P (x ∷ xs) each zero d lt = each.0
all_from_each P (x ∷ xs) each (suc i) d lt = all_from_each P xs each.1 i d (omega arith)

pub each-permutation : {X : Type 0} (P : X → Type 0) (xs ys : List X) → IsPermutation xs ys → Each P xs → Each P ys
each-permutation P xs ys moved each =
    let all : All P xs = λ i d lt. all_from_each P xs each i d lt in
    let moved_all : All P ys = All-permutation P xs ys moved all in
    each-get P ys (λ i d lt. moved_all i d lt)

pub count-map : {X Y : Type 0} (p : Y → Bool) (f : X → Y) (xs : List X) → count_by p (map f xs) ≡ count_by (λ x. p (f x)) xs
count-map p f [] = refl
count-map p f (x ∷ xs) = count_cons p (f x) (map f xs) ∙ ap (λ n. one_if (p (f x)) + n) (count-map p f xs) ∙ sym (count_cons (λ x. p (f x)) x xs)

pub count-same : {X : Type 0} (p q : X → Bool) (xs : List X) → Each (λ x. p x ≡ q x) xs → count_by p xs ≡ count_by q xs
count-same p q [] each = refl
count-same p q (x ∷ xs) each =
    count_cons p x xs ∙ ap (λ b. one_if b + count_by p xs) each.0 ∙ ap (λ n. one_if (q x) + n) (count-same p q xs each.1) ∙ sym (count_cons q x xs)

module _ (input : SelectionInput) where
  abbrev pub keyed : ℕ → List Ip → List Keyed
  keyed place ips = map (keyed_of input) (members_from place ips)

  pub ips_back : (place : ℕ) (ips : List Ip) → map (λ (r : Keyed). r.ip) (keyed place ips) ≡ ips
  ips_back place [] = refl
  ips_back place (ip ∷ ips) = ap (λ more. ip ∷ more) (ips_back (place + 1) ips)

  -- the one at place n ties with itself
  ties_itself : (ips : List Ip) (place n q : ℕ) (ip : Ip) → q ≡ place + n → slice_get ips n ≡ Some ip
      → 1 ≤ count_by (λ (r : Keyed). is_eq (key_cmp r.key (destination_key input (record { ip = ip; place = q })))) (keyed place ips)
  ties_itself [] place n q ip e at = cc
  ties_itself (x ∷ xs) place zero q ip e at =
      let test : Keyed → Bool = λ r. is_eq (key_cmp r.key (destination_key input (record { ip = ip; place = q }))) in
      let same : x ≡ ip = cc in
      let here : place ≡ q = omega arith in
      let tied : test (keyed_of input (record { ip = x; place = place })) ≡ true =
      ap (λ i. is_eq (key_cmp (destination_key input (record { ip = i; place = place })) (destination_key input (record { ip = ip; place = q })))) same
      ∙ ap (λ p. is_eq (key_cmp (destination_key input (record { ip = ip; place = p })) (destination_key input (record { ip = ip; place = q })))) here
      ∙ ap is_eq (tied_itself keys_total (destination_key input (record { ip = ip; place = q }))) in
      let counted = count_cons test (keyed_of input (record { ip = x; place = place })) (keyed (place + 1) xs) ∙ ap (λ b. one_if b + count_by test (keyed (place + 1) xs)) tied in
      omega (arith, counted)
  ties_itself (x ∷ xs) place (suc n) q ip e at =
      let test : Keyed → Bool = λ r. is_eq (key_cmp r.key (destination_key input (record { ip = ip; place = q }))) in
      let rest = ties_itself xs (place + 1) n q ip (omega arith) at in
      let counted = count_cons test (keyed_of input (record { ip = x; place = place })) (keyed (place + 1) xs) in
      omega (arith, counted, rest)

  -- each stands in the list at the place of its key
  pub own_places : (all rest : List Ip) (place : ℕ) → ((i : ℕ) → slice_get all (place + i) ≡ slice_get rest i)
      → Each (λ (r : Keyed). slice_get all r.key.place ≡ Some r.ip) (keyed place rest)
  unfolding destination_key
  own_places all [] place h = tt
  own_places all (x ∷ xs) place h =
      (ap (slice_get all) (omega arith) ∙ h 0, own_places all xs (place + 1) (λ i. ap (slice_get all) (omega arith) ∙ h (suc i)))

  pub preferred_by_keys : PartsFamilies input.rows → (ips : List Ip) (place : ℕ) → Each IsUsable ips → (m : Member) → IsUsable m.ip
      → Each (λ (other : Member). is_lt (key_cmp (destination_key input other) (destination_key input m)) ≡ prefers input other m) (members_from place ips)
  preferred_by_keys parts [] place usable m um = tt
  preferred_by_keys parts (x ∷ xs) place usable m um =
      (sym (ap is_lt (by_keys input parts (record { ip = x; place = place }) m usable.0 um)), preferred_by_keys parts xs (place + 1) usable.1 m um)

  pub is_order : PartsFamilies input.rows → (ips : List Ip) → Each IsUsable ips → (ys : List Keyed)
      → IsPermutation (keyed 0 ips) ys → Rising key_cmp keys_total (λ (r : Keyed). r.key) ys → IsOrder input ips (map (λ (r : Keyed). r.ip) ys)
  unfolding destination_key
  is_order parts ips usable ys moved sorted = record {
    members = subst (λ l. IsPermutation l (map (λ (r : Keyed). r.ip) ys)) (ips_back 0 ips) (IsPermutation-map (λ (r : Keyed). r.ip) (keyed 0 ips) ys moved);
    places = λ n ip at.
        let m : Member = record { ip = ip; place = n } in
        let ties : Keyed → Bool = λ r. is_eq (key_cmp r.key (destination_key input m)) in
        let less : Keyed → Bool = λ r. is_lt (key_cmp r.key (destination_key input m)) in
        let stands : 1 ≤ count_by ties (keyed 0 ips) = ties_itself ips 0 n n ip (omega arith) at in
        let some : 1 ≤ count_by ties ys = omega (arith, count-permutation ties (keyed 0 ips) ys moved) in
        let z = found key_cmp keys_total (λ (r : Keyed). r.key) (destination_key input m) ys sorted some in
        let place : z.0.key.place ≡ n = same_place z.0.key (destination_key input m) z.2 in
        let own : slice_get ips z.0.key.place ≡ Some z.0.ip = each_at (λ (r : Keyed). slice_get ips r.key.place ≡ Some r.ip) ys (each-permutation _ (keyed 0 ips) ys moved (own_places ips ips 0 (λ i. ap (slice_get ips) (omega arith)))) _ z.0 z.1 in
        let same : Some z.0.ip ≡ Some ip = sym own ∙ ap (slice_get ips) place ∙ at in
        let counts : count_by less ys ≡ count_by (λ other. prefers input other m) (members_from 0 ips) =
        count-permutation less (keyed 0 ips) ys moved
        ∙ count-map less (keyed_of input) (members_from 0 ips)
        ∙ count-same _ _ (members_from 0 ips) (preferred_by_keys parts ips 0 usable m (each_at IsUsable ips usable n ip at)) in
        slice_get-map (λ (r : Keyed). r.ip) ys (count_by (λ other. prefers input other m) (members_from 0 ips))
        ∙ ap (λ c. option_map (λ (r : Keyed). r.ip) (slice_get ys c)) (sym counts)
        ∙ ap (option_map (λ (r : Keyed). r.ip)) z.1
        ∙ same;
  }

pub each_usable : (ips : List Ip) → IsTrue (list_all is_usable ips) → All InRange ips → Each IsUsable ips
each_usable ips usable range =
    let pass : AllPass is_usable ips = AllPass-from_list_all is_usable ips usable in
    each-get IsUsable ips (λ i d lt. (pass i d lt, range i d lt))

-- In an admitted table the precedence parts the families: a usable IPv4 address has a row inside ::ffff:0:0/96, a
-- usable IPv6 address one outside it.
use Rattle.std.proofs.Common.{◌≡◌, ℕ, ◌+◌, ◌-◌, ◌*◌, ◌/◌, ◌^◌, ◌<◌, ◌≤◌, Bool, true, false, not, List, [], ◌∷◌, ◌⊎◌, refl, sym, ◌∙◌, ap, subst, arith, inl, inr, IsTrue}
use Rattle.std.specs.Prelude.{Option, Some, None, find, filter, is_none, option_map, nat_eq, ◌&&◌}
use Rattle.std.specs.Bool.{beq}
use Rattle.std.specs.List.{list_any, position_from}
use Rattle.std.specs.Option.{option_map_or, option_or}
use Rattle.std.specs.Cmp.{IsStrictWeakOrder}
use Rattle.std.proofs.lemmas.Bool.{cases_Bool, both_ways, false≢true, and_parts, or_parts, not-true, not-false, and_from, le-leb, leb-true, ltb-false, eqb-true}
use Rattle.std.proofs.Common.{eq-eqb, cond}
use Rattle.std.proofs.lemmas.Nat.{div-mul-add}
use Rattle.std.proofs.Math.Nat.{div-eq_of_lt}
use Rattle.std.proofs.lemmas.Nat.{shr-shr}
use Rattle.he_addr.specs.declared.ip.Ip.{Ip}
use Rattle.he_addr.specs.declared.ip.Ip.TheVariants.{V4, V6}
use Rattle.he_addr.specs.Ip.{IsUsable, is_usable}
use Rattle.he_addr.specs.Prefix.{PrefixBits, contains, is_inside_mapped}
use Rattle.he_select.specs.declared.policy.Row.{Row}
use Rattle.he_select.specs.Rules.{best_by}
use Rattle.he_select.specs.TableFaults.{has_row, shared_from, table_causes, table_fault}
use Rattle.he_select.specs.Tables.{IsAdmitted, any_address, any_v4_address, is_longer_row, precedence_of, row_of, same_prefix, shares_precedence}
use Rattle.he_select.proofs.Admitted.{no_fault}
use Rattle.he_select.proofs.Causes.{none_stands, not_caused, unmapped}
use Rattle.he_select.proofs.Counting.{Each}
use Rattle.he_select.proofs.Keyed.{PartsFamilies}
use Rattle.he_select.proofs.LookUps.{rows_by_length}
use Rattle.he_select.proofs.Walks.{walk, walked}

-- x is a member of the list
abbrev pub Among : {X : Type 0} → X → List X → Type 0
Among x [] = ⊥
Among x (y ∷ ys) = (x ≡ y) ⊎ Among x ys

module _ {X : Type 0} where
  found_passes : (p : X → Bool) (xs : List X) (x : X) → find p xs ≡ Some x → Among x xs × (p x ≡ true)
  found_passes p [] x e = cc
  found_passes p (y ∷ ys) x e =
      elim (cases_Bool (p y)) [
        | inl here ↦
            let same : y ≡ x = let h : Some y ≡ Some x = rw here at e in cc in
            (inl (sym same), ap p (sym same) ∙ here)
        | inr gone ↦ let rest = found_passes p ys x (rw gone at e) in (inr rest.0, rest.1)
      ]

  filter_passes : (p : X → Bool) (xs : List X) (x : X) → Among x (filter p xs) → Among x xs × (p x ≡ true)
  filter_passes p [] x h = absurd h
  filter_passes p (y ∷ ys) x h =
      elim (cases_Bool (p y)) [
        | inl here ↦
            let split : (x ≡ y) ⊎ Among x (filter p ys) = rw here at h in
            elim split [
              | inl same ↦ (inl same, ap p same ∙ here)
              | inr later ↦ let rest = filter_passes p ys x later in (inr rest.0, rest.1)
            ]
        | inr gone ↦ let rest = filter_passes p ys x (rw gone at h) in (inr rest.0, rest.1)
      ]

  passes_filter : (p : X → Bool) (xs : List X) (x : X) → Among x xs → p x ≡ true → Among x (filter p xs)
  passes_filter p [] x h e = absurd h
  passes_filter p (y ∷ ys) x (inl same) e = let here : p y ≡ true = ap p (sym same) ∙ e in rw here (inl same)
  passes_filter p (y ∷ ys) x (inr later) e =
      elim (cases_Bool (p y)) [
        | inl here ↦ rw here (inr (passes_filter p ys x later e))
        | inr gone ↦ rw gone (passes_filter p ys x later e)
      ]

  none_passes : (p : X → Bool) (xs : List X) (x : X) → list_any p xs ≡ false → Among x xs → p x ≡ false
  none_passes p [] x e h = absurd h
  none_passes p (y ∷ ys) x e (inl same) = ap p same ∙ (or_parts (p y) (list_any p ys) e).0
  none_passes p (y ∷ ys) x e (inr later) = none_passes p ys x (or_parts (p y) (list_any p ys) e).1 later

  some_passes : (p : X → Bool) (xs : List X) → list_any p xs ≡ true → (x : X) × Among x xs × (p x ≡ true)
  some_passes p [] e = absurd (false≢true e)
  some_passes p (y ∷ ys) e =
      elim (cases_Bool (p y)) [
        | inl here ↦ (y, inl refl, here)
        | inr gone ↦ let rest = some_passes p ys (rw gone at e) in (rest.0, inr rest.1, rest.2)
      ]

  each_among : (P : X → Type 0) (xs : List X) (x : X) → Each P xs → Among x xs → P x
  each_among P [] x each h = absurd h
  each_among P (y ∷ ys) x each (inl same) = subst P (sym same) each.0
  each_among P (y ∷ ys) x each (inr later) = each_among P ys x each.1 later

  walk_some : (better : X → X → Bool) (xs : List X) (b : X) → (z : X) × (walk better (Some b) xs ≡ Some z)
  walk_some better [] b = (b, refl)
  walk_some better (x ∷ xs) b = walk_some better xs (cond (better x b) x b)

  -- where the list has a member, there is a best one, which is a member, and no member is better
  pub best_is : (better : X → X → Bool) → IsStrictWeakOrder better → (xs : List X) (x : X) → Among x xs
      → (z : X) × (best_by better xs ≡ Some z) × Among z xs × (better x z ≡ false)
  best_is better o [] x h = absurd h
  best_is better o (y ∷ ys) x h =
      let some = walk_some better ys y in
      let is : best_by better (y ∷ ys) ≡ Some some.0 = sym (walked better o y ys) ∙ some.1 in
      let passed = found_passes (λ z. not (list_any (λ w. better w z) (y ∷ ys))) (y ∷ ys) some.0 is in
      (some.0, is, passed.0, none_passes (λ w. better w some.0) (y ∷ ys) x (not-true _ passed.1) h)

-- agreeing in more leading bits, two numbers agree in fewer
fewer : (a b m n : ℕ) → m ≤ n → nat_eq (a / 2 ^ (128 - n)) (b / 2 ^ (128 - n)) ≡ true → a / 2 ^ (128 - m) ≡ b / 2 ^ (128 - m)
fewer a b m n le e =
    let more : ℕ = (128 - m) - (128 - n) in
    let split : 128 - m ≡ (128 - n) + ((128 - m) - (128 - n)) = omega arith in
    let same : a / 2 ^ (128 - n) ≡ b / 2 ^ (128 - n) = eqb-true _ _ e in
    ap (λ k. a / 2 ^ k) split ∙ sym (shr-shr a (128 - n) more) ∙ ap (λ q. q / 2 ^ more) same ∙ shr-shr b (128 - n) more ∙ ap (λ k. b / 2 ^ k) (sym split)

-- no row shares its precedence with a later one
abbrev NoneShares : List Row → Type 0
NoneShares [] = Unit {0}
NoneShares (row ∷ rows) = Each (λ later. shares_precedence row later ≡ false) rows × NoneShares rows

nowhere : {X : Type 0} (p : X → Bool) (xs : List X) (place : ℕ) → IsTrue (is_none (position_from p place xs)) → Each (λ x. p x ≡ false) xs
nowhere p [] place h = tt
nowhere p (x ∷ xs) place h =
    elim (cases_Bool (p x)) [
      | inl here ↦ absurd (false≢true (rw here at h))
      | inr gone ↦ (gone, nowhere p xs (place + 1) (rw gone at h))
    ]

neither : {X : Type 0} (a b : Option X) → IsTrue (is_none (option_or a b)) → IsTrue (is_none a) × IsTrue (is_none b)
neither None b h = (refl, h)
neither (Some x) b h = absurd (false≢true h)

none_shares : (rows : List Row) (place : ℕ) → IsTrue (is_none (shared_from place rows)) → NoneShares rows
none_shares [] place h = tt
none_shares (row ∷ rows) place h =
    let both = neither (option_map (λ later. (place, later)) (position_from (shares_precedence row) (place + 1) rows)) (shared_from (place + 1) rows) h in
    (nowhere (shares_precedence row) rows (place + 1) (unmapped (λ later. (place, later)) _ both.0), none_shares rows (place + 1) both.1)

apart_by : (m n : ℕ) (i j : Bool) → m ≡ n → i ≡ true → j ≡ false → (nat_eq m n && not (beq i j)) ≡ true
apart_by m n i j e inside outside = ap (λ t. t && not (beq i j)) (eq-eqb m n e) ∙ ap (λ t. not (beq t j)) inside ∙ ap (λ t. not (beq true t)) outside

apart_back : (m n : ℕ) (i j : Bool) → m ≡ n → i ≡ true → j ≡ false → (nat_eq n m && not (beq j i)) ≡ true
apart_back m n i j e inside outside = ap (λ t. t && not (beq j i)) (eq-eqb n m (sym e)) ∙ ap (λ t. not (beq j t)) inside ∙ ap (λ t. not (beq t true)) outside

not_apart : (i : Bool) → not (beq i i) ≡ true → ⊥
not_apart true e = false≢true e
not_apart false e = false≢true e

shared_anyway : (rows : List Row) (a b : Row) → NoneShares rows → Among a rows → Among b rows → shares_precedence a b ≡ true → shares_precedence b a ≡ true → ⊥
shared_anyway [] a b none ha hb ab ba = ha
shared_anyway (row ∷ rows) a b none (inl sa) (inl sb) ab ba =
    not_apart (is_inside_mapped row.prefix) (and_parts (nat_eq row.precedence row.precedence) _ (ap (λ r. shares_precedence r row) (sym sa) ∙ ap (λ r. shares_precedence a r) (sym sb) ∙ ab)).1
shared_anyway (row ∷ rows) a b none (inl sa) (inr hb) ab ba =
    both_ways (shares_precedence row b) (each_among (λ later. shares_precedence row later ≡ false) rows b none.0 hb) (ap (λ r. shares_precedence r b) (sym sa) ∙ ab)
shared_anyway (row ∷ rows) a b none (inr ha) (inl sb) ab ba =
    both_ways (shares_precedence row a) (each_among (λ later. shares_precedence row later ≡ false) rows a none.0 ha) (ap (λ r. shares_precedence r a) (sym sb) ∙ ba)
shared_anyway (row ∷ rows) a b none (inr ha) (inr hb) ab ba = shared_anyway rows a b none.1 ha hb ab ba

-- a member with this prefix
has_prefix : (rows : List Row) (prefix : PrefixBits) → has_row rows prefix ≡ true → (row : Row) × Among row rows × (row.prefix.bits ≡ prefix.bits) × (row.prefix.len ≡ prefix.len)
has_prefix rows prefix e =
    let some = some_passes (λ row. same_prefix row.prefix prefix) rows e in
    let both = and_parts _ _ some.2 in
    (some.0, some.1, eqb-true _ _ both.0, eqb-true _ _ both.1)

-- the row of an address that a row with this prefix contains
pub row_at : (rows : List Row) (ip : Ip) (prefix : PrefixBits) → has_row rows prefix ≡ true → contains prefix ip ≡ true
    → (row : Row) × (row_of rows ip ≡ Some row) × Among row rows × (contains row.prefix ip ≡ true) × (prefix.len ≤ row.prefix.len)
unfolding row_of
row_at rows ip prefix e here =
    let member = has_prefix rows prefix e in
    let holds : contains member.0.prefix ip ≡ true =
    ap (λ (b : ℕ). contains (record { bits = b; len = member.0.prefix.len }) ip) member.2 ∙ ap (λ (n : ℕ). contains (record { bits = prefix.bits; len = n }) ip) member.3 ∙ here in
    let best = best_is is_longer_row rows_by_length (filter (λ row. contains row.prefix ip) rows) member.0 (passes_filter (λ row. contains row.prefix ip) rows member.0 member.1 holds) in
    let among = filter_passes (λ row. contains row.prefix ip) rows best.0 best.2 in
    let long : member.0.prefix.len ≤ best.0.prefix.len = ltb-false _ _ best.3 in
    (best.0, best.1, among.0, among.1, (let same = member.3 in omega arith))

v4_starts : (n : ℕ) → n < 2 ^ 32 → contains any_v4_address (V4 n) ≡ true
v4_starts n small = eq-eqb ((65535 * 2 ^ 32 + n) / 2 ^ 32) 65535 (div-mul-add 65535 (2 ^ 32) n small)

pub v6_starts : (n : ℕ) → n < 2 ^ 128 → contains any_address (V6 n) ≡ true
v6_starts n small = eq-eqb (n / 2 ^ 128) 0 (div-eq_of_lt small)

inside : (row : Row) (n : ℕ) → n < 2 ^ 32 → 96 ≤ row.prefix.len → contains row.prefix (V4 n) ≡ true → is_inside_mapped row.prefix ≡ true
inside row n small long e =
    let top : (65535 * 2 ^ 32 + n) / 2 ^ 32 ≡ row.prefix.bits / 2 ^ 32 = fewer (65535 * 2 ^ 32 + n) row.prefix.bits 96 row.prefix.len long e in
    and_from _ _ (le-leb 96 row.prefix.len long) (eq-eqb (row.prefix.bits / 2 ^ 32) 65535 (sym top ∙ div-mul-add 65535 (2 ^ 32) n small))

outside : (row : Row) (n : ℕ) → IsTrue (is_usable (V6 n)) → contains row.prefix (V6 n) ≡ true → is_inside_mapped row.prefix ≡ false
outside row n usable e =
    elim (cases_Bool (is_inside_mapped row.prefix)) [
      | inr out ↦ out
      | inl within ↦
          let parts = and_parts _ _ within in
          let top : n / 2 ^ 32 ≡ row.prefix.bits / 2 ^ 32 = fewer n row.prefix.bits 96 row.prefix.len (leb-true 96 row.prefix.len parts.0) e in
          let mapped : nat_eq (n / 2 ^ 32) 65535 ≡ true = eq-eqb (n / 2 ^ 32) 65535 (top ∙ eqb-true _ _ parts.1) in
          absurd (both_ways (nat_eq (n / 2 ^ 32) 65535) (not-true _ (and_parts _ _ usable).1) mapped)
    ]

crossed : (rows : List Row) → IsAdmitted rows → (m n : ℕ) → IsUsable (V4 m) → IsUsable (V6 n) → precedence_of rows (V4 m) ≡ precedence_of rows (V6 n) → ⊥
unfolding table_fault precedence_of
crossed rows admitted m n um un even =
    let stands = none_stands (table_causes rows) (no_fault rows admitted) in
    let default : has_row rows any_address ≡ true = not-false _ (not_caused _ _ stands.1.1.0) in
    let mapped : has_row rows any_v4_address ≡ true = not-false _ (not_caused _ _ stands.1.1.1.0) in
    let none = none_shares rows 0 (unmapped _ _ stands.1.1.1.1.0) in
    let a = row_at rows (V4 m) any_v4_address mapped (v4_starts m um.1) in
    let b = row_at rows (V6 n) any_address default (v6_starts n un.1) in
    let ia : is_inside_mapped a.0.prefix ≡ true = inside a.0 m um.1 a.4 a.3 in
    let ib : is_inside_mapped b.0.prefix ≡ false = outside b.0 n un.0 b.3 in
    let equal : a.0.precedence ≡ b.0.precedence =
    sym (ap (λ o. option_map_or (λ (row : Row). row.precedence) o 0) a.1) ∙ even ∙ ap (λ o. option_map_or (λ (row : Row). row.precedence) o 0) b.1 in
    shared_anyway rows a.0 b.0 none a.2 b.2
    (apart_by a.0.precedence b.0.precedence (is_inside_mapped a.0.prefix) (is_inside_mapped b.0.prefix) equal ia ib)
    (apart_back a.0.precedence b.0.precedence (is_inside_mapped a.0.prefix) (is_inside_mapped b.0.prefix) equal ia ib)

pub parts_families : (rows : List Row) → IsAdmitted rows → PartsFamilies rows
parts_families rows admitted (V4 m) (V4 n) ux uy even = refl
parts_families rows admitted (V6 m) (V6 n) ux uy even = refl
parts_families rows admitted (V4 m) (V6 n) ux uy even = absurd (crossed rows admitted m n ux uy even)
parts_families rows admitted (V6 m) (V4 n) ux uy even = absurd (crossed rows admitted n m uy ux (sym even))

-- The order of a filtered list is the filter of the order: both are what an insertion by keys without their places
-- makes.
use Rattle.std.proofs.Common.{◌≡◌, ℕ, ◌+◌, ◌<◌, Bool, true, false, not, cond, List, [], ◌∷◌, map, refl, sym, ◌∙◌, ap, inl, inr, arith}
use Rattle.std.specs.Prelude.{filter}
use Rattle.std.specs.declared.cmp.Ordering.{Ordering}
use Rattle.std.specs.declared.cmp.Ordering.TheVariants.{Less, Equal, Greater}
use Rattle.std.specs.Ordering.{bool_cmp, is_lt, nat_cmp, ordering_reverse, ordering_then}
use Rattle.std.specs.Cmp.{IsStrictWeakOrder}
use Rattle.std.proofs.lemmas.Bool.{cases_Bool}
use Rattle.std.proofs.lemmas.Bool.Decides.{nat_tests}
use Rattle.std.proofs.lemmas.List.Sorted.{ranks_by}
use Rattle.he_addr.specs.declared.ip.Ip.{Ip}
use Rattle.he_addr.specs.Ip.{IsUsable}
use Rattle.he_select.specs.declared.ranking.Key.{Key}
use Rattle.he_select.specs.DestinationKeys.{Keyed, destination_key, key_cmp, keyed_of}
use Rattle.he_select.specs.Laws.{OrderOfFilterIsFilterOfOrder}
use Rattle.he_select.specs.Preference.{Member}
use Rattle.he_select.specs.Selection.{SelectionInput}
use Rattle.he_select.proofs.Arranged.{each-permutation, keyed}
use Rattle.he_select.proofs.Counting.{Each, each-get}
use Rattle.he_select.proofs.Families.{parts_families}
use Rattle.he_select.proofs.Inserted.{put_in, sorted_by, sorted_moves}
use Rattle.he_select.proofs.Keyed.{keys_total}
use Rattle.he_select.proofs.Ordered.{sorted_order}
use Rattle.he_select.proofs.Orders.{then_regrouped}

each-filter : {X : Type 0} (P : X → Type 0) (keep : X → Bool) (xs : List X) → Each P xs → Each P (filter keep xs)
each-filter P keep [] each = tt
each-filter P keep (x ∷ xs) each =
    elim (cases_Bool (keep x)) [
      | inl kept ↦ rw kept (each.0, each-filter P keep xs each.1)
      | inr gone ↦ rw gone (each-filter P keep xs each.1)
    ]

-- inserted one by one, each before those that are not before it
module _ {X : Type 0} (before : X → X → Bool) (o : IsStrictWeakOrder before) where
  put : X → List X → List X
  put x [] = x ∷ []
  put x (y ∷ ys) = cond (before y x) (y ∷ put x ys) (x ∷ y ∷ ys)

  inserted : List X → List X
  inserted [] = []
  inserted (x ∷ xs) = put x (inserted xs)

  abbrev Up : List X → Type 0
  Up [] = Unit {0}
  Up (x ∷ xs) = Each (λ y. before y x ≡ false) xs × Up xs

  each-put : (P : X → Type 0) (x : X) (ys : List X) → P x → Each P ys → Each P (put x ys)
  unfolding put
  each-put P x [] px each = (px, tt)
  each-put P x (y ∷ ys) px each =
      elim (cases_Bool (before y x)) [
        | inl later ↦ rw later (each.0, each-put P x ys px each.1)
        | inr here ↦ rw here (px, each)
      ]

  -- what is not before one that is not before x is not before x
  none_before : (x y : X) → before y x ≡ false → (zs : List X) → Each (λ z. before z y ≡ false) zs → Each (λ z. before z x ≡ false) zs
  none_before x y e [] each = tt
  none_before x y e (z ∷ zs) each = (o.chain z y x each.0 e, none_before x y e zs each.1)

  put_up : (x : X) (ys : List X) → Up ys → Up (put x ys)
  unfolding put
  put_up x [] up = (tt, tt)
  put_up x (y ∷ ys) up =
      elim (cases_Bool (before y x)) [
        | inl later ↦ rw later (each-put (λ z. before z y ≡ false) x ys (o.one_way y x later) up.0, put_up x ys up.1)
        | inr here ↦ rw here ((here, none_before x y here ys up.0), up)
      ]

  inserted_up : (xs : List X) → Up (inserted xs)
  unfolding inserted
  inserted_up [] = tt
  inserted_up (x ∷ xs) = put_up x (inserted xs) (inserted_up xs)

  put_first : (x : X) (ys : List X) → Each (λ y. before y x ≡ false) ys → put x ys ≡ x ∷ ys
  unfolding put
  put_first x [] each = refl
  put_first x (y ∷ ys) each = rw each.0 refl

  module _ (keep : X → Bool) where
    put_kept : (x : X) → keep x ≡ true → (ys : List X) → Up ys → filter keep (put x ys) ≡ put x (filter keep ys)
    unfolding put
    put_kept x kept [] up = rw kept refl
    put_kept x kept (y ∷ ys) up =
        elim (cases_Bool (before y x)) [
          | inl later ↦ elim (cases_Bool (keep y)) [
            | inl also ↦ rw (later, also) (rw later (ap (λ l. y ∷ l) (put_kept x kept ys up.1)))
            | inr gone ↦ rw (later, gone) (put_kept x kept ys up.1)
          ]
          | inr here ↦ rw (here, kept) (sym (put_first x (filter keep (y ∷ ys)) (each-filter (λ z. before z x ≡ false) keep (y ∷ ys) (here, none_before x y here ys up.0))))
        ]

    put_dropped : (x : X) → keep x ≡ false → (ys : List X) → filter keep (put x ys) ≡ filter keep ys
    unfolding put
    put_dropped x gone [] = rw gone refl
    put_dropped x gone (y ∷ ys) =
        elim (cases_Bool (before y x)) [
          | inl later ↦ rw later (ap (λ l. cond (keep y) (y ∷ l) l) (put_dropped x gone ys))
          | inr here ↦ rw (here, gone) refl
        ]

    filtered : (xs : List X) → inserted (filter keep xs) ≡ filter keep (inserted xs)
    unfolding inserted
    filtered [] = refl
    filtered (x ∷ xs) =
        elim (cases_Bool (keep x)) [
          | inl kept ↦ rw kept (ap (put x) (filtered xs) ∙ sym (put_kept x kept (inserted xs) (inserted_up xs)))
          | inr gone ↦ rw gone (filtered xs ∙ sym (put_dropped x gone (inserted xs)))
        ]

then_last : (o q r : Ordering) {p : Ordering} → p ≡ ordering_then q r → ordering_then o p ≡ ordering_then (ordering_then o q) r
then_last o q r {p} e = ap (ordering_then o) e ∙ sym (then_regrouped o q r)

unless_after : (o p : Ordering) → p ≡ ordering_reverse o → is_lt (ordering_then o Less) ≡ not (is_lt p)
unless_after Less p e = rw e refl
unless_after Equal p e = rw e refl
unless_after Greater p e = rw e refl

module _ (input : SelectionInput) where
  abbrev plain : Ip → Key
  plain ip = destination_key input (record { ip = ip; place = 0 })

  abbrev goes_before : Ip → Ip → Bool
  goes_before a b = is_lt (key_cmp (plain a) (plain b))

  ranks : IsStrictWeakOrder goes_before
  ranks = ranks_by keys_total plain

  -- places decide last
  by_places : (a b : Ip) (m n : ℕ) → key_cmp (destination_key input (record { ip = a; place = m })) (destination_key input (record { ip = b; place = n })) ≡ ordering_then (key_cmp (plain a) (plain b)) (nat_cmp m n)
  unfolding key_cmp destination_key
  by_places a b m n =
      let x : Key = plain a in
      let y : Key = plain b in
      then_last (bool_cmp x.unreachable y.unreachable) _ _
      (then_last (bool_cmp x.other_scope y.other_scope) _ _
      (then_last (bool_cmp x.deprecated y.deprecated) _ _
      (then_last (bool_cmp x.other_label y.other_label) _ _
      (then_last (nat_cmp y.precedence.0 x.precedence.0) _ _
      (then_last (bool_cmp x.tunnel y.tunnel) _ _
      (then_last (nat_cmp x.scope y.scope) _ _
      (then_last (nat_cmp x.rtt y.rtt) _ _
      (then_last (bool_cmp x.unused y.unused) _ _
      (then_last (nat_cmp y.common.0 x.common.0) Equal (nat_cmp m n) refl)))))))))

  less : (m n : ℕ) → m < n → nat_cmp m n ≡ Less
  less m n lt = grind (arith, nat_tests)

  -- the earlier one goes first, unless the later one goes before it by its key
  earlier_first : (a b : Ip) (m n : ℕ) → m < n → is_lt (key_cmp (destination_key input (record { ip = a; place = m })) (destination_key input (record { ip = b; place = n }))) ≡ not (goes_before b a)
  earlier_first a b m n lt =
      ap is_lt (by_places a b m n ∙ ap (ordering_then (key_cmp (plain a) (plain b))) (less m n lt))
      ∙ unless_after (key_cmp (plain a) (plain b)) (key_cmp (plain b) (plain a)) (keys_total.antisymm (plain b) (plain a))

  -- a later member with its own key
  abbrev IsLater : ℕ → Keyed → Type 0
  IsLater place r = (place < r.key.place) × (r.key ≡ destination_key input (record { ip = r.ip; place = r.key.place }))

  all_later : (ips : List Ip) (place q : ℕ) → q < place → Each (IsLater q) (keyed input place ips)
  unfolding destination_key
  all_later [] place q lt = tt
  all_later (x ∷ xs) place q lt = ((lt, refl), all_later xs (place + 1) q (omega arith))

  put_alike : (x : Ip) (place : ℕ) (ys : List Keyed) → Each (IsLater place) ys
      → map (λ (r : Keyed). r.ip) (put_in key_cmp keys_total (λ (r : Keyed). r.key) (keyed_of input (record { ip = x; place = place })) ys) ≡ put goes_before ranks x (map (λ (r : Keyed). r.ip) ys)
  unfolding put_in put
  put_alike x place [] each = refl
  put_alike x place (y ∷ ys) each =
      let m : Member = record { ip = x; place = place } in
      let told : is_lt (key_cmp (destination_key input m) y.key) ≡ not (goes_before y.ip x) =
      ap (λ k. is_lt (key_cmp (destination_key input m) k)) each.0.1 ∙ earlier_first x y.ip place y.key.place each.0.0 in
      elim (cases_Bool (goes_before y.ip x)) [
        | inl later ↦
            let not_first : is_lt (key_cmp (destination_key input m) y.key) ≡ false = told ∙ ap not later in
            rw (not_first, later) (ap (λ l. y.ip ∷ l) (put_alike x place ys each.1))
        | inr here ↦
            let first : is_lt (key_cmp (destination_key input m) y.key) ≡ true = told ∙ ap not here in
            rw (first, here) refl
      ]

  ips_inserted : (ips : List Ip) (place : ℕ) → map (λ (r : Keyed). r.ip) (sorted_by key_cmp keys_total (λ (r : Keyed). r.key) (keyed input place ips)) ≡ inserted goes_before ranks ips
  unfolding sorted_by inserted
  ips_inserted [] place = refl
  ips_inserted (x ∷ xs) place =
      let rest : List Keyed = sorted_by key_cmp keys_total (λ (r : Keyed). r.key) (keyed input (place + 1) xs) in
      let later : Each (IsLater place) rest = each-permutation (IsLater place) (keyed input (place + 1) xs) rest (sorted_moves key_cmp keys_total (λ (r : Keyed). r.key) (keyed input (place + 1) xs)) (all_later xs (place + 1) place (omega arith)) in
      put_alike x place rest later ∙ ap (put goes_before ranks x) (ips_inserted xs (place + 1))

pub filtered_order : OrderOfFilterIsFilterOfOrder
filtered_order input admitted keep ips usable =
    let parts = parts_families input.rows admitted in
    let each : Each IsUsable ips = each-get IsUsable ips (λ i d lt. usable i d lt) in
    sym (sorted_order input parts (filter keep ips) (each-filter IsUsable keep ips each))
    ∙ ips_inserted input (filter keep ips) 0
    ∙ filtered (goes_before input) (ranks input) keep ips
    ∙ ap (filter keep) (sym (ips_inserted input ips 0) ∙ sorted_order input parts ips each)

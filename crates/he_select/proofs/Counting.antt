-- In a sorted list the element that has a key stands at the place that equals the number of smaller keys.
use Rattle.std.proofs.Common.{◌≡◌, ℕ, zero, suc, ◌+◌, ◌<◌, ◌≤◌, ◌⊎◌, Bool, true, false, cond, List, [], ◌∷◌, length, refl, sym, ◌∙◌, ap, subst, inl, inr, arith, get_or, slice_get}
use Rattle.std.specs.Prelude.{Some, count_by, IsPermutation, IsSortedByKey}
use Rattle.std.specs.declared.cmp.Ordering.{Ordering}
use Rattle.std.specs.declared.cmp.Ordering.TheVariants.{Less, Equal, Greater}
use Rattle.std.specs.Ordering.{is_lt, is_eq, ordering_reverse}
use Rattle.std.specs.Cmp.{IsTotalOrder}
use Rattle.std.proofs.lemmas.Cmp.{alike_right, tied_itself}
use Rattle.std.proofs.lemmas.Bool.{both_ways}
use Rattle.std.proofs.lemmas.List.Sums.{sum_by-cons}
use Rattle.std.proofs.lemmas.List.Sorted.{sorted_far, ranks_by, sum_by-IsPermutation}

abbrev pub one_if : Bool → ℕ
one_if b = cond b 1 0

pub count_cons : {X : Type 0} (p : X → Bool) (x : X) (xs : List X) → count_by p (x ∷ xs) ≡ one_if (p x) + count_by p xs
count_cons p x xs = sum_by-cons (λ y. cond (p y) 1 0) x xs

pub count-permutation : {X : Type 0} (p : X → Bool) (xs ys : List X) → IsPermutation xs ys → count_by p ys ≡ count_by p xs
count-permutation p xs ys h = sum_by-IsPermutation (λ y. cond (p y) 1 0) xs ys h

-- a fact for each element, by recursion
abbrev pub Each : {X : Type 0} → (X → Type 0) → List X → Type 0
Each P [] = Unit {0}
Each P (x ∷ xs) = P x × Each P xs

pub each-get : {X : Type 0} (P : X → Type 0) (xs : List X) → ((i : ℕ) (d : X) → i < length xs → P (get_or xs i d)) → Each P xs
each-get P [] h = tt
each-get P (x ∷ xs) h = (h 0 x (omega arith), each-get P xs (λ i d lt. h (suc i) d (omega arith)))

pub each_at : {X : Type 0} (P : X → Type 0) (xs : List X) → Each P xs → (i : ℕ) (x : X) → slice_get xs i ≡ Some x → P x
each_at P [] each i x e = cc
each_at P (y ∷ ys) each zero x e = let same : y ≡ x = cc in subst P same each.0
each_at P (y ∷ ys) each (suc i) x e = each_at P ys each.1 i x e

pub not_equal : (o : Ordering) → (o ≡ Equal → ⊥) → is_eq o ≡ false
not_equal Less h = refl
not_equal Equal h = absurd (h refl)
not_equal Greater h = refl

module _ {K : Type 0} (R : K → K → Ordering) (o : IsTotalOrder R) {X : Type 0} (key : X → K) where
  -- no later element is smaller
  abbrev pub Rising : List X → Type 0
  Rising [] = Unit {0}
  Rising (x ∷ xs) = Each (λ y. is_lt (R (key y) (key x)) ≡ false) xs × Rising xs

  rising_from : (xs : List X) → ((i j : ℕ) (d : X) → i ≤ j → j < length xs → is_lt (R (key (get_or xs j d)) (key (get_or xs i d))) ≡ false) → Rising xs
  rising_from [] far = tt
  rising_from (x ∷ xs) far = (
    each-get (λ y. is_lt (R (key y) (key x)) ≡ false) xs (λ j d lt. far 0 (suc j) d (omega arith) (omega arith)),
    rising_from xs (λ i j d le lt. far (suc i) (suc j) d (omega arith) (omega arith)),
  )

  pub rising : (xs : List X) → IsSortedByKey key R xs → Rising xs
  rising xs sorted = rising_from xs (sorted_far (λ a b. is_lt (R (key a) (key b))) (ranks_by o key) xs sorted)

  less_below : (y z k : K) → R y k ≡ Equal → is_lt (R z y) ≡ false → is_lt (R z k) ≡ false
  less_below y z k tied not_less = ap is_lt (sym (alike_right o y k z tied)) ∙ not_less

  -- nothing before k, where y ties with k and none is before y
  none_less : (k : K) (y : X) (ys : List X) → R (key y) k ≡ Equal → Each (λ z. is_lt (R (key z) (key y)) ≡ false) ys → count_by (λ z. is_lt (R (key z) k)) ys ≡ 0
  none_less k y [] tied h = refl
  none_less k y (z ∷ zs) tied h =
      count_cons (λ z. is_lt (R (key z) k)) z zs
      ∙ ap (λ b. one_if b + count_by (λ z. is_lt (R (key z) k)) zs) (less_below (key y) (key z) k tied h.0)
      ∙ (let rest = none_less k y zs tied h.1 in omega arith)

  not_tied : (k y z : K) → R y k ≡ Greater → is_lt (R z y) ≡ false → is_eq (R z k) ≡ false
  not_tied k y z after not_less =
      not_equal (R z k) (λ tied.
      let less : R z y ≡ Less = o.congr z k y tied ∙ o.antisymm k y ∙ ap ordering_reverse after in
      both_ways (is_lt (R z y)) not_less (ap is_lt less))

  -- nothing ties with k, where y is after k and none is before y
  none_tied : (k : K) (y : X) (ys : List X) → R (key y) k ≡ Greater → Each (λ z. is_lt (R (key z) (key y)) ≡ false) ys → count_by (λ z. is_eq (R (key z) k)) ys ≡ 0
  none_tied k y [] after h = refl
  none_tied k y (z ∷ zs) after h =
      count_cons (λ z. is_eq (R (key z) k)) z zs
      ∙ ap (λ b. one_if b + count_by (λ z. is_eq (R (key z) k)) zs) (not_tied k (key y) (key z) after h.0)
      ∙ (let rest = none_tied k y zs after h.1 in omega arith)

  abbrev pub Found : K → List X → Type 0
  Found k ys = (z : X) × (slice_get ys (count_by (λ y. is_lt (R (key y) k)) ys) ≡ Some z) × (R (key z) k ≡ Equal)

  found_next : (k : K) (y : X) (ys : List X) → R (key y) k ≡ Less → Found k ys → Found k (y ∷ ys)
  found_next k y ys less (z, at, tied) =
      let more : count_by (λ x. is_lt (R (key x) k)) (y ∷ ys) ≡ suc (count_by (λ x. is_lt (R (key x) k)) ys) =
      count_cons (λ x. is_lt (R (key x) k)) y ys ∙ ap (λ b. one_if b + count_by (λ x. is_lt (R (key x) k)) ys) (ap is_lt less) ∙ omega arith in
      (z, ap (slice_get (y ∷ ys)) more ∙ at, tied)

  found_here : (k : K) (y : X) (ys : List X) → R (key y) k ≡ Equal → Each (λ z. is_lt (R (key z) (key y)) ≡ false) ys → Found k (y ∷ ys)
  found_here k y ys tied h =
      let none : count_by (λ x. is_lt (R (key x) k)) ys ≡ 0 = none_less k y ys tied h in
      let first : count_by (λ x. is_lt (R (key x) k)) (y ∷ ys) ≡ 0 =
      count_cons (λ x. is_lt (R (key x) k)) y ys ∙ ap (λ b. one_if b + count_by (λ x. is_lt (R (key x) k)) ys) (ap is_lt tied) ∙ omega arith in
      (y, ap (slice_get (y ∷ ys)) first, tied)

  found_by : (k : K) (y : X) (ys : List X) → Rising (y ∷ ys) → 1 ≤ count_by (λ x. is_eq (R (key x) k)) (y ∷ ys)
      → (1 ≤ count_by (λ x. is_eq (R (key x) k)) ys → Found k ys) → (answer : Ordering) → R (key y) k ≡ answer → Found k (y ∷ ys)
  found_by k y ys up some rest Less e =
      let same : count_by (λ x. is_eq (R (key x) k)) (y ∷ ys) ≡ 0 + count_by (λ x. is_eq (R (key x) k)) ys =
      count_cons (λ x. is_eq (R (key x) k)) y ys ∙ ap (λ b. one_if b + count_by (λ x. is_eq (R (key x) k)) ys) (ap is_eq e) in
      found_next k y ys e (rest (omega arith))
  found_by k y ys up some rest Equal e = found_here k y ys e up.0
  found_by k y ys up some rest Greater e =
      let same : count_by (λ x. is_eq (R (key x) k)) (y ∷ ys) ≡ 0 + count_by (λ x. is_eq (R (key x) k)) ys =
      count_cons (λ x. is_eq (R (key x) k)) y ys ∙ ap (λ b. one_if b + count_by (λ x. is_eq (R (key x) k)) ys) (ap is_eq e) in
      let none : count_by (λ x. is_eq (R (key x) k)) ys ≡ 0 = none_tied k y ys e up.0 in
      absurd (omega arith)

  -- in a sorted list that has k's equal, that stands where as many elements are before it as are before k
  pub found : (k : K) (ys : List X) → Rising ys → 1 ≤ count_by (λ y. is_eq (R (key y) k)) ys → Found k ys
  found k [] up some = absurd (omega arith)
  found k (y ∷ ys) up some = found_by k y ys up some (found k ys up.1) (R (key y) k) refl

  less_or_tied : (y z : K) → is_lt (R y z) ≡ false → (is_eq (R z y) ≡ true) ⊎ (R z y ≡ Less)
  less_or_tied y z not_less = by_answer (R z y) refl
    where
      by_answer : (answer : Ordering) → R z y ≡ answer → (is_eq (R z y) ≡ true) ⊎ (R z y ≡ Less)
      by_answer Less e = inr e
      by_answer Equal e = inl (ap is_eq e)
      by_answer Greater e = absurd (both_ways (is_lt (R y z)) not_less (ap is_lt (o.antisymm y z ∙ ap ordering_reverse e)))

  ties_at : (ys : List X) (i : ℕ) (y : X) → slice_get ys i ≡ Some y → 1 ≤ count_by (λ z. is_eq (R (key z) (key y))) ys
  ties_at [] i y at = cc
  ties_at (x ∷ xs) zero y at =
      let same : x ≡ y = cc in
      let tied : is_eq (R (key x) (key y)) ≡ true = ap (λ w. is_eq (R (key w) (key y))) same ∙ ap is_eq (tied_itself o (key y)) in
      let counted = count_cons (λ z. is_eq (R (key z) (key y))) x xs ∙ ap (λ b. one_if b + count_by (λ z. is_eq (R (key z) (key y))) xs) tied in
      omega (arith, counted)
  ties_at (x ∷ xs) (suc i) y at =
      let rest = ties_at xs i y at in
      let counted = count_cons (λ z. is_eq (R (key z) (key y))) x xs in
      omega (arith, counted, rest)

  -- in a sorted list with no two equal keys each stands at the place that equals the number of smaller ones
  pub counted_at : (ys : List X) → Rising ys → (i : ℕ) (y : X) → slice_get ys i ≡ Some y
      → count_by (λ z. is_eq (R (key z) (key y))) ys ≤ 1 → count_by (λ z. is_lt (R (key z) (key y))) ys ≡ i
  counted_at [] up i y at once = cc
  counted_at (x ∷ xs) up zero y at once =
      let same : x ≡ y = cc in
      let tied : R (key x) (key y) ≡ Equal = ap (λ w. R (key w) (key y)) same ∙ tied_itself o (key y) in
      let none : count_by (λ z. is_lt (R (key z) (key y))) xs ≡ 0 = none_less (key y) x xs tied up.0 in
      count_cons (λ z. is_lt (R (key z) (key y))) x xs ∙ ap (λ b. one_if b + count_by (λ z. is_lt (R (key z) (key y))) xs) (ap is_lt tied) ∙ omega arith
  counted_at (x ∷ xs) up (suc i) y at once =
      let counted = count_cons (λ z. is_eq (R (key z) (key y))) x xs in
      let rest : count_by (λ z. is_lt (R (key z) (key y))) xs ≡ i = counted_at xs up.1 i y at (omega (arith, counted, once)) in
      elim (less_or_tied (key y) (key x) (each_at (λ z. is_lt (R (key z) (key x)) ≡ false) xs up.0 i y at)) [
        | inl tied ↦
            let twice = ap (λ b. one_if b + count_by (λ z. is_eq (R (key z) (key y))) xs) tied in
            let other = ties_at xs i y at in
            absurd (omega (arith, counted, twice, other, once))
        | inr less ↦
            count_cons (λ z. is_lt (R (key z) (key y))) x xs ∙ ap (λ b. one_if b + count_by (λ z. is_lt (R (key z) (key y))) xs) (ap is_lt less) ∙ omega arith
      ]

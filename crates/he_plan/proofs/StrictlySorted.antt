-- Lists of which each element comes before each later one, by a test that holds one way only: a list has one
-- permutation that is sorted so.
use Rattle.std.proofs.Common.{◌≡◌, ℕ, zero, suc, ◌+◌, ◌<◌, Bool, true, false, cond, List, [], ◌∷◌, length, refl, sym, ◌∙◌, ap, arith, get_or, slice_get, inl, inr}
use Rattle.std.specs.Prelude.{Some, count_by, AllPairs, IsPermutation}
use Rattle.std.specs.List.{AllByRecursion}
use Rattle.std.proofs.lemmas.Bool.{cases_Bool}
use Rattle.std.proofs.lemmas.List.{ext_get_or}
use Rattle.std.proofs.lemmas.List.Elements.{Contains-get_or}
use Rattle.std.proofs.lemmas.List.Sorted.{Contains-permutation, IsPermutation-sym, IsPermutation-trans, length_permutation, sum_by-IsPermutation}
use Rattle.std.proofs.lemmas.List.Sums.{sum_by-cons}
use Rattle.std.proofs.lemmas.Option.{slice_get-get_or}

abbrev pub one_if : Bool → ℕ
one_if b = cond b 1 0

pub count_cons : {X : Type 0} (p : X → Bool) (x : X) (xs : List X) → count_by p (x ∷ xs) ≡ one_if (p x) + count_by p xs
count_cons p x xs = sum_by-cons (λ y. cond (p y) 1 0) x xs

pub each_at : {X : Type 0} (P : X → Type 0) (xs : List X) → AllByRecursion P xs → (i : ℕ) (d : X) → i < length xs → P (get_or xs i d)
each_at P [] each i d lt = absurd (omega arith)
each_at P (x ∷ xs) each zero d lt = each.0
each_at P (x ∷ xs) each (suc i) d lt = each_at P xs each.1 i d (omega arith)

each_from : {X : Type 0} (P : X → Type 0) (xs : List X) → ((i : ℕ) (d : X) → i < length xs → P (get_or xs i d)) → AllByRecursion P xs
each_from P [] h = tt
each_from P (x ∷ xs) h = (h 0 x (omega arith), each_from P xs (λ i d lt. h (suc i) d (omega arith)))

module _ {X : Type 0} (before : X → X → Bool) where
  -- each comes before all later ones
  abbrev pub Rises : List X → Type 0
  Rises [] = Unit {0}
  Rises (x ∷ xs) = AllByRecursion (λ y. before x y ≡ true) xs × Rises xs

  pub pairs_from : (xs : List X) → Rises xs → AllPairs (λ a b. before a b ≡ true) xs
  pairs_from [] up i j d low high = absurd (omega arith)
  pairs_from (x ∷ xs) up zero zero d low high = absurd (omega arith)
  pairs_from (x ∷ xs) up zero (suc j) d low high = each_at (λ y. before x y ≡ true) xs up.0 j d (omega arith)
  pairs_from (x ∷ xs) up (suc i) zero d low high = absurd (omega arith)
  pairs_from (x ∷ xs) up (suc i) (suc j) d low high = pairs_from xs up.1 i j d (omega arith) (omega arith)

  rises_from : (xs : List X) → AllPairs (λ a b. before a b ≡ true) xs → Rises xs
  rises_from [] pairs = tt
  rises_from (x ∷ xs) pairs = (
    each_from (λ y. before x y ≡ true) xs (λ j d lt. pairs 0 (suc j) d (omega arith) (omega arith)),
    rises_from xs (λ i j d low high. pairs (suc i) (suc j) d (omega arith) (omega arith)),
  )

  module _ (one_way : (a b : X) → before a b ≡ true → before b a ≡ false) where
    none_after : (y : X) (zs : List X) → AllByRecursion (λ z. before y z ≡ true) zs → count_by (λ z. before z y) zs ≡ 0
    none_after y [] each = refl
    none_after y (z ∷ zs) each =
        count_cons (λ z. before z y) z zs ∙ ap (λ b. one_if b + count_by (λ z. before z y) zs) (one_way y z each.0)
        ∙ (let rest = none_after y zs each.1 in omega (arith, rest))

    not_itself : (x : X) → before x x ≡ false
    not_itself x = elim (cases_Bool (before x x)) [ inl h ↦ one_way x x h | inr h ↦ h ]

    -- each stands at the place that equals the number of those that come before it
    counted : (xs : List X) → Rises xs → (i : ℕ) (d : X) → i < length xs → count_by (λ z. before z (get_or xs i d)) xs ≡ i
    counted [] up i d lt = absurd (omega arith)
    counted (x ∷ xs) up zero d lt =
        count_cons (λ z. before z x) x xs ∙ ap (λ b. one_if b + count_by (λ z. before z x) xs) (not_itself x)
        ∙ (let rest = none_after x xs up.0 in omega (arith, rest))
    counted (x ∷ xs) up (suc i) d lt =
        let y : X = get_or xs i d in
        count_cons (λ z. before z y) x xs ∙ ap (λ b. one_if b + count_by (λ z. before z y) xs) (each_at (λ y. before x y ≡ true) xs up.0 i d (omega arith))
        ∙ (let rest = counted xs up.1 i d (omega arith) in omega (arith, rest))

    same_at : (ys zs : List X) → IsPermutation ys zs → Rises ys → Rises zs → (i : ℕ) (d : X) → i < length ys → get_or ys i d ≡ get_or zs i d
    same_at ys zs moved up also i d lt =
        let y : X = get_or ys i d in
        let held = Contains-permutation ys zs y moved (Contains-get_or ys i d lt) in
        let k : ℕ = held.0 in
        let is : get_or zs k y ≡ y = held.2 in
        let first : count_by (λ z. before z y) ys ≡ i = counted ys up i d lt in
        let second : count_by (λ z. before z y) zs ≡ k = sym (ap (λ w. count_by (λ z. before z w) zs) is) ∙ counted zs also k y held.1 in
        let kept : count_by (λ z. before z y) zs ≡ count_by (λ z. before z y) ys = sum_by-IsPermutation (λ z. cond (before z y) 1 0) ys zs moved in
        let place : k ≡ i = sym second ∙ kept ∙ first in
        let within : i < length zs = omega (arith, length_permutation ys zs moved) in
        let read : Some (get_or zs i d) ≡ Some y =
        sym (slice_get-get_or zs i d within) ∙ ap (slice_get zs) (sym place) ∙ slice_get-get_or zs k y held.1 ∙ ap (λ w. Some w) is in
        cc

    same_lists : (ys zs : List X) → IsPermutation ys zs → Rises ys → Rises zs → ys ≡ zs
    same_lists [] [] moved up also = refl
    same_lists [] (z ∷ zs) moved up also = let none = length_permutation [] (z ∷ zs) moved in absurd (omega (arith, none))
    same_lists (y ∷ ys) zs moved up also =
        ext_get_or y (y ∷ ys) zs (sym (length_permutation (y ∷ ys) zs moved)) (λ i lt. same_at (y ∷ ys) zs moved up also i y lt)

    pub one_sorted : (xs ys zs : List X) → IsPermutation xs ys → IsPermutation xs zs → AllPairs (λ a b. before a b ≡ true) ys → AllPairs (λ a b. before a b ≡ true) zs → ys ≡ zs
    one_sorted xs ys zs first second up also = same_lists ys zs (IsPermutation-trans ys xs zs (IsPermutation-sym xs ys first) second) (rises_from ys up) (rises_from zs also)

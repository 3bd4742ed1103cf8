-- Every list has a permutation that is sorted by keys.
use Rattle.std.proofs.Common.{◌≡◌, true, false, cond, List, [], ◌∷◌, refl, ◌∙◌, ap, inl, inr, arith}
use Rattle.std.specs.Prelude.{IsPermutation}
use Rattle.std.specs.declared.cmp.Ordering.{Ordering}
use Rattle.std.specs.declared.cmp.Ordering.TheVariants.{Less, Equal, Greater}
use Rattle.std.specs.Ordering.{is_lt, ordering_reverse}
use Rattle.std.specs.Cmp.{IsTotalOrder}
use Rattle.std.proofs.lemmas.Bool.{cases_Bool, both_ways}
use Rattle.std.proofs.lemmas.List.Sorted.{IsPermutation-cons, IsPermutation-refl, IsPermutation-swap, IsPermutation-trans}
use Rattle.he_select.proofs.Counting.{Each, Rising}
use Rattle.he_select.proofs.Orders.{was_less}

not_less : (o : Ordering) → (o ≡ Less → ⊥) → is_lt o ≡ false
not_less Less h = absurd (h refl)
not_less Equal h = refl
not_less Greater h = refl

module _ {K : Type 0} (R : K → K → Ordering) (o : IsTotalOrder R) {X : Type 0} (key : X → K) where
  unfoldable pub put_in : X → List X → List X
  put_in x [] = x ∷ []
  put_in x (y ∷ ys) = cond (is_lt (R (key x) (key y))) (x ∷ y ∷ ys) (y ∷ put_in x ys)

  unfoldable pub sorted_by : List X → List X
  sorted_by [] = []
  sorted_by (x ∷ xs) = put_in x (sorted_by xs)

  each-put_in : (P : X → Type 0) (x : X) (ys : List X) → P x → Each P ys → Each P (put_in x ys)
  unfolding put_in
  each-put_in P x [] px each = (px, tt)
  each-put_in P x (y ∷ ys) px each =
      elim (cases_Bool (is_lt (R (key x) (key y)))) [
        | inl before ↦ rw before (px, each)
        | inr after ↦ rw after (each.0, each-put_in P x ys px each.1)
      ]

  exchanged : (x y : X) (ys : List X) → IsPermutation (x ∷ y ∷ ys) (y ∷ x ∷ ys)
  exchanged x y ys = IsPermutation-swap (x ∷ y ∷ ys) (y ∷ x ∷ ys) 0 1 (omega arith) (omega arith) refl

  put_in_moves : (x : X) (ys : List X) → IsPermutation (x ∷ ys) (put_in x ys)
  unfolding put_in
  put_in_moves x [] = IsPermutation-refl (x ∷ [])
  put_in_moves x (y ∷ ys) =
      elim (cases_Bool (is_lt (R (key x) (key y)))) [
        | inl before ↦ rw before (IsPermutation-refl (x ∷ y ∷ ys))
        | inr after ↦ rw after (IsPermutation-trans _ _ _ (exchanged x y ys) (IsPermutation-cons y (x ∷ ys) (put_in x ys) (put_in_moves x ys)))
      ]

  pub sorted_moves : (xs : List X) → IsPermutation xs (sorted_by xs)
  unfolding sorted_by
  sorted_moves [] = IsPermutation-refl []
  sorted_moves (x ∷ xs) = IsPermutation-trans _ _ _ (IsPermutation-cons x xs (sorted_by xs) (sorted_moves xs)) (put_in_moves x (sorted_by xs))

  -- what is not before one that is after x is not before x
  none_between : (x y : X) → is_lt (R (key x) (key y)) ≡ true → (zs : List X) → Each (λ z. is_lt (R (key z) (key y)) ≡ false) zs → Each (λ z. is_lt (R (key z) (key x)) ≡ false) zs
  none_between x y before [] each = tt
  none_between x y before (z ∷ zs) each =
      let less : R (key x) (key y) ≡ Less = was_less _ before in (
        not_less (R (key z) (key x)) (λ e. both_ways (is_lt (R (key z) (key y))) each.0 (ap is_lt (o.trans (key z) (key x) (key y) e less))),
        none_between x y before zs each.1,
      )

  put_in_rises : (x : X) (ys : List X) → Rising R o key ys → Rising R o key (put_in x ys)
  unfolding put_in
  put_in_rises x [] up = (tt, tt)
  put_in_rises x (y ∷ ys) up =
      elim (cases_Bool (is_lt (R (key x) (key y)))) [
        | inl before ↦
            let turned : is_lt (R (key y) (key x)) ≡ false = ap is_lt (o.antisymm (key y) (key x) ∙ ap ordering_reverse (was_less _ before)) in
            rw before ((turned, none_between x y before ys up.0), up)
        | inr after ↦ rw after (each-put_in (λ z. is_lt (R (key z) (key y)) ≡ false) x ys after up.0, put_in_rises x ys up.1)
      ]

  pub sorted_rises : (xs : List X) → Rising R o key (sorted_by xs)
  unfolding sorted_by
  sorted_rises [] = tt
  sorted_rises (x ∷ xs) = put_in_rises x (sorted_by xs) (sorted_rises xs)

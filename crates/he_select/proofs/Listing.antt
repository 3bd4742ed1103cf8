-- The best of a mapped list, and of equal comparisons.
use Rattle.std.proofs.Common.{◌≡◌, Bool, not, ◌||◌, List, [], ◌∷◌, map, refl, ◌∙◌, ap, inl, inr}
use Rattle.std.proofs.Common.{ℕ, ◌++◌, length, take, drop, arith}
use Rattle.std.proofs.lemmas.Grind.{common_steps}
use Rattle.std.specs.Prelude.{find, filter, option_map}
use Rattle.std.specs.List.{list_any}
use Rattle.std.proofs.lemmas.Bool.{cases_Bool}
use Rattle.he_select.specs.Rules.{best_by}
use Rattle.he_select.proofs.Walks.{find-same}

module _ {X Y : Type 0} (f : X → Y) where
  pub filter-map : (p : Y → Bool) (xs : List X) → filter p (map f xs) ≡ map f (filter (λ x. p (f x)) xs)
  filter-map p [] = refl
  filter-map p (x ∷ xs) =
      elim (cases_Bool (p (f x))) [
        | inl here ↦ rw here (ap (λ ys. f x ∷ ys) (filter-map p xs))
        | inr gone ↦ rw gone (filter-map p xs)
      ]

  find-map : (p : Y → Bool) (xs : List X) → find p (map f xs) ≡ option_map f (find (λ x. p (f x)) xs)
  find-map p [] = refl
  find-map p (x ∷ xs) =
      elim (cases_Bool (p (f x))) [
        | inl here ↦ rw here refl
        | inr gone ↦ rw gone (find-map p xs)
      ]

  any-map : (p : Y → Bool) (xs : List X) → list_any p (map f xs) ≡ list_any (λ x. p (f x)) xs
  any-map p [] = refl
  any-map p (x ∷ xs) = ap (λ t. p (f x) || t) (any-map p xs)

  pub best_by-map : (better : Y → Y → Bool) (xs : List X) → best_by better (map f xs) ≡ option_map f (best_by (λ a b. better (f a) (f b)) xs)
  best_by-map better xs =
      find-same (λ y. not (list_any (λ z. better z y) (map f xs))) (λ y. not (list_any (λ x. better (f x) y) xs)) (λ y. ap not (any-map (λ z. better z y) xs)) (map f xs)
      ∙ find-map (λ y. not (list_any (λ x. better (f x) y) xs)) xs

module _ {X : Type 0} where
  any-same : (p q : X → Bool) → ((x : X) → p x ≡ q x) → (xs : List X) → list_any p xs ≡ list_any q xs
  any-same p q e [] = refl
  any-same p q e (x ∷ xs) = ap (λ t. t || list_any p xs) (e x) ∙ ap (λ t. q x || t) (any-same p q e xs)

  pub best_by-same : (better other : X → X → Bool) → ((a b : X) → better a b ≡ other a b) → (xs : List X) → best_by better xs ≡ best_by other xs
  best_by-same better other e xs =
      find-same (λ x. not (list_any (λ y. better y x) xs)) (λ x. not (list_any (λ y. other y x) xs))
      (λ x. ap not (any-same (λ y. better y x) (λ y. other y x) (λ y. e y x) xs)) xs

-- what a vector holds after its slice was changed to ys
pub written_back : {X : Type 0} (xs ys : List X) (n : ℕ) → length ys ≡ length xs → length xs ≡ n → take n (ys ++ drop (length ys) xs) ≡ ys
written_back xs ys n same whole = grind (arith, common_steps)

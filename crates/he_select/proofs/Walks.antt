-- A loop that keeps the best of the members that fit finds the first of them than which none is better.
use Rattle.std.proofs.Common.{◌≡◌, ℕ, ◌+◌, ◌<◌, ◌≤◌, Bool, true, false, not, ◌||◌, cond, List, [], ◌∷◌, drop, length, map, get_or, refl, sym, ◌∙◌, ap, inl, inr}
use Rattle.std.specs.Prelude.{Option, None, Some, find, filter}
use Rattle.std.specs.List.{list_any}
use Rattle.std.specs.Cmp.{IsStrictWeakOrder}
use Rattle.std.proofs.lemmas.Bool.{cases_Bool, both_ways}
use Rattle.std.proofs.lemmas.List.{at_drop_all, at_drop_more}
use Rattle.he_select.specs.Rules.{best_by}
use Rattle.he_select.specs.Walking.{keep_better, keep_fitting, walk_fitting}

abbrev pub walk : {X : Type 0} → (X → X → Bool) → Option X → List X → Option X
walk better best [] = best
walk better best (x ∷ xs) = walk better (keep_better better best x) xs

walk_filtered : {X : Type 0} (fits : X → Bool) (better : X → X → Bool) (best : Option X) (xs : List X) → walk_fitting fits better best xs ≡ walk better best (filter fits xs)
walk_filtered fits better best [] = refl
walk_filtered fits better best (x ∷ xs) =
    elim (cases_Bool (fits x)) [
      | inl true_here ↦ rw true_here (walk_filtered fits better (keep_better better best x) xs)
      | inr false_here ↦ rw false_here (walk_filtered fits better best xs)
    ]

pub find-same : {X : Type 0} (p q : X → Bool) → ((x : X) → p x ≡ q x) → (xs : List X) → find p xs ≡ find q xs
find-same p q e [] = refl
find-same p q e (x ∷ xs) = ap (λ b. cond b (Some x) (find p xs)) (e x) ∙ ap (λ r. cond (q x) (Some x) r) (find-same p q e xs)

first_follows : (a b r : Bool) → (a ≡ true → b ≡ true) → (a || (b || r)) ≡ (b || r)
first_follows false b r h = refl
first_follows true b r h = rw (h refl) refl

second_follows : (a b r : Bool) → (b ≡ true → a ≡ true) → (a || (b || r)) ≡ (a || r)
second_follows a false r h = refl
second_follows a true r h = rw (h refl) refl

any_follows : {X : Type 0} (p q : X → Bool) → ((x : X) → p x ≡ true → q x ≡ true) → (xs : List X) → list_any p xs ≡ true → list_any q xs ≡ true
any_follows p q h [] e = e
any_follows p q h (x ∷ xs) e =
    elim (cases_Bool (p x)) [
      | inl true_here ↦ rw (h x true_here) refl
      | inr false_here ↦ elim (cases_Bool (q x)) [
        | inl also ↦ rw also refl
        | inr neither ↦ rw neither (any_follows p q h xs (rw false_here at e))
      ]
    ]

module _ {X : Type 0} (better : X → X → Bool) (o : IsStrictWeakOrder better) where
  not_itself : (x : X) → better x x ≡ false
  not_itself x = elim (cases_Bool (better x x)) [ inl true_here ↦ o.one_way x x true_here | inr false_here ↦ false_here ]

  -- what b beats, x beats, since x beats b
  beats_more : (b x y : X) → better x b ≡ true → better b y ≡ true → better x y ≡ true
  beats_more b x y xb by =
      elim (cases_Bool (better x y)) [
        | inl true_here ↦ true_here
        | inr false_here ↦ absurd (both_ways (better x b) (o.chain x y b false_here (o.one_way b y by)) xb)
      ]

  -- what x beats, b beats, since x doesn't beat b
  beats_too : (b x y : X) → better x b ≡ false → better x y ≡ true → better b y ≡ true
  beats_too b x y xb xy =
      elim (cases_Bool (better b y)) [
        | inl true_here ↦ true_here
        | inr false_here ↦ absurd (both_ways (better x y) (o.chain x b y xb false_here) xy)
      ]

  -- what beats b, beats x, since x doesn't beat b
  beaten_too : (b x y : X) → better x b ≡ false → better y b ≡ true → better y x ≡ true
  beaten_too b x y xb yb =
      elim (cases_Bool (better y x)) [
        | inl true_here ↦ true_here
        | inr false_here ↦ absurd (both_ways (better y b) (o.chain y x b false_here xb) yb)
      ]

  step_won : (b x : X) (xs : List X) → better x b ≡ true → best_by better (b ∷ x ∷ xs) ≡ best_by better (x ∷ xs)
  step_won b x xs xb =
      find-same
      (λ y. not (better b y || (better x y || list_any (λ z. better z y) xs)))
      (λ y. not (better x y || list_any (λ z. better z y) xs))
      (λ y. ap not (first_follows (better b y) (better x y) (list_any (λ z. better z y) xs) (beats_more b x y xb)))
      (b ∷ x ∷ xs)
      ∙ ap (λ t. cond (not (t || list_any (λ z. better z b) xs)) (Some b) (best_by better (x ∷ xs))) xb

  lost : (b x : X) (xs : List X) → better x b ≡ false → list_any (λ z. better z b) xs ≡ true → not (better b x || list_any (λ z. better z x) xs) ≡ false
  lost b x xs xb e =
      let more : list_any (λ z. better z x) xs ≡ true = any_follows (λ z. better z b) (λ z. better z x) (λ z. beaten_too b x z xb) xs e in
      elim (cases_Bool (better b x)) [ inl true_here ↦ rw true_here refl | inr false_here ↦ rw (false_here, more) refl ]

  step_kept : (b x : X) (xs : List X) → better x b ≡ false → best_by better (b ∷ x ∷ xs) ≡ best_by better (b ∷ xs)
  step_kept b x xs xb =
      find-same
      (λ y. not (better b y || (better x y || list_any (λ z. better z y) xs)))
      (λ y. not (better b y || list_any (λ z. better z y) xs))
      (λ y. ap not (second_follows (better b y) (better x y) (list_any (λ z. better z y) xs) (beats_too b x y xb)))
      (b ∷ x ∷ xs)
      ∙ elim (cases_Bool (list_any (λ z. better z b) xs)) [
        | inl beaten ↦ ap (λ t. cond (not (better b b || list_any (λ z. better z b) xs)) (Some b) (cond t (Some x) (find (λ y. not (better b y || list_any (λ z. better z y) xs)) xs))) (lost b x xs xb beaten)
        | inr best ↦ rw (not_itself b, best) refl
      ]

  pub walked : (b : X) (xs : List X) → walk better (Some b) xs ≡ best_by better (b ∷ xs)
  walked b [] = rw (not_itself b) refl
  walked b (x ∷ xs) =
      walked (cond (better x b) x b) xs
      ∙ elim (cases_Bool (better x b)) [
        | inl won ↦ ap (λ t. best_by better (cond t x b ∷ xs)) won ∙ sym (step_won b x xs won)
        | inr kept ↦ ap (λ t. best_by better (cond t x b ∷ xs)) kept ∙ sym (step_kept b x xs kept)
      ]

  walked_all : (xs : List X) → walk better None xs ≡ best_by better xs
  walked_all [] = refl
  walked_all (x ∷ xs) = walked x xs

  pub best_fitting : (fits : X → Bool) (xs : List X) → walk_fitting fits better None xs ≡ best_by better (filter fits xs)
  best_fitting fits xs = walk_filtered fits better None xs ∙ walked_all (filter fits xs)

-- one more member of a list that is walked
pub walk_on : {X Y : Type 0} (fits : Y → Bool) (better : Y → Y → Bool) (f : X → Y) (xs : List X) (n : ℕ) (d : X) (best next all : Option Y) (made : Y)
    → n < length xs → walk_fitting fits better best (map f (drop n xs)) ≡ all → made ≡ f (get_or xs n d) → next ≡ keep_fitting fits better best made
    → walk_fitting fits better next (map f (drop (n + 1) xs)) ≡ all
walk_on fits better f xs n d best next all made inside kept made_of is =
    ap (λ b. walk_fitting fits better b (map f (drop (n + 1) xs))) (is ∙ ap (λ y. keep_fitting fits better best y) made_of)
    ∙ sym (at_drop_more (λ l. walk_fitting fits better best (map f l)) xs n d inside)
    ∙ kept

pub walk_over : {X Y : Type 0} (fits : Y → Bool) (better : Y → Y → Bool) (f : X → Y) (xs : List X) (n : ℕ) (best all : Option Y)
    → length xs ≤ n → walk_fitting fits better best (map f (drop n xs)) ≡ all → best ≡ all
walk_over fits better f xs n best all over kept = sym (at_drop_all (λ l. walk_fitting fits better best (map f l)) xs n over) ∙ kept

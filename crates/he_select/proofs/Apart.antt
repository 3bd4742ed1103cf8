-- Members that a test of a field tells apart, and members that pass a test, by place.
use Rattle.std.proofs.Common.{◌≡◌, ◌≢◌, ℕ, ◌<◌, Bool, true, false, not, List, [], ◌∷◌, length, take, refl, sym, ◌∙◌, ap, subst, inl, inr, arith, get_or, get_or-take, length-take}
use Rattle.std.specs.Prelude.{Option, None, Some, All, AllPairs}
use Rattle.std.specs.List.{list_any, position_from}
use Rattle.std.proofs.lemmas.Bool.{cases_Bool, false≢true, both_ways}
use Rattle.std.proofs.lemmas.List.{get_or_default}
use Rattle.std.proofs.lemmas.List.Folds.{Any-from_list_any, list_any_at}
use Rattle.he_select.specs.Places.{FailsFirst, passes_at, repeats_at}
use Rattle.he_select.specs.Refusals.{first_repeat}
use Rattle.he_select.proofs.Least.{first_repeat_least, passes_inside, passes_is, position_none, position_some}

-- members that a test of equal fields tells apart, by place
module _ {X K : Type 0} (key : X → K) (same : X → X → Bool) (equal : (x y : X) → same x y ≡ true → key x ≡ key y) (itself : (x y : X) → key x ≡ key y → same x y ≡ true) where
  pub apart : (xs : List X) → ((n : ℕ) → repeats_at same xs n ≡ false) → AllPairs (λ a b. key a ≢ key b) xs
  apart xs none i j d lt inside e =
      let seen : list_any (same (get_or xs j d)) (take j xs) ≡ true =
      list_any_at (same (get_or xs j d)) (take j xs) i d (omega (arith, length-take j xs)) (ap (same (get_or xs j d)) (get_or-take j xs i d lt) ∙ itself (get_or xs j d) (get_or xs i d) (sym e)) in
      both_ways (repeats_at same xs j) (none j) (passes_is (λ x. list_any (same x) (take j xs)) xs j d inside ∙ seen)

  pub repeats_none : (xs : List X) → AllPairs (λ a b. key a ≢ key b) xs → (n : ℕ) → repeats_at same xs n ≡ false
  repeats_none xs pairs n = elim (cases_Bool (repeats_at same xs n)) [ inl here ↦ absurd (impossible here) | inr gone ↦ gone ]
    where
      at_member : (x : X) → n < length xs → passes_at (λ y. list_any (same y) (take n xs)) xs n ≡ list_any (same (get_or xs n x)) (take n xs) → list_any (same (get_or xs n x)) (take n xs) ≡ true → ⊥
      at_member d inside is seen =
          let found = Any-from_list_any (same (get_or xs n d)) (take n xs) seen in
          let i : ℕ = found.0 in
          let below : i < n = omega (arith, found.2, length-take n xs) in
          let member : get_or xs i d ≡ found.1 = get_or_default xs i d found.1 (omega (arith, below, inside)) ∙ sym (get_or-take n xs i found.1 below) ∙ found.3 in
          pairs i n d below inside (sym (equal (get_or xs n d) (get_or xs i d) (ap (same (get_or xs n d)) member ∙ found.4)))

      impossible : repeats_at same xs n ≡ true → ⊥
      impossible here =
          let inside = passes_inside (λ x. list_any (same x) (take n xs)) xs n here in
          by_list xs refl
        where
          by_list : (ys : List X) → xs ≡ ys → ⊥
          by_list [] e = false≢true (ap (λ (l : List X). passes_at (λ x. list_any (same x) (take n l)) l n) (sym e) ∙ here)
          by_list (y ∷ ys) e = at_member y (passes_inside (λ x. list_any (same x) (take n xs)) xs n here) (passes_is (λ x. list_any (same x) (take n xs)) xs n y (passes_inside (λ x. list_any (same x) (take n xs)) xs n here)) (sym (passes_is (λ x. list_any (same x) (take n xs)) xs n y (passes_inside (λ x. list_any (same x) (take n xs)) xs n here)) ∙ here)

  pub never_repeats : (xs : List X) → AllPairs (λ a b. key a ≢ key b) xs → first_repeat same xs ≡ None
  never_repeats xs pairs = by_found (first_repeat same xs) refl
    where
      by_found : (o : Option ℕ) → first_repeat same xs ≡ o → first_repeat same xs ≡ None
      by_found None e = e
      by_found (Some k) e = absurd (both_ways (repeats_at same xs k) (repeats_none xs pairs k) (first_repeat_least same xs k e).holds)

was_yes : (b : Bool) → not b ≡ false → b ≡ true
was_yes true h = refl
was_yes false h = absurd (false≢true (sym h))

module _ {X : Type 0} (P : X → Type 0) (passes : X → Bool) (holds : (x : X) → passes x ≡ true → P x) (told : (x : X) → P x → passes x ≡ true) where
  kept : (xs : List X) (n : ℕ) (d : X) → n < length xs → passes_at (λ x. not (passes x)) xs n ≡ false → P (get_or xs n d)
  kept xs n d inside h = holds (get_or xs n d) (was_yes (passes (get_or xs n d)) (sym (passes_is (λ x. not (passes x)) xs n d inside) ∙ h))

  not_kept : (xs : List X) (n : ℕ) (d : X) → n < length xs → passes_at (λ x. not (passes x)) xs n ≡ true → P (get_or xs n d) → ⊥
  not_kept xs n d inside h p = false≢true (sym (ap not (told (get_or xs n d) p)) ∙ (sym (passes_is (λ x. not (passes x)) xs n d inside) ∙ h))

  fails_first : (xs : List X) (n : ℕ) → passes_at (λ x. not (passes x)) xs n ≡ true → ((m : ℕ) → m < n → passes_at (λ x. not (passes x)) xs m ≡ false) → FailsFirst P xs n
  fails_first xs n h least =
      let inside : n < length xs = passes_inside (λ x. not (passes x)) xs n h in
      record {
        inside = inside;
        fails = λ d p. not_kept xs n d inside h p;
        earlier = λ m d lt. kept xs m d (omega (arith, inside, lt)) (least m lt);
      }

  pub first_failing : (xs : List X) (k : ℕ) → position_from (λ x. not (passes x)) 0 xs ≡ Some k → FailsFirst P xs k
  first_failing xs k e =
      let r = position_some (λ x. not (passes x)) xs 0 k e in
      let is : r.n ≡ k = omega (arith, r.is) in
      subst (FailsFirst P xs) is (fails_first xs r.n r.holds r.least)

  pub none_failing : (xs : List X) → position_from (λ x. not (passes x)) 0 xs ≡ None → All P xs
  none_failing xs e n d inside = kept xs n d inside (position_none (λ x. not (passes x)) xs 0 e n)

  pub all_pass : (xs : List X) → All P xs → position_from (λ x. not (passes x)) 0 xs ≡ None
  all_pass xs all = by_found (position_from (λ x. not (passes x)) 0 xs) refl
    where
      at_place : (ys : List X) → xs ≡ ys → (k : ℕ) → FailsFirst P xs k → ⊥
      at_place [] e k f = let inside : k < length xs = f.inside in let none : length xs ≡ 0 = ap length e in omega arith
      at_place (y ∷ ys) e k f = f.fails y (all k y f.inside)

      by_found : (o : Option ℕ) → position_from (λ x. not (passes x)) 0 xs ≡ o → position_from (λ x. not (passes x)) 0 xs ≡ None
      by_found None e = e
      by_found (Some k) e = absurd (at_place xs refl k (first_failing xs k e))

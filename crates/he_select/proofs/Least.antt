-- The least place of a member that passes a test, of one that stood before, and of a pair.
use Rattle.std.proofs.Common.{◌≡◌, ℕ, zero, suc, ◌+◌, ◌<◌, ◌≤◌, ◌⊎◌, Bool, true, false, List, [], ◌∷◌, ◌++◌, length, take, refl, sym, ◌∙◌, ap, subst, inl, inr, arith, get_or, append_assoc, append-nil}
use Rattle.std.specs.Prelude.{Option, None, Some, option_map}
use Rattle.std.specs.List.{list_any, position_from}
use Rattle.std.specs.Option.{option_or}
use Rattle.std.proofs.lemmas.Bool.{cases_Bool, false≢true, both_ways}
use Rattle.he_select.specs.Places.{IsFirstPair, IsLeast, both_at, passes_at, repeats_at}
use Rattle.he_select.specs.Refusals.{first_repeat, repeat_from}

some_is : {X : Type 0} {x y : X} → Some x ≡ Some y → x ≡ y
some_is e = cc

no_some : {X : Type 0} {x : X} → None ≡ Some x → ⊥
no_some e = cc

-- a number counted from `place`, at the first place of which the test holds
pub record LeastFrom (test : ℕ → Bool) (place k : ℕ) : Type 0 where
  pub n : ℕ
  pub is : k ≡ place + n
  pub holds : test n ≡ true
  pub least : (m : ℕ) → m < n → test m ≡ false

first_of_all : (test : ℕ → Bool) (place k : ℕ) → place ≡ k → test 0 ≡ true → LeastFrom test place k
first_of_all test place k e here = record { n = 0; is = omega arith; holds = here; least = λ m lt. absurd (omega arith) }

later_than : (test : ℕ → Bool) (place k : ℕ) → test 0 ≡ false → LeastFrom (λ n. test (suc n)) (place + 1) k → LeastFrom test place k
later_than test place k gone r = record { n = suc r.n; is = omega (arith, r.is); holds = r.holds; least = before }
  where
    before : (m : ℕ) → m < suc r.n → test m ≡ false
    before zero lt = gone
    before (suc m) lt = r.least m (omega arith)

module _ {X : Type 0} (test : X → Bool) where
  pub position_some : (xs : List X) (place k : ℕ) → position_from test place xs ≡ Some k → LeastFrom (passes_at test xs) place k
  position_some [] place k e = absurd (no_some e)
  position_some (x ∷ xs) place k e =
      elim (cases_Bool (test x)) [
        | inl here ↦ first_of_all (passes_at test (x ∷ xs)) place k (some_is (rw here at e)) here
        | inr gone ↦ later_than (passes_at test (x ∷ xs)) place k gone (position_some xs (place + 1) k (rw gone at e))
      ]

  pub position_none : (xs : List X) (place : ℕ) → position_from test place xs ≡ None → (n : ℕ) → passes_at test xs n ≡ false
  position_none [] place e n = refl
  position_none (x ∷ xs) place e zero =
      elim (cases_Bool (test x)) [
        | inl here ↦ absurd (no_some (sym (rw here at e)))
        | inr gone ↦ gone
      ]
  position_none (x ∷ xs) place e (suc n) =
      elim (cases_Bool (test x)) [
        | inl here ↦ absurd (no_some (sym (rw here at e)))
        | inr gone ↦ position_none xs (place + 1) (rw gone at e) n
      ]

  pub passes_inside : (xs : List X) (n : ℕ) → passes_at test xs n ≡ true → n < length xs
  passes_inside [] n h = absurd (false≢true h)
  passes_inside (x ∷ xs) zero h = omega arith
  passes_inside (x ∷ xs) (suc n) h = let inside = passes_inside xs n h in omega arith

  pub passes_is : (xs : List X) (n : ℕ) (d : X) → n < length xs → passes_at test xs n ≡ test (get_or xs n d)
  passes_is [] n d lt = absurd (omega arith)
  passes_is (x ∷ xs) zero d lt = refl
  passes_is (x ∷ xs) (suc n) d lt = passes_is xs n d (omega arith)

module _ {X : Type 0} (same : X → X → Bool) where
  -- the member at this place is the same as one before it, or as one of those that stood before the list
  abbrev seen_at : List X → List X → ℕ → Bool
  seen_at before xs n = passes_at (λ x. list_any (same x) (before ++ take n xs)) xs n

  shifted : (before xs : List X) (x : X) (n : ℕ) → seen_at (before ++ x ∷ []) xs n ≡ seen_at before (x ∷ xs) (suc n)
  shifted before xs x n = ap (λ l. passes_at (λ y. list_any (same y) l) xs n) (append_assoc before (x ∷ []) (take n xs))

  first_seen : (before xs : List X) (x : X) → seen_at before (x ∷ xs) 0 ≡ list_any (same x) before
  first_seen before xs x = ap (list_any (same x)) (append-nil before)

  repeat_some : (before xs : List X) (place k : ℕ) → repeat_from same before place xs ≡ Some k → LeastFrom (seen_at before xs) place k
  repeat_some before [] place k e = absurd (no_some e)
  repeat_some before (x ∷ xs) place k e =
      elim (cases_Bool (list_any (same x) before)) [
        | inl here ↦ first_of_all (seen_at before (x ∷ xs)) place k (some_is (rw here at e)) (first_seen before xs x ∙ here)
        | inr gone ↦ let r = repeat_some (before ++ x ∷ []) xs (place + 1) k (rw gone at e) in
            later_than (seen_at before (x ∷ xs)) place k (first_seen before xs x ∙ gone)
            (record { n = r.n; is = r.is; holds = sym (shifted before xs x r.n) ∙ r.holds; least = λ m lt. sym (shifted before xs x m) ∙ r.least m lt })
      ]

  repeat_none : (before xs : List X) (place : ℕ) → repeat_from same before place xs ≡ None → (n : ℕ) → seen_at before xs n ≡ false
  repeat_none before [] place e n = refl
  repeat_none before (x ∷ xs) place e zero =
      elim (cases_Bool (list_any (same x) before)) [
        | inl here ↦ absurd (no_some (sym (rw here at e)))
        | inr gone ↦ first_seen before xs x ∙ gone
      ]
  repeat_none before (x ∷ xs) place e (suc n) =
      elim (cases_Bool (list_any (same x) before)) [
        | inl here ↦ absurd (no_some (sym (rw here at e)))
        | inr gone ↦ sym (shifted before xs x n) ∙ repeat_none (before ++ x ∷ []) xs (place + 1) (rw gone at e) n
      ]

  pub first_repeat_least : (xs : List X) (k : ℕ) → first_repeat same xs ≡ Some k → IsLeast (repeats_at same xs) k
  first_repeat_least xs k e =
      let r = repeat_some [] xs 0 k e in
      let is : r.n ≡ k = omega (arith, r.is) in
      subst (IsLeast (repeats_at same xs)) is (record { holds = r.holds; least = r.least })

  pub no_repeat : (xs : List X) → first_repeat same xs ≡ None → (n : ℕ) → repeats_at same xs n ≡ false
  no_repeat xs e n = repeat_none [] xs 0 e n

-- a pair counted from `place`
pub record PairFrom {X : Type 0} (test : X → X → Bool) (xs : List X) (place i j : ℕ) : Type 0 where
  pub m : ℕ
  pub n : ℕ
  pub first : i ≡ place + m
  pub second : j ≡ place + n
  pub is : IsFirstPair test xs m n

module _ {X : Type 0} (test : X → X → Bool) where
  abbrev pub pair_from : ℕ → List X → Option (ℕ × ℕ)
  pair_from place [] = None
  pair_from place (x ∷ xs) = option_or (option_map (λ later. (place, later)) (position_from (test x) (place + 1) xs)) (pair_from (place + 1) xs)

  none_with : (x : X) (xs : List X) (place : ℕ) → position_from (test x) place xs ≡ None → (n : ℕ) → both_at test (x ∷ xs) 0 n ≡ true → 0 < n → ⊥
  none_with x xs place e zero h lt = omega arith
  none_with x xs place e (suc n) h lt = both_ways (passes_at (test x) xs n) (position_none (test x) xs place e n) h

  pub pair_none : (xs : List X) (place : ℕ) → pair_from place xs ≡ None → (m n : ℕ) → m < n → both_at test xs m n ≡ true → ⊥
  pair_none [] place e m n lt h = false≢true h
  pair_none (x ∷ xs) place e m n lt h = by_position (position_from (test x) (place + 1) xs) refl (λ q k l below both. pair_none xs (place + 1) q k l below both)
    where
      at_place : position_from (test x) (place + 1) xs ≡ None → pair_from (place + 1) xs ≡ None → (pair_from (place + 1) xs ≡ None → (m n : ℕ) → m < n → both_at test xs m n ≡ true → ⊥) → (m n : ℕ) → m < n → both_at test (x ∷ xs) m n ≡ true → ⊥
      at_place p q more zero n lt h = none_with x xs (place + 1) p n h lt
      at_place p q more (suc m) (suc n) lt h = more q m n (omega arith) h
      at_place p q more (suc m) zero lt h = omega arith

      by_position : (o : Option ℕ) → position_from (test x) (place + 1) xs ≡ o → (pair_from (place + 1) xs ≡ None → (m n : ℕ) → m < n → both_at test xs m n ≡ true → ⊥) → ⊥
      by_position None p more = at_place p (rw p at e) more m n lt h
      by_position (Some k) p more = no_some (sym (rw p at e))

  pub pair_some : (xs : List X) (place i j : ℕ) → pair_from place xs ≡ Some (i, j) → PairFrom test xs place i j
  pair_some [] place i j e = absurd (no_some e)
  pair_some (x ∷ xs) place i j e = by_position (position_from (test x) (place + 1) xs) refl (λ q. pair_some xs (place + 1) i j q)
    where
      here : (k : ℕ) → place ≡ i → k ≡ j → LeastFrom (passes_at (test x) xs) (place + 1) k → PairFrom test (x ∷ xs) place i j
      here k a b r = record { m = 0; n = suc r.n; first = omega arith; second = omega (arith, r.is); is = record { later = omega arith; holds = r.holds; least = least } }
        where
          least : (m n : ℕ) → m < n → both_at test (x ∷ xs) m n ≡ true → (0 < m) ⊎ ((0 ≡ m) × (suc r.n ≤ n))
          least (suc m) n lt h = inl (omega arith)
          least zero zero lt h = absurd (omega arith)
          least zero (suc n) lt h = inr (refl, not_before n h)
            where
              not_before : (n : ℕ) → passes_at (test x) xs n ≡ true → suc r.n ≤ suc n
              not_before n h = grind (arith, r.least n, h)

      later : position_from (test x) (place + 1) xs ≡ None → PairFrom test xs (place + 1) i j → PairFrom test (x ∷ xs) place i j
      later p r = record { m = suc r.m; n = suc r.n; first = omega (arith, r.first); second = omega (arith, r.second); is = record { later = omega (arith, r.is.later); holds = r.is.holds; least = least } }
        where
          least : (m n : ℕ) → m < n → both_at test (x ∷ xs) m n ≡ true → (suc r.m < m) ⊎ ((suc r.m ≡ m) × (suc r.n ≤ n))
          least zero n lt h = absurd (none_with x xs (place + 1) p n h lt)
          least (suc m) zero lt h = absurd (omega arith)
          least (suc m) (suc n) lt h = elim (r.is.least m n (omega arith) h) [ inl a ↦ inl (omega arith) | inr b ↦ inr (ap suc b.0, omega (arith, b.1)) ]

      by_position : (o : Option ℕ) → position_from (test x) (place + 1) xs ≡ o → (pair_from (place + 1) xs ≡ Some (i, j) → PairFrom test xs (place + 1) i j) → PairFrom test (x ∷ xs) place i j
      by_position None p more = later p (more (rw p at e))
      by_position (Some k) p more = let both : (place, k) ≡ (i, j) = some_is (rw p at e) in here k (ap (λ q. q.0) both) (ap (λ q. q.1) both) (position_some (test x) xs (place + 1) k p)

-- What stands in a list of notes, and what the words on lists say of it.
use Rattle.std.proofs.Common.{◌≡◌, ◌≢◌, ◌⊎◌, ℕ, zero, suc, ◌+◌, ◌<◌, ◌≤◌, Bool, true, false, cond, nat_eq, eq-eqb, ne_eqb, min, List, [], ◌∷◌, refl, sym, ap, subst, inl, inr, ⊎_elim, arith}
use Rattle.std.specs.Prelude.{◌&&◌, nat_lt, Contains}
use Rattle.std.proofs.lemmas.Bool.Decides.{nat_tests}
use borrow.Author.Tests.{ltb-true}
use mathlib.Core.Logic.{dite}
use native.Mathlib.Decide.{ℕ_discrete, dec_le}
use Rattle.he_board.specs.declared.limits.TheConstants.{NO_OFFER}
use Rattle.he_board.specs.Notes.{times, least_of, are_keys}

module _ {X : Type 0} where
  pub contains_first : (x : X) (xs : List X) → Contains (x ∷ xs) x
  contains_first x xs = (0, omega arith, refl)

  pub contains_later : (x y : X) (xs : List X) → Contains xs y → Contains (x ∷ xs) y
  contains_later x y xs (k, near, is) = (suc k, omega arith, is)

  pub contains_cases : (x y : X) (xs : List X) → Contains (x ∷ xs) y → (x ≡ y) ⊎ Contains xs y
  contains_cases x y xs (zero, near, is) = inl is
  contains_cases x y xs (suc k, near, is) = inr (k, omega arith, is)

  pub contains_none : (y : X) → Contains [] y → ⊥
  contains_none y (k, near, is) = absurd (omega arith)

pub times-contains : (n : ℕ) (xs : List ℕ) → Contains xs n → 0 < times n xs
times-contains n [] h = absurd (contains_none n h)
times-contains n (x ∷ xs) h = ⊎_elim
    (λ (e : x ≡ n). let F : Bool → Type 0 = λ b. 0 < cond b 1 0 + times n xs in subst F (sym (eq-eqb x n e)) (omega arith))
    (λ (t : Contains xs n). let s : 0 < times n xs = times-contains n xs t in omega arith)
    (contains_cases x n xs h)

pub times-none : (n : ℕ) (xs : List ℕ) → (Contains xs n → ⊥) → times n xs ≡ 0
times-none n [] none = refl
times-none n (x ∷ xs) none = let s : times n xs ≡ 0 = times-none n xs (λ t. none (contains_later x n xs t)) in
    let ne : x ≢ n = λ e. none (subst (λ (y : ℕ). Contains (x ∷ xs) y) e (contains_first x xs)) in
    let F : Bool → Type 0 = λ b. cond b 1 0 + times n xs ≡ 0 in subst F (sym (ne_eqb x n ne)) (omega arith)

pub contains-times : (n : ℕ) (xs : List ℕ) → 0 < times n xs → Contains xs n
contains-times n [] h = absurd (omega arith)
contains-times n (x ∷ xs) h = dite (ℕ_discrete x n)
    (λ (e : x ≡ n). subst (λ (y : ℕ). Contains (x ∷ xs) y) e (contains_first x xs))
    (λ (ne : x ≢ n). let F : Bool → Type 0 = λ b. 0 < cond b 1 0 + times n xs in let h' : F false = subst F (ne_eqb x n ne) h in contains_later x n xs (contains-times n xs (omega arith)))

pub least_of-contains : (r k : ℕ) (xs : List (ℕ × ℕ)) → Contains xs (r, k) → least_of r xs ≤ k
least_of-contains r k [] h = absurd (contains_none (r, k) h)
least_of-contains r k (x ∷ xs) h = ⊎_elim
    (λ (e : x ≡ (r, k)). let F : Bool → Type 0 = λ b. cond b (min x.1 (least_of r xs)) (least_of r xs) ≤ k in
    let same : x.1 ≡ k = ap (λ (y : ℕ × ℕ). y.1) e in subst F (sym (eq-eqb x.0 r (ap (λ (y : ℕ × ℕ). y.0) e))) (omega arith))
    (λ (t : Contains xs (r, k)). let s : least_of r xs ≤ k = least_of-contains r k xs t in
    elim (nat_eq x.0 r) as (λ b. cond b (min x.1 (least_of r xs)) (least_of r xs) ≤ k) [ true ↦ omega arith | false ↦ s ])
    (contains_cases x (r, k) xs h)

-- a value that is at most each value of the race
pub least_of-ge : (r m : ℕ) (xs : List (ℕ × ℕ)) → m ≤ NO_OFFER → ((k : ℕ) → Contains xs (r, k) → m ≤ k) → m ≤ least_of r xs
least_of-ge r m [] top each = top
least_of-ge r m (x ∷ xs) top each = let s : m ≤ least_of r xs = least_of-ge r m xs top (λ k t. each k (contains_later x (r, k) xs t)) in
    dite (ℕ_discrete x.0 r)
    (λ (e : x.0 ≡ r). let F : Bool → Type 0 = λ b. m ≤ cond b (min x.1 (least_of r xs)) (least_of r xs) in
    let here : m ≤ x.1 = each x.1 (subst (λ (y : ℕ). Contains (x ∷ xs) (y, x.1)) e (contains_first x xs)) in subst F (sym (eq-eqb x.0 r e)) (omega arith))
    (λ (ne : x.0 ≢ r). let F : Bool → Type 0 = λ b. m ≤ cond b (min x.1 (least_of r xs)) (least_of r xs) in subst F (sym (ne_eqb x.0 r ne)) s)

pub least_of-one_of : (r : ℕ) (xs : List (ℕ × ℕ)) → Contains xs (r, least_of r xs) ⊎ (least_of r xs ≡ NO_OFFER)
least_of-one_of r [] = inr refl
least_of-one_of r (x ∷ xs) = dite (ℕ_discrete x.0 r)
    (λ (e : x.0 ≡ r). let F : Bool → Type 0 = λ b. Contains (x ∷ xs) (r, cond b (min x.1 (least_of r xs)) (least_of r xs)) ⊎ (cond b (min x.1 (least_of r xs)) (least_of r xs) ≡ NO_OFFER) in
    let G : ℕ → Type 0 = λ n. Contains (x ∷ xs) (r, n) ⊎ (n ≡ NO_OFFER) in
    subst F (sym (eq-eqb x.0 r e)) (dite (dec_le x.1 (least_of r xs))
    (λ (le : x.1 ≤ least_of r xs). let m : x.1 ≡ min x.1 (least_of r xs) = omega arith in
    subst G m (inl (subst (λ (y : ℕ). Contains (x ∷ xs) (y, x.1)) e (contains_first x xs))))
    (λ (gt : x.1 ≤ least_of r xs → ⊥). let m : least_of r xs ≡ min x.1 (least_of r xs) = omega arith in
    subst G m (later x r (least_of r xs) xs (least_of-one_of r xs)))))
    (λ (ne : x.0 ≢ r). let F : Bool → Type 0 = λ b. Contains (x ∷ xs) (r, cond b (min x.1 (least_of r xs)) (least_of r xs)) ⊎ (cond b (min x.1 (least_of r xs)) (least_of r xs) ≡ NO_OFFER) in
    subst F (sym (ne_eqb x.0 r ne)) (later x r (least_of r xs) xs (least_of-one_of r xs)))
  where
    later : (x : ℕ × ℕ) (r n : ℕ) (xs : List (ℕ × ℕ)) → Contains xs (r, n) ⊎ (n ≡ NO_OFFER) → Contains (x ∷ xs) (r, n) ⊎ (n ≡ NO_OFFER)
    later x r n xs h = ⊎_elim (λ (t : Contains xs (r, n)). inl (contains_later x (r, n) xs t)) (λ (e : n ≡ NO_OFFER). inr e) h

pub are_keys-contains : (r k : ℕ) (xs : List (ℕ × ℕ)) → are_keys xs ≡ true → Contains xs (r, k) → k < NO_OFFER
are_keys-contains r k [] keys h = absurd (contains_none (r, k) h)
are_keys-contains r k (x ∷ xs) keys h =
    let first : x.1 < NO_OFFER = ltb-true x.1 NO_OFFER (and_first (nat_lt x.1 NO_OFFER) (are_keys xs) keys) in
    let rest : are_keys xs ≡ true = and_rest (nat_lt x.1 NO_OFFER) (are_keys xs) keys in
    ⊎_elim (λ (e : x ≡ (r, k)). let same : x.1 ≡ k = ap (λ (y : ℕ × ℕ). y.1) e in omega arith) (λ (t : Contains xs (r, k)). are_keys-contains r k xs rest t) (contains_cases x (r, k) xs h)
  where
    and_first : (a b : Bool) → (a && b) ≡ true → a ≡ true
    and_first true b h = refl
    and_first false b h = absurd (cc)

    and_rest : (a b : Bool) → (a && b) ≡ true → b ≡ true
    and_rest true b h = h
    and_rest false b h = absurd (cc)

pub are_keys-each : (xs : List (ℕ × ℕ)) → ((r k : ℕ) → Contains xs (r, k) → k < NO_OFFER) → are_keys xs ≡ true
are_keys-each [] each = refl
are_keys-each (x ∷ xs) each = let s : are_keys xs ≡ true = are_keys-each xs (λ r k t. each r k (contains_later x (r, k) xs t)) in
    let first : x.1 < NO_OFFER = each x.0 x.1 (contains_first x xs) in grind (arith, nat_tests)

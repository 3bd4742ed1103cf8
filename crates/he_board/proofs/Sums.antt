-- Sums and minima over the views of all passes, as one view changes, one comes or one goes.
use Rattle.std.proofs.Common.{◌≡◌, ◌≢◌, ℕ, zero, suc, ◌+◌, ◌≤◌, min, List, [], ◌∷◌, ◌++◌, set, refl, sym, ap, arith}
use mathlib.Core.Option.{some, some-injective, some-ne-none}
use lib.ListN.{get_elem?}
use Rattle.he_board.specs.declared.limits.TheConstants.{NO_OFFER}
use Rattle.he_board.specs.declared.view.View.{View}
use Rattle.he_board.specs.Balance.{total, least}

module _ (f : View → ℕ) where
  -- the view v becomes w
  pub total-set : (vs : List View) (i : ℕ) (v w : View) → get_elem? vs i ≡ some v → total f (set vs i w) + f v ≡ total f vs + f w
  total-set [] i v w at = absurd (some-ne-none v (sym at))
  total-set (x ∷ xs) zero v w at = let e : f x ≡ f v = ap f (some-injective x v at) in omega arith
  total-set (x ∷ xs) (suc i) v w at = let e : total f (set xs i w) + f v ≡ total f xs + f w = total-set xs i v w at in omega arith

  pub total-same : (vs : List View) (i : ℕ) (v w : View) → get_elem? vs i ≡ some v → f w ≡ f v → total f (set vs i w) ≡ total f vs
  total-same vs i v w at e = let t : total f (set vs i w) + f v ≡ total f vs + f w = total-set vs i v w at in omega arith

  pub total-snoc : (vs : List View) (w : View) → total f (vs ++ w ∷ []) ≡ total f vs + f w
  total-snoc [] w = omega arith
  total-snoc (x ∷ xs) w = let e : total f (xs ++ w ∷ []) ≡ total f xs + f w = total-snoc xs w in omega arith

  pub total-at : (vs : List View) (i : ℕ) (v : View) → get_elem? vs i ≡ some v → f v ≤ total f vs
  total-at [] i v at = absurd (some-ne-none v (sym at))
  total-at (x ∷ xs) zero v at = let e : f x ≡ f v = ap f (some-injective x v at) in omega arith
  total-at (x ∷ xs) (suc i) v at = let e : f v ≤ total f xs = total-at xs i v at in omega arith

  pub least-le_top : (vs : List View) → least f vs ≤ NO_OFFER
  least-le_top [] = omega arith
  least-le_top (x ∷ xs) = let i : least f xs ≤ NO_OFFER = least-le_top xs in omega arith

  -- one value falls to k, where it is not below
  pub least-set : (vs : List View) (i : ℕ) (v w : View) (k : ℕ) → get_elem? vs i ≡ some v → f w ≡ min (f v) k → least f (set vs i w) ≡ min (least f vs) k
  least-set [] i v w k at e = absurd (some-ne-none v (sym at))
  least-set (x ∷ xs) zero v w k at e = let s : f x ≡ f v = ap f (some-injective x v at) in omega arith
  least-set (x ∷ xs) (suc i) v w k at e = let s : least f (set xs i w) ≡ min (least f xs) k = least-set xs i v w k at e in omega arith

  pub least-same : (vs : List View) (i : ℕ) (v w : View) → get_elem? vs i ≡ some v → f w ≡ f v → least f (set vs i w) ≡ least f vs
  least-same [] i v w at e = refl
  least-same (x ∷ xs) zero v w at e = let s : f x ≡ f v = ap f (some-injective x v at) in omega arith
  least-same (x ∷ xs) (suc i) v w at e = let s : least f (set xs i w) ≡ least f xs = least-same xs i v w at e in omega arith

  pub least-snoc : (vs : List View) (w : View) → least f (vs ++ w ∷ []) ≡ min (least f vs) (f w)
  least-snoc [] w = omega arith
  least-snoc (x ∷ xs) w = let s : least f (xs ++ w ∷ []) ≡ min (least f xs) (f w) = least-snoc xs w in omega arith

  pub least-at : (vs : List View) (i : ℕ) (v : View) → get_elem? vs i ≡ some v → least f vs ≤ f v
  least-at [] i v at = absurd (some-ne-none v (sym at))
  least-at (x ∷ xs) zero v at = let s : f x ≡ f v = ap f (some-injective x v at) in omega arith
  least-at (x ∷ xs) (suc i) v at = let s : least f xs ≤ f v = least-at xs i v at in omega arith

  -- one value goes away
  pub least-raised : (vs : List View) (i : ℕ) (w : View) → NO_OFFER ≤ f w → least f vs ≤ least f (set vs i w)
  least-raised [] i w top = omega arith
  least-raised (x ∷ xs) zero w top = let s : least f xs ≤ NO_OFFER = least-le_top xs in omega arith
  least-raised (x ∷ xs) (suc i) w top = let s : least f xs ≤ least f (set xs i w) = least-raised xs i w top in omega arith

  -- it goes away, and another value that stays is not above it
  pub least-drop : (vs : List View) (i j : ℕ) (u v w : View) → get_elem? vs i ≡ some u → get_elem? vs j ≡ some v → j ≢ i → f u ≤ f v → NO_OFFER ≤ f w → least f (set vs j w) ≡ least f vs
  least-drop [] i j u v w at at' ne le top = absurd (some-ne-none u (sym at))
  least-drop (x ∷ xs) zero zero u v w at at' ne le top = absurd (ne refl)
  least-drop (x ∷ xs) zero (suc j) u v w at at' ne le top = let s : f x ≡ f u = ap f (some-injective x u at) in
      let a : least f xs ≤ f v = least-at xs j v at' in let b : least f xs ≤ least f (set xs j w) = least-raised xs j w top in
      let c : min (least f (set xs j w)) (f v) ≡ least f xs = least-back xs j v w at' top in omega arith
    where
      least-back : (xs : List View) (j : ℕ) (v w : View) → get_elem? xs j ≡ some v → NO_OFFER ≤ f w → min (least f (set xs j w)) (f v) ≡ least f xs
      least-back [] j v w at top = absurd (some-ne-none v (sym at))
      least-back (x ∷ xs) zero v w at top = let s : f x ≡ f v = ap f (some-injective x v at) in let t : least f xs ≤ NO_OFFER = least-le_top xs in omega arith
      least-back (x ∷ xs) (suc j) v w at top = let s : min (least f (set xs j w)) (f v) ≡ least f xs = least-back xs j v w at top in omega arith
  least-drop (x ∷ xs) (suc i) zero u v w at at' ne le top = let s : f x ≡ f v = ap f (some-injective x v at') in
      let a : least f xs ≤ f u = least-at xs i u at in let b : least f xs ≤ NO_OFFER = least-le_top xs in omega arith
  least-drop (x ∷ xs) (suc i) (suc j) u v w at at' ne le top = let s : least f (set xs j w) ≡ least f xs = least-drop xs i j u v w at at' (λ e. ne (ap suc e)) le top in omega arith

  -- one view stands alone
  pub total-none : (vs : List View) → ((i : ℕ) (u : View) → get_elem? vs i ≡ some u → f u ≡ 0) → total f vs ≡ 0
  total-none [] none = refl
  total-none (x ∷ xs) none = let a : f x ≡ 0 = none zero x refl in let s : total f xs ≡ 0 = total-none xs (λ i u at. none (suc i) u at) in omega arith

  pub total-alone : (vs : List View) (i : ℕ) (v : View) → get_elem? vs i ≡ some v → ((j : ℕ) (u : View) → j ≢ i → get_elem? vs j ≡ some u → f u ≡ 0) → total f vs ≡ f v
  total-alone [] i v at others = absurd (some-ne-none v (sym at))
  total-alone (x ∷ xs) zero v at others = let s : f x ≡ f v = ap f (some-injective x v at) in
      let t : total f xs ≡ 0 = total-none xs (λ j u at'. others (suc j) u (λ e. absurd (omega arith)) at') in omega arith
  total-alone (x ∷ xs) (suc i) v at others = let a : f x ≡ 0 = others zero x (λ e. absurd (omega arith)) refl in
      let s : total f xs ≡ f v = total-alone xs i v at (λ j u ne at'. others (suc j) u (λ e. ne (omega arith)) at') in omega arith

  pub least-ge : (vs : List View) (m : ℕ) → m ≤ NO_OFFER → ((i : ℕ) (u : View) → get_elem? vs i ≡ some u → m ≤ f u) → m ≤ least f vs
  least-ge [] m top each = top
  least-ge (x ∷ xs) m top each = let a : m ≤ f x = each zero x refl in let s : m ≤ least f xs = least-ge xs m top (λ i u at. each (suc i) u at) in omega arith

  pub least-alone : (vs : List View) (i : ℕ) (v : View) → get_elem? vs i ≡ some v → f v ≤ NO_OFFER → ((j : ℕ) (u : View) → j ≢ i → get_elem? vs j ≡ some u → NO_OFFER ≤ f u) → least f vs ≡ f v
  least-alone [] i v at top others = absurd (some-ne-none v (sym at))
  least-alone (x ∷ xs) zero v at top others = let s : f x ≡ f v = ap f (some-injective x v at) in
      let m : NO_OFFER ≤ least f xs = least-ge xs NO_OFFER (omega arith) (λ j u at'. others (suc j) u (λ e. absurd (omega arith)) at') in omega arith
  least-alone (x ∷ xs) (suc i) v at top others = let a : NO_OFFER ≤ f x = others zero x (λ e. absurd (omega arith)) refl in
      let s : least f xs ≡ f v = least-alone xs i v at top (λ j u ne at'. others (suc j) u (λ e. ne (omega arith)) at') in omega arith

-- Runs of zero groups.
use Rattle.std.proofs.Common.{◌≡◌, ◌⊎◌, inl, inr, ⊎_elim, ℕ, zero, suc, ◌+◌, ◌<◌, ◌≤◌, Bool, true, false, cond, eqb, leb, List, [], ◌∷◌, length, take, replicate, refl, ◌∙◌, ap, arith}
use Rattle.std.proofs.Math.Numerals.{add-one}
use Rattle.std.proofs.lemmas.Bool.{eqb-true, eq-eqb, leb-true, leb-false, cond-true, cases_lt}
use Rattle.he_addr.specs.declared.printing.ZeroGroups.{ZeroGroups}
use Rattle.he_addr.specs.Printed.{IsZeroRun}
use Rattle.he_addr.specs.Printing.{zeros, longest}

grown : (b : Bool) (m n : ℕ) → m ≤ n → cond b (m + 1) 0 ≤ suc n
grown true m n h = omega arith
grown false m n h = omega arith

pub zeros-le : (groups : List ℕ) → zeros groups ≤ length groups
zeros-le [] = omega arith
zeros-le (g ∷ gs) = grown (eqb g 0) (zeros gs) (length gs) (zeros-le gs)

abbrev chosen : Bool → ℕ → ZeroGroups → ZeroGroups
chosen b here behind = cond b (record { start = 0; len = here }) (record { start = behind.start + 1; len = behind.len })

-- the zeros that stand first
zeros_step : (b : Bool) (g : ℕ) (gs : List ℕ) → eqb g 0 ≡ b → take (zeros gs) gs ≡ replicate (zeros gs) 0 → take (cond b (zeros gs + 1) 0) (g ∷ gs) ≡ replicate (cond b (zeros gs + 1) 0) 0
zeros_step true g gs e rest = rw add-one (ap (λ x. x ∷ take (zeros gs) gs) (eqb-true g 0 e) ∙ ap (λ xs. 0 ∷ xs) rest)
zeros_step false g gs e rest = refl

pub zeros_run : (groups : List ℕ) → take (zeros groups) groups ≡ replicate (zeros groups) 0
zeros_run [] = refl
zeros_run (g ∷ gs) = zeros_step (eqb g 0) g gs refl (zeros_run gs)

pub zeros_most : (n : ℕ) (groups : List ℕ) → take n groups ≡ replicate n 0 → n ≤ zeros groups
zeros_most zero groups h = omega arith
zeros_most (suc n) [] h = cc
zeros_most (suc n) (g ∷ gs) h =
    let head : g ≡ 0 = cc in
    let tail : take n gs ≡ replicate n 0 = cc in
    let counted : zeros (g ∷ gs) ≡ zeros gs + 1 = cond-true (eqb g 0) (zeros gs + 1) 0 (eq-eqb g 0 head) in
    omega (arith, counted, zeros_most n gs tail)

-- a run of zeros than which none is longer, and none as long stands before it
pub record IsFirstLongest (groups : List ℕ) (run : ZeroGroups) : Type 0 where
  pub run_of : IsZeroRun groups run.start run.len
  pub first : (other n : ℕ) → IsZeroRun groups other n → (n < run.len) ⊎ ((n ≡ run.len) × (run.start ≤ other))

chosen_first : (b : Bool) (g : ℕ) (gs : List ℕ) → leb (longest gs).len (zeros (g ∷ gs)) ≡ b → IsFirstLongest gs (longest gs) → IsFirstLongest (g ∷ gs) (chosen b (zeros (g ∷ gs)) (longest gs))
chosen_first true g gs test behind = record { run_of = zeros_run (g ∷ gs); first = first }
  where
    below : (n : ℕ) (other : ℕ) → n ≤ zeros (g ∷ gs) → (n < zeros (g ∷ gs)) ⊎ ((n ≡ zeros (g ∷ gs)) × (0 ≤ other))
    below n other most = ⊎_elim (λ l. inl l) (λ e. inr (omega (arith, e), omega arith)) (cases_lt n (zeros (g ∷ gs)))

    first : (other n : ℕ) → IsZeroRun (g ∷ gs) other n → (n < zeros (g ∷ gs)) ⊎ ((n ≡ zeros (g ∷ gs)) × (0 ≤ other))
    first zero n run = below n 0 (zeros_most n (g ∷ gs) run)
    first (suc other) n run =
        let longer = leb-true (longest gs).len (zeros (g ∷ gs)) test in
        below n (suc other) (⊎_elim (λ l. omega (arith, l, longer)) (λ e. omega (arith, e.0, longer)) (behind.first other n run))
chosen_first false g gs test behind = record { run_of = rw add-one behind.run_of; first = first }
  where
    first : (other n : ℕ) → IsZeroRun (g ∷ gs) other n → (n < (longest gs).len) ⊎ ((n ≡ (longest gs).len) × ((longest gs).start + 1 ≤ other))
    first zero n run = inl (omega (arith, zeros_most n (g ∷ gs) run, leb-false (longest gs).len (zeros (g ∷ gs)) test))
    first (suc other) n run = ⊎_elim (λ l. inl l) (λ e. inr (e.0, omega (arith, e.1))) (behind.first other n run)

pub longest_first : (groups : List ℕ) → IsFirstLongest groups (longest groups)
longest_first [] = record { run_of = refl; first = first }
  where
    first : (other n : ℕ) → IsZeroRun [] other n → (n < 0) ⊎ ((n ≡ 0) × (0 ≤ other))
    first zero zero run = inr (refl, omega arith)
    first zero (suc n) run = cc
    first (suc other) zero run = inr (refl, omega arith)
    first (suc other) (suc n) run = cc
longest_first (g ∷ gs) = chosen_first (leb (longest gs).len (zeros (g ∷ gs))) g gs refl (longest_first gs)

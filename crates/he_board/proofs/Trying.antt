-- Which jobs are known to be taken.
use Rattle.std.proofs.Common.{◌≡◌, ℕ, ◌+◌, ◌<◌, List, [], ◌∷◌, ◌++◌, ap, subst, ◌∙◌, arith, inl, inr}
use Rattle.std.proofs.lemmas.Bool.{cases_lt}
use Rattle.he_board.specs.Notes.{times}
use Rattle.he_board.specs.Workers.{IsTried}
use Rattle.he_board.proofs.Lists.{times-append, times-one_same}

-- one more job is known to be taken, the next one
pub tried-next : (low high next : ℕ) (old new : List ℕ) → IsTried low high old → new ≡ old ++ high ∷ [] → next ≡ high + 1 → IsTried low next new
tried-next low high next old new tried e end job from to =
    let all : times job new ≡ times job old + times job (high ∷ []) = ap (times job) e ∙ times-append job old (high ∷ []) in
    elim (cases_lt job high) [
      | inl before ↦ let a : 0 < times job old = tried job from before in omega arith
      | inr after ↦
          let last : job ≡ high = omega arith in
          let one : times job (high ∷ []) ≡ 1 = subst (λ (n : ℕ). times job (n ∷ []) ≡ 1) last (times-one_same job) in
          omega arith
    ]

-- The least of some numbers, part by part.
use Rattle.std.proofs.Common.{◌≡◌, ◌⊎◌, ◌<◌, ◌≤◌, ℕ, true, false, ltb, Option, Some, None, min, refl, ap, subst, arith, inl, inr}
use Rattle.std.proofs.lemmas.Bool.{ltb-false, ltb-true}
use Rattle.he_dns.specs.Reading.{lesser}
use Rattle.he_dns.specs.Ttls.{IsLeast}

pub lesser_last : (a : Option ℕ) → lesser a None ≡ a
lesser_last None = refl
lesser_last (Some ttl) = refl

min_assoc : (a b c : ℕ) → min (min a b) c ≡ min a (min b c)
min_assoc a b c = omega arith

pub lesser_assoc : (a b c : Option ℕ) → lesser (lesser a b) c ≡ lesser a (lesser b c)
lesser_assoc None b c = refl
lesser_assoc (Some a) None c = refl
lesser_assoc (Some a) (Some b) None = refl
lesser_assoc (Some a) (Some b) (Some c) = ap Some (min_assoc a b c)

either_le : (m k : ℕ) → (m ≤ k) ⊎ (k ≤ m)
either_le m k = (elim (ltb m k) as (λ b. ltb m k ≡ b → (m ≤ k) ⊎ (k ≤ m)) [
  | true ↦ λ is. (let below : m < k = ltb-true m k is in inl (omega arith))
  | false ↦ λ is. inr (ltb-false m k is)
]) refl

module _ (P Q : ℕ → Type 0) where
  pub least_same : (a : Option ℕ) → ((n : ℕ) → P n → Q n) → ((n : ℕ) → Q n → P n) → IsLeast P a → IsLeast Q a
  least_same None to from least = λ n q. least n (from n q)
  least_same (Some m) to from least = (to m least.0, λ n q. least.1 n (from n q))

  least_min : (m k : ℕ) → (m ≤ k) ⊎ (k ≤ m) → IsLeast P (Some m) → IsLeast Q (Some k) → IsLeast (λ n. P n ⊎ Q n) (Some (min m k))
  least_min m k (inl le) first second =
      subst (λ (x : ℕ). IsLeast (λ n. P n ⊎ Q n) (Some x)) (omega arith)
      (inl first.0, λ n e. elim e [ inl p ↦ first.1 n p | inr q ↦ (let low = second.1 n q in omega arith) ])
  least_min m k (inr le) first second =
      subst (λ (x : ℕ). IsLeast (λ n. P n ⊎ Q n) (Some x)) (omega arith)
      (inr second.0, λ n e. elim e [ inl p ↦ (let low = first.1 n p in omega arith) | inr q ↦ second.1 n q ])

  -- the least of the numbers of two kinds
  pub least_of_both : (a b : Option ℕ) → IsLeast P a → IsLeast Q b → IsLeast (λ n. P n ⊎ Q n) (lesser a b)
  least_of_both None None first second = λ n e. elim e [ inl p ↦ first n p | inr q ↦ second n q ]
  least_of_both None (Some k) first second = (inr second.0, λ n e. elim e [ inl p ↦ absurd (first n p) | inr q ↦ second.1 n q ])
  least_of_both (Some m) None first second = (inl first.0, λ n e. elim e [ inl p ↦ first.1 n p | inr q ↦ absurd (second n q) ])
  least_of_both (Some m) (Some k) first second = least_min m k (either_le m k) first second

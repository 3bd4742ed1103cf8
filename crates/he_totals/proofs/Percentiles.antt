-- A time within which so many of 100 of the times, which are in order, lie.
use Rattle.std.proofs.Common.{IsPermutation, Option, Some, None, subst, sym, ℕ, ◌≡◌, ◌+◌, ◌-◌, ◌*◌, ◌<◌, ◌≤◌, Bool, true, false, List, [], ◌∷◌, length, take, drop, get_or, suc, cond, refl, ◌∙◌, ap, arith, inl, inr}
use Rattle.std.specs.Int.{div_ceil}
use Rattle.std.specs.List.{count_by}
use Rattle.std.specs.List.Sorted.{IsNonDecreasing}
use Rattle.std.specs.Prelude.{nat_le}
use Rattle.std.proofs.Math.Nat.{mul-le-mul_left}
use Rattle.std.proofs.lemmas.Bool.{le-leb}
use Rattle.std.proofs.lemmas.Bool.Decides.{leb_tells}
use Rattle.std.proofs.lemmas.List.{get_or-drop, get_or-take, length-take-le, length-drop}
use Rattle.std.proofs.lemmas.List.Sorted.{length_permutation, sum_by-IsPermutation}
use Rattle.std.proofs.lemmas.List.Sums.{count_by-le-length, sum_by-cons, sum_by-take-drop, sum_by-take-le}
use Rattle.he_totals.specs.Times.{IsPercentile, IsSpread}
use Rattle.he_totals.specs.Tries.{saturated}
use Rattle.he_totals.specs.declared.times.Spread.{Spread}

all_pass : (p : ℕ → Bool) (xs : List ℕ) → ((k : ℕ) → k < length xs → p (get_or xs k 0) ≡ true) → count_by p xs ≡ length xs
all_pass p [] each = refl
all_pass p (x ∷ xs) each =
    let first : p x ≡ true = each 0 (omega arith) in
    let rest : count_by p xs ≡ length xs = all_pass p xs (λ k lt. each (suc k) (omega arith)) in
    let more : 1 + length xs ≡ suc (length xs) = omega arith in
    sum_by-cons (λ (y : ℕ). cond (p y) 1 0) x xs ∙ (λ i. cond (first i) 1 0 + rest i) ∙ more

none_passes : (p : ℕ → Bool) (xs : List ℕ) → ((k : ℕ) → k < length xs → p (get_or xs k 0) ≡ false) → count_by p xs ≡ 0
none_passes p [] each = refl
none_passes p (x ∷ xs) each =
    let first : p x ≡ false = each 0 (omega arith) in
    let rest : count_by p xs ≡ 0 = none_passes p xs (λ k lt. each (suc k) (omega arith)) in
    sum_by-cons (λ (y : ℕ). cond (p y) 1 0) x xs ∙ (λ i. cond (first i) 1 0 + rest i)

-- as many lie within one of them as stand up to it
within : (xs : List ℕ) → IsNonDecreasing xs → (i : ℕ) → i < length xs → i + 1 ≤ count_by (λ x. nat_le x (get_or xs i 0)) xs
within xs up i lt =
    let p : ℕ → Bool = λ x. nat_le x (get_or xs i 0) in
    let long : length (take (i + 1) xs) ≡ i + 1 = length-take-le (i + 1) xs (omega arith) in
    let each : (k : ℕ) → k < length (take (i + 1) xs) → p (get_or (take (i + 1) xs) k 0) ≡ true =
    λ k below. ap p (get_or-take (i + 1) xs k 0 (omega arith)) ∙ le-leb _ _ (up k i 0 (omega arith) lt) in
    let all : count_by p (take (i + 1) xs) ≡ length (take (i + 1) xs) = all_pass p (take (i + 1) xs) each in
    let part : count_by p (take (i + 1) xs) ≤ count_by p xs = sum_by-take-le _ xs (i + 1) in
    omega arith

-- and at most those before it lie within a time below it
below : (xs : List ℕ) → IsNonDecreasing xs → (i t : ℕ) → i < length xs → t < get_or xs i 0 → count_by (λ x. nat_le x t) xs ≤ i
below xs up i t lt less =
    let p : ℕ → Bool = λ x. nat_le x t in
    let each : (k : ℕ) → k < length (drop i xs) → p (get_or (drop i xs) k 0) ≡ false =
    λ k far. ap p (get_or-drop i xs k 0) ∙ above _ _ (let more : get_or xs i 0 ≤ get_or xs (i + k) 0 = up i (i + k) 0 (omega arith) (omega (arith, length-drop i xs)) in omega arith) in
    let none : count_by p (drop i xs) ≡ 0 = none_passes p (drop i xs) each in
    let few : count_by p (take i xs) ≤ length (take i xs) = count_by-le-length p (take i xs) in
    let long : length (take i xs) ≡ i = length-take-le i xs (omega arith) in
    let split : count_by p (take i xs) + count_by p (drop i xs) ≡ count_by p xs = sum_by-take-drop _ xs i in
    omega arith
  where
    above : (x n : ℕ) → n < x → nat_le x n ≡ false
    above x n h = elim (leb_tells x n) [ inl (is, le) ↦ absurd (omega arith) | inr (is, gt) ↦ is ]

-- the one at the nearest rank
pub nearest_rank : (xs : List ℕ) (percent rank : ℕ) → IsNonDecreasing xs → 0 < rank → rank ≤ length xs → length xs * percent ≤ 100 * rank → 100 * rank < length xs * percent + 100
    → IsPercentile xs percent (get_or xs (rank - 1) 0)
nearest_rank xs percent rank up some last enough few = record {
  holds = let many = within xs up (rank - 1) (omega arith) in omega arith;
  least = λ t lies. elim (leb_tells (get_or xs (rank - 1) 0) t) [
    | inl (is, le) ↦ le
    | inr (is, less) ↦ absurd (let most = below xs up (rank - 1) t (omega arith) less in omega arith)
  ];
}

-- and the nearest rank is one
pub rank_fits : (n percent rank : ℕ) → 0 < n → 0 < percent → percent ≤ 100 → rank ≡ div_ceil (n * percent) 100
    → (0 < rank) × (rank ≤ n) × (n * percent ≤ 100 * rank) × (100 * rank < n * percent + 100)
rank_fits n percent rank some least most is =
    let more : n * 1 ≤ n * percent = mul-le-mul_left n least in
    let less : n * percent ≤ n * 100 = mul-le-mul_left n most in (
      omega arith,
      omega arith,
      omega arith,
      omega arith,
    )

-- times in another order have the same percentiles
moved : (xs ys : List ℕ) (percent t : ℕ) → IsPermutation xs ys → IsPercentile ys percent t → IsPercentile xs percent t
moved xs ys percent t permutation is = record {
  holds = let many = counted t in let long = length_permutation xs ys permutation in let h = is.holds in subst (λ (n : ℕ). n * percent ≤ 100 * count_by (λ x. nat_le x t) xs) long (subst (λ (n : ℕ). length ys * percent ≤ 100 * n) many h);
  least = λ m lies. is.least m (subst (λ (n : ℕ). length ys * percent ≤ 100 * n) (sym (counted m)) (subst (λ (n : ℕ). n * percent ≤ 100 * count_by (λ x. nat_le x m) xs) (sym (length_permutation xs ys permutation)) lies));
}
  where
    counted : (n : ℕ) → count_by (λ x. nat_le x n) ys ≡ count_by (λ x. nat_le x n) xs
    counted n = sum_by-IsPermutation (λ (x : ℕ). cond (nat_le x n) 1 0) xs ys permutation

pub spread_moved : (xs ys : List ℕ) (spread : Option Spread) → IsPermutation xs ys → IsSpread ys spread → IsSpread xs spread
spread_moved xs ys None permutation none = none_left xs (sym (length_permutation xs ys permutation) ∙ ap length none)
  where
    none_left : (xs : List ℕ) → length xs ≡ 0 → xs ≡ []
    none_left [] e = refl
    none_left (x ∷ xs) e = absurd (omega arith)
spread_moved xs ys (Some spread) permutation are = record {
  count = are.count ∙ length_permutation xs ys permutation;
  total = are.total ∙ ap saturated (sum_by-IsPermutation (λ (n : ℕ). n) xs ys permutation);
  median = moved xs ys 50 _ permutation are.median;
  p90 = moved xs ys 90 _ permutation are.p90;
  p99 = moved xs ys 99 _ permutation are.p99;
  greatest = moved xs ys 100 _ permutation are.greatest;
}

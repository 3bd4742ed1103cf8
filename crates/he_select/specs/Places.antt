-- Least places in a list: the first repeated member, the first pair of members.
use Rattle.std.specs.Prelude.{ℕ, ◌<◌, ◌≤◌, ◌≡◌, ◌⊎◌, Bool, false, List, length, take, slice_get, IsTrue, IsFalse}
use Rattle.std.specs.List.{list_any, slice_index_or}
use Rattle.std.specs.Option.{option_map_or}

-- the member at this place passes the test; false if there is none
abbrev pub passes_at : {X : Type 0} → (X → Bool) → List X → ℕ → Bool
passes_at test xs n = option_map_or test (slice_get xs n) false

-- the pair of members at these two places passes the test
abbrev pub both_at : {X : Type 0} → (X → X → Bool) → List X → ℕ → ℕ → Bool
both_at test xs m n = passes_at (λ x. passes_at (test x) xs n) xs m

-- the member at this place is the same as one before it
abbrev pub repeats_at : {X : Type 0} → (X → X → Bool) → List X → ℕ → Bool
repeats_at same xs n = passes_at (λ x. list_any (same x) (take n xs)) xs n

-- the member at this place is the first for which P doesn't hold
pub record FailsFirst {X : Type 0} (P : X → Type 0) (xs : List X) (i : ℕ) : Type 0 where
  pub inside : i < length xs
  pub fails : (d : X) → P (slice_index_or xs i d) → ⊥
  pub earlier : (m : ℕ) (d : X) → m < i → P (slice_index_or xs m d)

-- n is the least number for which the test holds
pub record IsLeast (test : ℕ → Bool) (n : ℕ) : Type 0 where
  pub holds : IsTrue (test n)
  pub least : (m : ℕ) → m < n → IsFalse (test m)

-- the test holds for the members at the places i and j, j after i; of all such pairs this one has the least i, and of
-- those with this i the least j
pub record IsFirstPair {X : Type 0} (test : X → X → Bool) (xs : List X) (i j : ℕ) : Type 0 where
  pub later : i < j
  pub holds : IsTrue (both_at test xs i j)
  pub least : (m n : ℕ) → m < n → IsTrue (both_at test xs m n) → (i < m) ⊎ ((i ≡ m) × (j ≤ n))

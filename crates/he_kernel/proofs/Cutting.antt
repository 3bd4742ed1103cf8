-- A text cut at its first mark, and at every one.
use Rattle.std.proofs.Common.{◌≡◌, ℕ, ◌+◌, ◌<◌, ◌≤◌, Bool, true, false, cond, ltb, List, [], ◌∷◌, Some, None, length, take, drop, refl, subst, arith}
use Rattle.std.specs.List.{position, position_or_len, slice_split}
use Rattle.std.proofs.lemmas.Bool.{ltb-true, ltb-false}
use Rattle.std.proofs.lemmas.List.Sums.{fails_before_first, count_by-le-length}
use Rattle.std.proofs.lemmas.List.Splits.{slice_split_none, slice_split_first, length-slice_split}

found : (b : Bool) (m n : ℕ) → cond b (Some m) None ≡ Some n → (b ≡ true) × (m ≡ n)
found true m n h = (refl, cc)
found false m n h = cc

missed : (b : Bool) (m : ℕ) → cond b (Some m) None ≡ None → b ≡ false
missed true m h = cc
missed false m h = refl

pub parts_found : (p : ℕ → Bool) (text : List ℕ) (at : ℕ) → position p text ≡ Some at → slice_split p text ≡ take at text ∷ slice_split p (drop (at + 1) text)
parts_found p text at h =
    let first : ℕ = position_or_len p text in
    let is = found (ltb first (length text)) first at h in
    let P : ℕ → Type 0 = λ n. slice_split p text ≡ take n text ∷ slice_split p (drop (n + 1) text) in
    subst P is.1 (slice_split_first p text 0 (ltb-true first (length text) is.0))

pub parts_whole : (p : ℕ → Bool) (text : List ℕ) → position p text ≡ None → slice_split p text ≡ text ∷ []
parts_whole p text h =
    let first : ℕ = position_or_len p text in
    let past = ltb-false first (length text) (missed (ltb first (length text)) first h) in
    slice_split_none p text (λ k d below. fails_before_first p text k d (omega arith))

pub place_within : (p : ℕ → Bool) (text : List ℕ) (at : ℕ) → position p text ≡ Some at → at < length text
place_within p text at h =
    let first : ℕ = position_or_len p text in
    let is = found (ltb first (length text)) first at h in
    let inside : first < length text = ltb-true first (length text) is.0 in
    omega (arith, is.1)

-- there is at most one part more than there are bytes
pub few_parts : (p : ℕ → Bool) (text : List ℕ) → length (slice_split p text) ≤ length text + 1
few_parts p text = omega (arith, length-slice_split p text, count_by-le-length p text)

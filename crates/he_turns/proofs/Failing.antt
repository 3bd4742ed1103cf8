-- By which tick each attempt has failed: where its failure stands at a free tick, by that one.
use Rattle.std.proofs.Common.{◌≡◌, ℕ, ◌+◌, ◌≤◌, ◌<◌, Bool, true, List, [], ◌∷◌, length, get_or, map, Option, Some, None, zero, suc, refl, arith}
use Rattle.std.specs.List.{All, Contains, list_all}
use Rattle.std.proofs.lemmas.List.Elements.{All-contains, All-head, All-tail}
use Rattle.he_plan.specs.declared.attempts.Attempt.{Attempt}
use Rattle.he_timeline.specs.declared.outcome.Outcome.{Outcome}
use Rattle.he_timeline.specs.declared.outcome.Outcome.TheVariants as outcomes
use Rattle.he_timeline.specs.Seen.{IsFree, IsSeen, seen}
use Rattle.he_plan.specs.Attempts.{has_failed, has_failed_by}
use Rattle.he_timeline.specs.Race.{outcome_of, Race}
use Rattle.he_timeline.specs.Timeline.{IsRace}
use Rattle.he_timeline.proofs.Bools.{and_both, and_left, and_right, le_from, le_test}
use Rattle.he_timeline.proofs.Seen.{IsSeen-seen}

-- what passes for all passes for one
pub at-one : (p : Attempt → Bool) (xs : List Attempt) (x : Attempt) → list_all p xs ≡ true → Contains xs x → p x ≡ true
at-one p xs x h made = All-contains (λ (y : Attempt). p y ≡ true) xs x (each xs h) made
  where
    each : (ys : List Attempt) → list_all p ys ≡ true → (k : ℕ) (d : Attempt) → k < length ys → p (get_or ys k d) ≡ true
    each [] h k d lt = absurd (let none : ⊥ = omega arith in none)
    each (y ∷ ys) h zero d lt = and_left (p y) (list_all p ys) h
    each (y ∷ ys) h (suc k) d lt = each ys (and_right (p y) (list_all p ys) h) k d (omega arith)

pub all-weaker : (p q : Attempt → Bool) (xs : List Attempt) → All (λ (x : Attempt). p x ≡ true → q x ≡ true) xs → list_all p xs ≡ true → list_all q xs ≡ true
all-weaker p q [] each h = refl
all-weaker p q (x ∷ xs) each h =
    let P : Attempt → Type 0 = λ y. p y ≡ true → q y ≡ true in
    and_both (q x) (list_all q xs) (All-head P x xs each (and_left (p x) (list_all p xs) h)) (all-weaker p q xs (All-tail P x xs each) (and_right (p x) (list_all p xs) h))

pub all-same : (p q : Attempt → Bool) (xs : List Attempt) → All (λ (x : Attempt). p x ≡ q x) xs → list_all p xs ≡ list_all q xs
all-same p q [] each = refl
all-same p q (x ∷ xs) each =
    let P : Attempt → Type 0 = λ y. p y ≡ q y in
    let head : p x ≡ q x = All-head P x xs each in
    let tail : list_all p xs ≡ list_all q xs = all-same p q xs (All-tail P x xs each) in
    cc

pub map-same : {Y : Type 0} (f g : Attempt → Y) (xs : List Attempt) → All (λ (x : Attempt). f x ≡ g x) xs → map f xs ≡ map g xs
map-same f g [] each = refl
map-same {Y} f g (x ∷ xs) each =
    let P : Attempt → Type 0 = λ y. f y ≡ g y in
    let head : f x ≡ g x = All-head P x xs each in
    let tail : map f xs ≡ map g xs = map-same f g xs (All-tail P x xs each) in
    cc

-- a free tick is seen at once
pub seen-free : (race : Race) → IsRace race → (k : ℕ) → IsFree race k → seen race k ≡ k
seen-free race r k free =
    let s : IsSeen race k (seen race k) = IsSeen-seen race r k in
    let low : k ≤ seen race k = s.holds.0 in
    let high : seen race k ≤ k = s.least k (omega arith, free) in
    omega arith

-- one that has failed by a tick has by each later one
failed_by-later : (race : Race) (start m n : ℕ) → m ≤ n → (o : Option Outcome) → has_failed_by race m start o ≡ true → has_failed_by race n start o ≡ true
failed_by-later race start m n up None h = h
failed_by-later race start m n up (Some (outcomes.Ok d)) h = h
failed_by-later race start m n up (Some (outcomes.Fail d)) h = let by : seen race (start + d) ≤ m = le_from (seen race (start + d)) m h in le_test (seen race (start + d)) n (omega arith)

pub failed-later : (race : Race) (m n : ℕ) → m ≤ n → (xs : List Attempt) → list_all (has_failed race m) xs ≡ true → list_all (has_failed race n) xs ≡ true
failed-later race m n up xs h =
    all-weaker (has_failed race m) (has_failed race n) xs (λ k d lt. failed_by-later race (get_or xs k d).tick m n up (outcome_of race (get_or xs k d).ip)) h

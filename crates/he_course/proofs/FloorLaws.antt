-- The last failure of attempts is seen at the first tick by which they have failed.
use Rattle.std.proofs.Common.{◌≡◌, ℕ, ◌+◌, ◌≤◌, ◌++◌, Bool, true, false, if◌then◌else◌, List, [], ◌∷◌, refl, sym, ap, subst, ◌∙◌, arith, inl, inr, max, nat_le}
use Rattle.std.specs.Prelude.{Option, None, Some}
use Rattle.std.specs.List.{list_all}
use Rattle.std.proofs.lemmas.Bool.{cases_lt}
use Rattle.he_plan.specs.declared.attempts.Attempt.{Attempt}
use Rattle.he_timeline.specs.declared.outcome.Outcome.{Outcome}
use Rattle.he_timeline.specs.declared.outcome.Outcome.TheVariants as outcomes
use Rattle.he_plan.specs.Attempts.{HaveFailed, has_failed, has_failed_by, last_of}
use Rattle.he_timeline.specs.Seen.{IsSeen, seen}
use Rattle.he_timeline.specs.Race.{outcome_of, Race}
use Rattle.he_timeline.specs.Timeline.{IsRace}
use Rattle.he_timeline.proofs.Bools.{and_both, and_left, and_right, le_from, le_test}
use Rattle.he_timeline.proofs.Seen.{IsSeen-seen}
use Rattle.he_course.specs.Causes.{failure_by, failure_of, last_failure, later_of}

-- a later tick is seen no sooner
pub seen_more : (race : Race) → IsRace race → (x y : ℕ) → x ≤ y → seen race x ≤ seen race y
seen_more race r x y h =
    let is-x : IsSeen race x (seen race x) = IsSeen-seen race r x in
    let is-y : IsSeen race y (seen race y) = IsSeen-seen race r y in
    is-x.least (seen race y) (omega (arith, h, is-y.holds.0), is-y.holds.1)

-- the later of two ticks is seen when the later one of them is seen
pub seen_max : (race : Race) → IsRace race → (x y : ℕ) → seen race (max x y) ≡ max (seen race x) (seen race y)
seen_max race r x y = elim (cases_lt x y) [
  | inl less ↦
      let up : max x y ≡ y = omega (arith, less) in
      ap (seen race) up ∙ omega (arith, seen_more race r x y (omega (arith, less)))
  | inr more ↦
      let up : max x y ≡ x = omega (arith, more) in
      ap (seen race) up ∙ omega (arith, seen_more race r y x more)
]

-- an attempt that has failed by a tick by the limit fails, and that is seen by the tick
pub record IsFailure (race : Race) (t : ℕ) (o : Option ℕ) : Type 0 where
  pub tick : ℕ
  pub is : o ≡ Some tick
  pub early : seen race tick ≤ t

fails_by : (race : Race) → IsRace race → (t start : ℕ) (o : Option Outcome) → t ≤ race.settings.limit → has_failed_by race t start o ≡ true
    → IsFailure race t (failure_by race.settings.limit start o)
fails_by race r t start None inside h = cc
fails_by race r t start (Some (outcomes.Ok duration)) inside h = cc
fails_by race r t start (Some (outcomes.Fail duration)) inside h =
    let end : ℕ = start + duration in
    let is : IsSeen race end (seen race end) = IsSeen-seen race r end in
    let early : seen race end ≤ t = le_from (seen race end) t h in
    let within : nat_le end race.settings.limit ≡ true = le_test end race.settings.limit (omega (arith, is.holds.0, early, inside)) in
    record { tick = end; is = rw within refl; early = early }

-- and one that fails has failed by every tick by which that is seen
failed_from : (race : Race) (s start n : ℕ) (o : Option Outcome) → failure_by race.settings.limit start o ≡ Some n → seen race n ≤ s → has_failed_by race s start o ≡ true
failed_from race s start n None e early = cc
failed_from race s start n (Some (outcomes.Ok duration)) e early = cc
failed_from race s start n (Some (outcomes.Fail duration)) e early = by_limit (nat_le (start + duration) race.settings.limit) e
  where
    by_limit : (b : Bool) → (if b then Some (start + duration) else None) ≡ Some n → nat_le (seen race (start + duration)) s ≡ true
    by_limit true e =
        let same : start + duration ≡ n = cc in
        le_test (seen race (start + duration)) s (subst (λ m. seen race m ≤ s) (sym same) early)
    by_limit false e = cc

-- both are there where the later one is
pub record AreBoth (x y : Option ℕ) (n : ℕ) : Type 0 where
  pub first : ℕ
  pub second : ℕ
  pub one : x ≡ Some first
  pub other : y ≡ Some second
  pub later : n ≡ max first second

both_of : (x y : Option ℕ) (n : ℕ) → later_of x y ≡ Some n → AreBoth x y n
both_of None y n e = cc
both_of (Some a) None n e = cc
both_of (Some a) (Some b) n e = record { first = a; second = b; one = refl; other = refl; later = cc }

all_by : (race : Race) → IsRace race → (t : ℕ) (x : Attempt) (done : List Attempt) → t ≤ race.settings.limit → HaveFailed race (x ∷ done) t → IsFailure race t (last_failure race (x ∷ done))
all_by race r t x [] inside h =
    let one : IsFailure race t (failure_of race x) = fails_by race r t x.tick (outcome_of race x.ip) inside (and_left (has_failed race t x) true h) in
    let same : max one.tick 0 ≡ one.tick = omega arith in
    record { tick = one.tick; is = ap (λ o. later_of o (Some 0)) one.is ∙ ap Some same; early = one.early }
all_by race r t x (y ∷ done) inside h =
    let one : IsFailure race t (failure_of race x) = fails_by race r t x.tick (outcome_of race x.ip) inside (and_left (has_failed race t x) (list_all (has_failed race t) (y ∷ done)) h) in
    let rest : IsFailure race t (last_failure race (y ∷ done)) = all_by race r t y done inside (and_right (has_failed race t x) (list_all (has_failed race t) (y ∷ done)) h) in
    record {
      tick = max one.tick rest.tick;
      is = ap (λ o. later_of o (last_failure race (y ∷ done))) one.is ∙ ap (later_of (Some one.tick)) rest.is;
      early = omega (arith, seen_max race r one.tick rest.tick, one.early, rest.early);
    }

-- the last failure is seen by the tick by which all have failed
pub last_by : (race : Race) → IsRace race → (t : ℕ) (done : List Attempt) (last : Attempt) → last_of done ≡ Some last → t ≤ race.settings.limit → HaveFailed race done t
    → IsFailure race t (last_failure race done)
last_by race r t [] last e inside h = cc
last_by race r t (x ∷ done) last e inside h = all_by race r t x done inside h

-- and all have failed by every tick by which it is seen
pub all_from : (race : Race) → IsRace race → (s : ℕ) (done : List Attempt) (n : ℕ) → last_failure race done ≡ Some n → seen race n ≤ s → HaveFailed race done s
all_from race r s [] n e early = refl
all_from race r s (x ∷ done) n e early =
    let both : AreBoth (failure_of race x) (last_failure race done) n = both_of (failure_of race x) (last_failure race done) n e in
    let first : seen race both.first ≤ s = omega (arith, seen_more race r both.first n (omega (arith, both.later)), early) in
    let rest : seen race both.second ≤ s = omega (arith, seen_more race r both.second n (omega (arith, both.later)), early) in
    and_both (has_failed race s x) (list_all (has_failed race s) done)
    (failed_from race s x.tick both.first (outcome_of race x.ip) both.one first) (all_from race r s done both.second both.other rest)

later_grouped : (x y z : Option ℕ) → later_of x (later_of y z) ≡ later_of (later_of x y) z
later_grouped None y z = refl
later_grouped (Some a) None z = refl
later_grouped (Some a) (Some b) None = refl
later_grouped (Some a) (Some b) (Some c) = ap Some (omega arith)

later_last : (x : Option ℕ) → later_of x (Some 0) ≡ later_of (Some 0) x
later_last None = refl
later_last (Some n) = ap Some (omega arith)

pub last_failure_more : (race : Race) (done : List Attempt) (x : Attempt) → last_failure race (done ++ x ∷ []) ≡ later_of (last_failure race done) (failure_of race x)
last_failure_more race [] x = later_last (failure_of race x)
last_failure_more race (y ∷ done) x =
    ap (later_of (failure_of race y)) (last_failure_more race done x) ∙ later_grouped (failure_of race y) (last_failure race done) (failure_of race x)

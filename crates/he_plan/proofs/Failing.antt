-- Whether every attempt so far has failed, and up to which tick the last one is waited for.
use Rattle.std.proofs.Common.{◌≡◌, ℕ, ◌+◌, ◌≤◌, ◌<◌, Bool, true, false, List, [], ◌∷◌, if◌then◌else◌, map, Option, Some, None, IfSome, IsSomeAnd, nat_le, refl, sym, ◌∙◌, arith, inl, inr}
use Rattle.std.specs.List.{list_all}
use Rattle.std.proofs.lemmas.Bool.{cases_lt}
use Rattle.he_plan.specs.declared.attempts.Attempt.{Attempt}
use Rattle.he_plan.specs.declared.finish.Fate.{Fate}
use Rattle.he_plan.specs.declared.finish.Fate.TheVariants.{Succeeded, Failed, Running, Skipped}
use Rattle.he_timeline.specs.declared.limits.TheConstants.{MIN_FLOOR}
use Rattle.he_timeline.specs.declared.outcome.Outcome.{Outcome}
use Rattle.he_timeline.specs.declared.outcome.Outcome.TheVariants as outcomes
use Rattle.he_plan.specs.Attempts.{HasWaited, HaveFailed, has_failed, has_failed_by, finish_of}
use Rattle.he_timeline.specs.Race.{outcome_of, Race}
use Rattle.he_plan.specs.Finish.{fate_by, fate_of}
use Rattle.he_plan.specs.Planning.{all_failed, wait_by, wait_end}
use Rattle.he_timeline.specs.Timeline.{IsRace}
use Rattle.he_plan.specs.Transcript.{failures, greatest, is_failed}
use Rattle.he_timeline.proofs.Bools.{and_left, and_right, le_from, le_test, not_le}

-- the fate is a failure by the tick
abbrev pub fails_by : ℕ → Fate → Bool
fails_by t (Failed finish) = nat_le finish t
fails_by t _ = false

-- below the limit an attempt has failed where its fate is a failure by then
failed_by-fate : (race : Race) (t start : ℕ) → t < race.settings.limit → (o : Option Outcome) → has_failed_by race t start o ≡ fails_by t (fate_by race start o)
failed_by-fate race t start early None = refl
failed_by-fate race t start early (Some (outcomes.Ok duration)) = by_limit (nat_le (finish_of race start duration) race.settings.limit)
  where
    by_limit : (b : Bool) → false ≡ fails_by t (if b then Succeeded (finish_of race start duration) else Running)
    by_limit true = refl
    by_limit false = refl
failed_by-fate race t start early (Some (outcomes.Fail duration)) = elim (cases_lt race.settings.limit (finish_of race start duration)) [
  | inl late ↦ let out : nat_le (finish_of race start duration) race.settings.limit ≡ false = not_le _ _ late in rw out (not_le _ _ (omega arith))
  | inr by ↦ let in_time : nat_le (finish_of race start duration) race.settings.limit ≡ true = le_test _ _ by in rw in_time refl
]

all_failed-fates : (race : Race) (t : ℕ) → t < race.settings.limit → (done : List Attempt) → list_all (has_failed race t) done ≡ list_all (fails_by t) (map (fate_of race) done)
all_failed-fates race t early [] = refl
all_failed-fates race t early (x ∷ done) =
    rw (failed_by-fate race t x.tick early (outcome_of race x.ip), all_failed-fates race t early done)

fails_to : (t : ℕ) (told : List Fate) → list_all (fails_by t) told ≡ true → (list_all is_failed told ≡ true) × (greatest (failures told) ≤ t)
fails_to t [] h = (refl, omega arith)
fails_to t (Failed finish ∷ told) h =
    let rest : (list_all is_failed told ≡ true) × (greatest (failures told) ≤ t) = fails_to t told (and_right _ _ h) in
    (rest.0, omega (arith, le_from finish t (and_left _ _ h), rest.1))
fails_to t (Succeeded finish ∷ told) h = cc
fails_to t (Running ∷ told) h = cc
fails_to t (Skipped ∷ told) h = cc

fails_from : (t : ℕ) (told : List Fate) → list_all is_failed told ≡ true → greatest (failures told) ≤ t → list_all (fails_by t) told ≡ true
fails_from t [] h by = refl
fails_from t (Failed finish ∷ told) h by = rw (le_test finish t (omega arith)) (fails_from t told h (omega arith))
fails_from t (Succeeded finish ∷ told) h by = cc
fails_from t (Running ∷ told) h by = cc
fails_from t (Skipped ∷ told) h by = cc

failed_end : (t : ℕ) (told : List Fate) → list_all (fails_by t) told ≡ true → IsSomeAnd (all_failed told) (λ failed. failed ≤ t)
failed_end t told h =
    let k : (list_all is_failed told ≡ true) × (greatest (failures told) ≤ t) = fails_to t told h in
    rw k.0 k.1

if_is : (b : Bool) (x y : ℕ) → (if b then Some x else None) ≡ Some y → (b ≡ true) × (x ≡ y)
if_is true x y h = (refl, cc)
if_is false x y h = cc

wait_most : (floor failed : Option ℕ) (start attempt : ℕ) → wait_by floor failed start attempt ≤ start + attempt
wait_most None failed start attempt = omega arith
wait_most (Some floor) None start attempt = omega arith
wait_most (Some floor) (Some failed) start attempt = omega arith

wait_least : (floor failed : Option ℕ) (start attempt : ℕ) → start ≤ wait_by floor failed start attempt
wait_least None failed start attempt = omega arith
wait_least (Some floor) None start attempt = omega arith
wait_least (Some floor) (Some failed) start attempt = omega arith

pub wait_after : (race : Race) (done : List Attempt) (last : Attempt) → last.tick ≤ wait_end race done last
wait_after race done last = wait_least race.settings.floor (all_failed (map (fate_of race) done)) last.tick race.settings.attempt

-- below the limit the last attempt was waited for from that tick on
pub waited_to : (race : Race) (t : ℕ) → t < race.settings.limit → (done : List Attempt) (last : Attempt) → HasWaited race done t last → wait_end race done last ≤ t
waited_to race t early done last (inl over) =
    omega (arith, over, wait_most race.settings.floor (all_failed (map (fate_of race) done)) last.tick race.settings.attempt)
waited_to race t early done last (inr h) = by_floor race.settings.floor h
  where
    by_failed : (floor : ℕ) (failed : Option ℕ) → last.tick + floor ≤ t → IsSomeAnd failed (λ f. f ≤ t) → wait_by (Some floor) failed last.tick race.settings.attempt ≤ t
    by_failed floor None over by = absurd by
    by_failed floor (Some f) over by = omega arith

    by_floor : (o : Option ℕ) → IsSomeAnd o (λ floor. (last.tick + floor ≤ t) × HaveFailed race done t) → wait_by o (all_failed (map (fate_of race) done)) last.tick race.settings.attempt ≤ t
    by_floor None h = absurd h
    by_floor (Some floor) h =
        by_failed floor (all_failed (map (fate_of race) done)) h.0 (failed_end t (map (fate_of race) done) (sym (all_failed-fates race t early done) ∙ h.1))

pub waited_from : (race : Race) (t : ℕ) → t < race.settings.limit → (done : List Attempt) (last : Attempt) → wait_end race done last ≤ t → HasWaited race done t last
waited_from race t early done last by = elim (cases_lt t (last.tick + race.settings.attempt)) [
  | inl sooner ↦ inr (by_floor sooner race.settings.floor (all_failed (map (fate_of race) done)) refl by)
  | inr over ↦ inl over
]
  where
    by_floor : t < last.tick + race.settings.attempt → (o p : Option ℕ) → all_failed (map (fate_of race) done) ≡ p → wait_by o p last.tick race.settings.attempt ≤ t → IsSomeAnd o (λ floor. (last.tick + floor ≤ t) × HaveFailed race done t)
    by_floor sooner None p e by = absurd (let no : ⊥ = omega arith in no)
    by_floor sooner (Some floor) None e by = absurd (let no : ⊥ = omega arith in no)
    by_floor sooner (Some floor) (Some f) e by =
        let k : (list_all is_failed (map (fate_of race) done) ≡ true) × (greatest (failures (map (fate_of race) done)) ≡ f) = if_is _ _ f e in
        (omega arith, all_failed-fates race t early done ∙ fails_from t (map (fate_of race) done) k.0 (omega (arith, k.1)))

-- an attempt follows after the last one
pub waited_after : (race : Race) (done : List Attempt) (t : ℕ) (last : Attempt) → HasWaited race done t last → last.tick ≤ t
waited_after race done t last (inl over) = omega arith
waited_after race done t last (inr h) = by_floor race.settings.floor h
  where
    by_floor : (o : Option ℕ) → IsSomeAnd o (λ floor. (last.tick + floor ≤ t) × HaveFailed race done t) → last.tick ≤ t
    by_floor None h = absurd h
    by_floor (Some floor) h = omega (arith, h.0)

pub waited_later : (race : Race) → IsRace race → (done : List Attempt) (t : ℕ) (last : Attempt) → HasWaited race done t last → last.tick < t
waited_later race r done t last (inl over) = omega (arith, over, r.settings.attempt_least)
waited_later race r done t last (inr h) = by_floor race.settings.floor r.settings.floor h
  where
    by_floor : (o : Option ℕ) → IfSome o (λ floor. (MIN_FLOOR ≤ floor) × (floor ≤ race.settings.attempt)) → IsSomeAnd o (λ floor. (last.tick + floor ≤ t) × HaveFailed race done t) → last.tick < t
    by_floor None range h = absurd h
    by_floor (Some floor) range h = omega (arith, h.0, range.0)

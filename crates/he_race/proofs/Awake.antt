-- What a turn's pause leaves: each tick at which the script's client may act is free, and answers are seen as in the
-- script.
use Rattle.std.proofs.Common.{◌≡◌, ℕ, ◌≤◌, ◌<◌, ◌⊎◌, ◌&&◌, ◌++◌, Bool, true, false, List, [], ◌∷◌, if◌then◌else◌, Option, Some, None, nat_le, nat_lt, refl, ◌∙◌, ap, arith, inl, inr}
use Rattle.std.proofs.lemmas.Bool.{cases_lt}
use Rattle.he_plan.specs.declared.attempts.Attempt.{Attempt}
use Rattle.he_timeline.specs.Seen.{IsFree, IsSeen, is_paused, seen, seen_past}
use Rattle.he_timeline.specs.Building.{with_pause}
use Rattle.he_plan.specs.Due.{IsAfterTurn, IsTaken}
use Rattle.he_timeline.specs.Race.{Race, Reply}
use Rattle.he_timeline.specs.Timeline.{IsRace}
use Rattle.he_timeline.proofs.Bools.{before, clash, lt_test, or_none, outside}
use Rattle.he_plan.proofs.Growing.{pause-away}
use Rattle.he_plan.proofs.Lawful.{is_paused-more, seen_past-more}
use Rattle.he_timeline.proofs.Seen.{IsSeen-seen}
use Rattle.he_plan.proofs.Starting.{SeesOwn, SeesOwn-free}
use Rattle.he_turns.specs.Kept.{first_after}
use Rattle.he_turns.specs.Recording.{slept}

-- nothing of the script is passed over before the tick
abbrev pub NonePassed : Race → ℕ → ℕ → Type 0
NonePassed script due at = (t : ℕ) → due ≤ t → IsFree script t → at ≤ t

pub free-slept : (script race : Race) (due at now : ℕ) → ((t : ℕ) → IsFree script t → IsFree race t) → NonePassed script due at → now ≤ at → (t : ℕ) → IsFree script t → IsFree (slept race due now) t
free-slept script race due at now free from by t h = by_test (nat_lt due now)
  where
    out : (nat_le due t && nat_lt t now) ≡ false
    out = elim (cases_lt t due) [ inl early ↦ before due now t early | inr late ↦ outside due now t (let k : at ≤ t = from t late h in omega arith) ]

    by_test : (b : Bool) → IsFree (if b then with_pause race due now else race) t
    by_test false = free t h
    by_test true = is_paused-more race.pauses (due, now) t ∙ or_none _ _ (free t h) (or_none _ _ out refl)

-- an answer that was seen before the pause is seen as before
seen_taken : (race : Race) → IsRace race → (turn k due now : ℕ) → IsFree race turn → k ≤ turn → turn < due → seen (slept race due now) k ≡ seen race k
seen_taken race r turn k due now free by above = by_test (nat_lt due now)
  where
    low : seen race k ≤ turn
    low = let own : SeesOwn race turn = SeesOwn-free race r turn free in own.back k by

    by_test : (b : Bool) → seen (if b then with_pause race due now else race) k ≡ seen race k
    by_test false = refl
    by_test true = seen_past-more race.pauses (due, now) k ∙ ap (λ (b : Bool). if b then now else seen race k) (before due now (seen race k) (omega (arith, low)))

-- one that comes in it is seen at its end or later
seen_late : (race end : Race) (due now k : ℕ) → IsRace end → end.pauses ≡ (slept race due now).pauses → due ≤ k → now ≤ seen end k
seen_late race end due now k r same late =
    let s : IsSeen end k (seen end k) = IsSeen-seen end r k in
    let up : k ≤ seen end k = s.holds.0 in
    elim (cases_lt (seen end k) now) [
      | inl early ↦ absurd (clash _ (away (seen end k) (omega arith) early) s.holds.1)
      | inr by ↦ by
    ]
  where
    away : (t : ℕ) → due ≤ t → t < now → is_paused end.pauses t ≡ true
    away t begun early =
        let pauses : end.pauses ≡ race.pauses ++ (due, now) ∷ [] = same ∙ ap (λ (b : Bool). (if b then with_pause race due now else race).pauses) (lt_test due now (omega arith)) in
        ap (λ (ps : List (ℕ × ℕ)). is_paused ps t) pauses ∙ pause-away race due now t begun early

-- a tick is seen in both races at the same one, or in both at this one or later
abbrev pub SeesBy : Race → Race → ℕ → ℕ → Type 0
SeesBy script race now k = (seen race k ≡ seen script k) ⊎ ((now ≤ seen race k) × (now ≤ seen script k))

pub sees-by : (script race end : Race) → IsRace script → IsRace race → IsRace end → (turn : Option ℕ) (xs : List Attempt) (due at now : ℕ) → end.pauses ≡ (slept race due now).pauses → IsAfterTurn race turn xs → first_after turn ≤ due → NonePassed script due at → now ≤ at
    → (r : Reply) → (r.tick < first_after turn → seen race r.tick ≡ seen script r.tick) → (¬ IsTaken turn r → due ≤ r.tick) → SeesBy script end now r.tick
sees-by script race end rs rr re turn xs due at now same after above from by r was late = by_turn turn after above was late
  where
    untaken : due ≤ r.tick → SeesBy script end now r.tick
    untaken up =
        let s : IsSeen script r.tick (seen script r.tick) = IsSeen-seen script rs r.tick in
        let k : at ≤ seen script r.tick = from (seen script r.tick) (let l : r.tick ≤ seen script r.tick = s.holds.0 in omega arith) s.holds.1 in
        inr (seen_late race end due now r.tick re same up, omega arith)

    by_turn : (turn : Option ℕ) → IsAfterTurn race turn xs → first_after turn ≤ due → (r.tick < first_after turn → seen race r.tick ≡ seen script r.tick) → (¬ IsTaken turn r → due ≤ r.tick) → SeesBy script end now r.tick
    by_turn None after above was late = untaken (late (λ h. h))
    by_turn (Some n) after above was late = elim (cases_lt n r.tick) [
      | inl later ↦ untaken (late (λ h. let k : r.tick ≤ n = h in omega arith))
      | inr taken ↦ inl (ap (λ (ps : List (ℕ × ℕ)). seen_past ps r.tick) same ∙ seen_taken race rr n r.tick due now after.0 taken (omega arith) ∙ was (omega arith))
    ]

-- what came by a tick at which both clients may act is seen in both at the same one
pub sees-same : (script end : Race) → IsRace script → IsRace end → (now k : ℕ) → IsFree script now → IsFree end now → SeesBy script end now k → k ≤ now → seen end k ≡ seen script k
sees-same script end rs re now k fs fe (inl e) by = e
sees-same script end rs re now k fs fe (inr late) by =
    let one : SeesOwn script now = SeesOwn-free script rs now fs in
    let two : SeesOwn end now = SeesOwn-free end re now fe in
    omega (arith, one.back k by, two.back k by, late.0, late.1)

-- A cause names failures exactly where the floor starts an attempt.
use Rattle.std.proofs.Common.{◌≡◌, ℕ, ◌+◌, ◌≤◌, ◌<◌, false, List, refl, subst, arith, inl, inr}
use Rattle.std.specs.Prelude.{Option, None, Some, IsSomeAnd, IsTrue}
use Rattle.he_plan.specs.declared.attempts.Attempt.{Attempt}
use Rattle.he_plan.specs.Attempts.{HasWaited, HaveFailed}
use Rattle.he_timeline.specs.Seen.{IsFree, IsSeen, seen}
use Rattle.he_timeline.specs.Race.{Race}
use Rattle.he_timeline.specs.Timeline.{IsRace}
use Rattle.he_timeline.proofs.Bools.{clash}
use Rattle.he_timeline.proofs.Seen.{IsSeen-seen}
use Rattle.he_course.specs.declared.cause.Cause.{Cause}
use Rattle.he_course.specs.declared.cause.Cause.TheVariants.{AaaaAnswer, BothAnswers, ResolutionDelay, AttemptDelay, Floor, LastFailure, LaterAnswer}
use Rattle.he_course.specs.Causes.{cause_of, last_failure}
use Rattle.he_course.specs.Laws.{FloorsStand, IsByFloor, IsCausedBy, IsLaterBy, names_failures}
use Rattle.he_course.proofs.CauseLaws.{causes_stand}

-- the attempt starts before the delay is over, and at the first tick at which the last one had been waited for
abbrev FloorStarts : Race → List Attempt → Attempt → Attempt → Type 0
FloorStarts race done last next =
    (next.tick < last.tick + race.settings.attempt) × ((t : ℕ) → IsFree race t → HasWaited race done t last → next.tick ≤ t)

-- no wait is over before the delay but by the floor, and then all have failed
by_failures : (race : Race) (done : List Attempt) (last next : Attempt) → next.tick < last.tick + race.settings.attempt
    → ((t floor : ℕ) → IsFree race t → race.settings.floor ≡ Some floor → last.tick + floor ≤ t → HaveFailed race done t → next.tick ≤ t)
    → FloorStarts race done last next
by_failures race done last next early first = (early, λ t free waited. from_wait t free waited)
  where
    from_floor : (t : ℕ) → IsFree race t → (o : Option ℕ) → race.settings.floor ≡ o → IsSomeAnd o (λ floor. (last.tick + floor ≤ t) × HaveFailed race done t) → next.tick ≤ t
    from_floor t free None e h = absurd h
    from_floor t free (Some floor) e h = first t floor free e h.0 h.1

    from_wait : (t : ℕ) → IsFree race t → HasWaited race done t last → next.tick ≤ t
    from_wait t free (inl over) = omega (arith, over, early)
    from_wait t free (inr h) = from_floor t free race.settings.floor refl h

same_floor : (o : Option ℕ) (x y : ℕ) → o ≡ Some x → o ≡ Some y → x ≡ y
same_floor None x y e f = cc
same_floor (Some n) x y e f = cc

starts_by : (race : Race) → IsRace race → (done : List Attempt) (last next : Attempt) (floor : ℕ) → IsByFloor race done next.tick last floor
    → seen race (last.tick + floor) ≡ next.tick → FloorStarts race done last next
starts_by race r done last next floor by at =
    by_failures race done last next by.3 (λ t other free is over all.
    let same : floor ≡ other = same_floor race.settings.floor floor other by.0 is in
    let sees : IsSeen race (last.tick + floor) (seen race (last.tick + floor)) = IsSeen-seen race r (last.tick + floor) in
    let least : seen race (last.tick + floor) ≤ t = sees.least t (omega (arith, same, over), free) in
    omega (arith, at, least))

early_by : (race : Race) (done : List Attempt) (last next : Attempt) (o : Option ℕ) → IsSomeAnd o (IsByFloor race done next.tick last) → next.tick < last.tick + race.settings.attempt
early_by race done last next None h = absurd h
early_by race done last next (Some floor) h = h.3

-- where the cause names failures
to_floor : (race : Race) → IsRace race → (done : List Attempt) (last next : Attempt) (cause : Cause) → IsLaterBy race done last next cause
    → IsTrue (names_failures cause) → FloorStarts race done last next
to_floor race r done last next AaaaAnswer is names = absurd is
to_floor race r done last next BothAnswers is names = absurd is
to_floor race r done last next ResolutionDelay is names = absurd is
to_floor race r done last next (AttemptDelay place delay) is names = absurd (clash false names refl)
to_floor race r done last next (Floor place floor) is names = starts_by race r done last next floor is.1 is.2
to_floor race r done last next (LastFailure tick) is names =
    by_failures race done last next (early_by race done last next race.settings.floor is.0) (λ t floor free e over all. is.1.least t all)
to_floor race r done last next (LaterAnswer family) is names = absurd (clash false names refl)

-- and else it is the delay, or a later answer
from_floor : (race : Race) → IsRace race → (done : List Attempt) (last next : Attempt) (cause : Cause) → IsLaterBy race done last next cause
    → FloorStarts race done last next → IsTrue (names_failures cause)
from_floor race r done last next AaaaAnswer is starts = absurd is
from_floor race r done last next BothAnswers is starts = absurd is
from_floor race r done last next ResolutionDelay is starts = absurd is
from_floor race r done last next (AttemptDelay place delay) is starts =
    let sees : IsSeen race (last.tick + delay) (seen race (last.tick + delay)) = IsSeen-seen race r (last.tick + delay) in
    absurd (omega (arith, sees.holds.0, is.1, is.2, starts.0))
from_floor race r done last next (Floor place floor) is starts = refl
from_floor race r done last next (LastFailure tick) is starts = refl
from_floor race r done last next (LaterAnswer family) is starts =
    absurd (omega (arith, starts.1 is.2.0 is.2.1 is.2.2, is.2.3))

pub floors_stand : FloorsStand
floors_stand race r done last next e is =
    let caused : IsLaterBy race done last next (cause_of race (Some last) (last_failure race done) next) =
    subst (λ o. IsCausedBy race done o next (cause_of race o (last_failure race done) next)) e (causes_stand race r done next is)
    in (
      to_floor race r done last next (cause_of race (Some last) (last_failure race done) next) caused,
      from_floor race r done last next (cause_of race (Some last) (last_failure race done) next) caused,
    )

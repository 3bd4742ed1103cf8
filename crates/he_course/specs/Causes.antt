-- Why an attempt of a race starts at its tick, and not at an earlier one (RFC 8305 sections 3 and 5, and the floor of
-- our own).
use Rattle.std.specs.Prelude.{ℕ, ◌+◌, ◌&&◌, ◌||◌, if◌then◌else◌, List, [], ◌∷◌, max, Bool, false, Option, Some, None, nat_le, nat_lt}
use Rattle.std.specs.List.{list_any}
use Rattle.std.specs.Option.{option_map_or}
use Rattle.he_addr.specs.Ip.{family_of, is_usable}
use Rattle.he_plan.specs.declared.attempts.Attempt.{Attempt}
use Rattle.he_timeline.specs.declared.outcome.Outcome.{Outcome}
use Rattle.he_timeline.specs.declared.outcome.Outcome.TheVariants as outcomes
use Rattle.he_timeline.specs.Seen.{seen}
use Rattle.he_timeline.specs.Race.{outcome_of, Race, Reply, reply_of}
use Rattle.he_course.specs.declared.cause.Cause.{Cause}
use Rattle.he_course.specs.declared.cause.Cause.TheVariants.{AaaaAnswer, BothAnswers, ResolutionDelay, AttemptDelay, Floor, LastFailure, LaterAnswer}

-- the first attempt, at t: if the AAAA answer is not seen by t, the Resolution Delay is over; if it is seen and has a
-- usable address, it is the cause; else both answers are there
abbrev pub first_cause_by : Race → Option Reply → ℕ → Cause
first_cause_by race None t = ResolutionDelay
first_cause_by race (Some aaaa) t =
    if nat_lt t (seen race aaaa.tick) then ResolutionDelay
    else (if list_any is_usable aaaa.addresses then AaaaAnswer else BothAnswers)

-- the tick at which an attempt that starts at `start` fails, if there are no pauses; none if it doesn't fail by the
-- limit
abbrev pub failure_by : ℕ → ℕ → Option Outcome → Option ℕ
failure_by limit start (Some (outcomes.Fail duration)) =
    if nat_le (start + duration) limit then Some (start + duration) else None
failure_by limit start _ = None

abbrev pub failure_of : Race → Attempt → Option ℕ
failure_of race x = failure_by race.settings.limit x.tick (outcome_of race x.ip)

-- the later of two ticks, if there are both
abbrev pub later_of : Option ℕ → Option ℕ → Option ℕ
later_of None other = None
later_of (Some tick) None = None
later_of (Some tick) (Some other) = Some (max tick other)

-- the last failure of these attempts, if all of them fail
abbrev pub last_failure : Race → List Attempt → Option ℕ
last_failure race [] = Some 0
last_failure race (x ∷ done) = later_of (failure_of race x) (last_failure race done)

-- the end of the floor after the last attempt, and the last failure of all so far, were both seen before t
abbrev pub was_floor_over : Race → Attempt → Option ℕ → Option ℕ → ℕ → Bool
was_floor_over race last None failed t = false
was_floor_over race last (Some floor) None t = false
was_floor_over race last (Some floor) (Some failed) t =
    nat_lt (seen race (last.tick + floor)) t && nat_lt (seen race failed) t

-- the wait after the last attempt was over before t: the Connection Attempt Delay, or that floor
abbrev pub was_waited_for : Race → Attempt → Option ℕ → ℕ → Bool
was_waited_for race last failed t =
    nat_lt (seen race (last.tick + race.settings.attempt)) t || was_floor_over race last race.settings.floor failed t

-- a later attempt that starts before the Connection Attempt Delay is over: the floor after the attempt before, or the
-- last failure if that is later. If not all have failed, or no floor is set, none starts so early
abbrev pub floor_cause : Race → Attempt → Option ℕ → Option ℕ → Cause
floor_cause race last None failed = AttemptDelay last.place race.settings.attempt
floor_cause race last (Some floor) None = AttemptDelay last.place race.settings.attempt
floor_cause race last (Some floor) (Some failed) =
    if nat_lt (last.tick + floor) failed then LastFailure failed else Floor last.place floor

-- if the wait after the attempt before was over, no address was left, and the answer with this one came later
abbrev pub later_cause : Race → Attempt → Option ℕ → Attempt → Cause
later_cause race last failed next =
    if was_waited_for race last failed next.tick then LaterAnswer (family_of next.ip)
    else (if nat_lt next.tick (last.tick + race.settings.attempt)
    then floor_cause race last race.settings.floor failed
    else AttemptDelay last.place race.settings.attempt)

-- the cause of an attempt, given the one before it, if there is one, and `failed`, the last failure of all before it
-- if all of them fail
abbrev pub cause_of : Race → Option Attempt → Option ℕ → Attempt → Cause
cause_of race None failed next = first_cause_by race race.aaaa next.tick
cause_of race (Some last) failed next = later_cause race last failed next

-- the tick of an answer; 0 if there is none
abbrev pub tick_of : Option Reply → ℕ
tick_of reply = option_map_or (λ r. r.tick) reply 0

-- the tick of an attempt; 0 if there is none
abbrev pub start_of : Option Attempt → ℕ
start_of attempt = option_map_or (λ x. x.tick) attempt 0

-- the tick at which an attempt of this cause is due, if there are no pauses
abbrev pub due_of : Race → Option Attempt → Cause → ℕ
due_of race last AaaaAnswer = tick_of race.aaaa
due_of race last BothAnswers = max (tick_of race.aaaa) (tick_of race.a)
due_of race last ResolutionDelay = tick_of race.a + race.settings.resolution
due_of race last (AttemptDelay place delay) = start_of last + delay
due_of race last (Floor place floor) = start_of last + floor
due_of race last (LastFailure tick) = tick
due_of race last (LaterAnswer family) = tick_of (reply_of race family)

-- a pause held it back: it was due before its tick t
abbrev pub is_held : Race → Option Attempt → Cause → ℕ → Bool
is_held race last cause t = nat_lt (due_of race last cause) t

-- How a running race is recorded, and what holds of its record at its end.
use Rattle.std.specs.Prelude.{ℕ, ◌≡◌, ◌+◌, ◌<◌, ◌≤◌, Bool, true, false, List, Some, if◌then◌else◌, IfSome, nat_lt}
use Rattle.std.specs.List.{All, Contains}
use Rattle.he_plan.specs.declared.attempts.Attempt.{Attempt}
use Rattle.he_timeline.specs.declared.outcome.Outcome.{Outcome}
use Rattle.he_timeline.specs.Building.{with_pause}
use Rattle.he_timeline.specs.Race.{Race, outcome_of}
use Rattle.he_timeline.specs.Timeline.{IsRace}
use Rattle.he_plan.specs.declared.transcript.Outcome3.{Outcome3}
use Rattle.he_plan.specs.Attempts.{AreNextInTurn, MayStart}
use Rattle.he_timeline.specs.Seen.{IsFree}
use Rattle.he_timeline.specs.declared.outcome.Outcome.TheVariants as outcomes
use Rattle.he_plan.specs.declared.transcript.Outcome3.TheVariants as results

-- the recorded outcome of an attempt that took this duration
abbrev pub ended_by : Bool → ℕ → Outcome
ended_by true duration = outcomes.Ok duration
ended_by false duration = outcomes.Fail duration

-- the outcome is a failure at or before this tick, or, in a race that is won, a success at this tick
abbrev pub EndedBy : Race → ℕ → Bool → Attempt → Outcome → Type 0
EndedBy race now won x (outcomes.Ok duration) = (won ≡ true) × (x.tick + duration ≡ now)
EndedBy race now won x (outcomes.Fail duration) = IsFree race (x.tick + duration) × (x.tick + duration ≤ now)

-- an attempt has succeeded
pub record HasSuccess (race : Race) (xs : List Attempt) : Type 0 where
  pub x : Attempt
  pub made : Contains xs x
  pub duration : ℕ
  pub success : outcome_of race x.ip ≡ Some (outcomes.Ok duration)

-- the race ends at the tick: it is won there, or no attempt may start any more
pub record EndsRace (race : Race) (stop : ℕ) (xs : List Attempt) (won : Bool) : Type 0 where
  pub valid : IsRace race
  pub in_turn : AreNextInTurn race xs
  pub past : All (λ x. x.tick ≤ stop) xs
  pub before : won ≡ true → All (λ x. x.tick < stop) xs
  pub free : won ≡ true → IsFree race stop
  pub early : stop ≤ race.settings.limit
  pub ended : All (λ x. IfSome (outcome_of race x.ip) (EndedBy race stop won x)) xs
  pub stops : (t : ℕ) → MayStart race xs t → stop ≤ t
  pub success : won ≡ true → HasSuccess race xs
  pub over : won ≡ false → (t : ℕ) → ¬ MayStart race xs t

abbrev pub is_won : Outcome3 → Bool
is_won (results.Won place tick) = true
is_won _ = false

-- the race with a pause from the due tick on, if the turn comes after it
abbrev pub slept : Race → ℕ → ℕ → Race
slept race due now = if nat_lt due now then with_pause race due now else race

-- When an attempt finishes, and which attempt wins.
use Rattle.std.specs.Prelude.{ℕ, ◌≡◌, ◌<◌, ◌≤◌, ◌⊎◌, if◌then◌else◌, List, Option, Some, None, slice_get, nat_le}
use Rattle.he_plan.specs.declared.attempts.Attempt.{Attempt}
use Rattle.he_plan.specs.declared.finish.Fate.{Fate}
use Rattle.he_plan.specs.declared.finish.Fate.TheVariants.{Succeeded, Failed, Running, Skipped}
use Rattle.he_timeline.specs.declared.outcome.Outcome.{Outcome}
use Rattle.he_timeline.specs.declared.outcome.Outcome.TheVariants as outcomes
use Rattle.he_timeline.specs.Race.{Race}
pub use Rattle.he_plan.specs.Attempts.{finish_of}
pub use Rattle.he_timeline.specs.Race.{outcome_in, outcome_of}

-- the fate of an attempt by the limit
abbrev pub fate_by : Race → ℕ → Option Outcome → Fate
fate_by race start None = Running
fate_by race start (Some (outcomes.Ok duration)) =
    if nat_le (finish_of race start duration) race.settings.limit then Succeeded (finish_of race start duration)
    else Running
fate_by race start (Some (outcomes.Fail duration)) =
    if nat_le (finish_of race start duration) race.settings.limit then Failed (finish_of race start duration)
    else Running

abbrev pub fate_of : Race → Attempt → Fate
fate_of race x = fate_by race x.tick (outcome_of race x.ip)

-- a finish is after the start and at or before the limit; an attempt of a race is not skipped
abbrev pub IsInTime : Race → Attempt → Fate → Type 0
IsInTime race x (Succeeded finish) = (x.tick < finish) × (finish ≤ race.settings.limit)
IsInTime race x (Failed finish) = (x.tick < finish) × (finish ≤ race.settings.limit)
IsInTime race x Running = Unit {0}
IsInTime race x Skipped = ⊥

-- the fate known at the tick: an attempt that finishes later is still running
abbrev pub known_by : ℕ → Fate → Fate
known_by tick (Succeeded finish) = if nat_le finish tick then Succeeded finish else Running
known_by tick (Failed finish) = if nat_le finish tick then Failed finish else Running
known_by tick _ = Running

abbrev pub known_at : Race → ℕ → Attempt → Fate
known_at race tick x = known_by tick (fate_of race x)

-- a success's finish and place
abbrev pub IsSuccess : List Fate → ℕ × ℕ → Type 0
IsSuccess fates key = slice_get fates key.1 ≡ Some (Succeeded key.0)

-- in order of finish, then of place
abbrev pub ComesFirst : ℕ × ℕ → ℕ × ℕ → Type 0
ComesFirst x y = (x.0 < y.0) ⊎ ((x.0 ≡ y.0) × (x.1 ≤ y.1))

-- the winner: of the successes with the least finish, the one with the least place
abbrev pub IsWinner : List Fate → Option (ℕ × ℕ) → Type 0
IsWinner fates None = (key : ℕ × ℕ) → ¬ IsSuccess fates key
IsWinner fates (Some winner) = IsSuccess fates winner × ((key : ℕ × ℕ) → IsSuccess fates key → ComesFirst winner key)

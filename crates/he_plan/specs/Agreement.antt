-- The common parts of two races: a script and its record, or a race before and after an addition.
use Rattle.std.specs.Prelude.{ℕ, ◌≡◌, ◌<◌, ◌↔◌, List, [], ◌∷◌}
use Rattle.he_plan.specs.declared.attempts.Attempt.{Attempt}
use Rattle.he_timeline.specs.Seen.{IsFree}
use Rattle.he_plan.specs.Attempts.{has_failed}
use Rattle.he_timeline.specs.Race.{Race}

-- the second race differs from the first only in its outcomes and pauses
abbrev pub AreAlike : Race → Race → Type 0
AreAlike x y = y ≡ record x { outcomes = y.outcomes; pauses = y.pauses }

-- and below the tick the client may act at the same ticks in both
pub record AgreeBelow (tick : ℕ) (x y : Race) : Type 0 where
  pub alike : AreAlike x y
  pub free : (t : ℕ) → t < tick → IsFree x t ↔ IsFree y t

-- below the tick each of these attempts has failed in both races or in neither
abbrev pub FailAlike : ℕ → Race → Race → List Attempt → Type 0
FailAlike tick x y [] = Unit {0}
FailAlike tick x y (z ∷ attempts) =
    ((t : ℕ) → t < tick → has_failed x t z ≡ has_failed y t z) × FailAlike tick x y attempts

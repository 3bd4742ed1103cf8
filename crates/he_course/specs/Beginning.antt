-- Mirrors the code: private functions on a race's first attempt.
use Rattle.std.specs.Prelude.{Bool, false, true, not, List, [], ◌∷◌, Option, Some}
use Rattle.he_timeline.specs.declared.outcome.Outcome.{Outcome}
use Rattle.he_timeline.specs.declared.outcome.Outcome.TheVariants as outcomes
use Rattle.he_plan.specs.declared.transcript.Line.{Line}
use Rattle.he_timeline.specs.Race.{outcome_of, Race}

abbrev pub is_failure : Option Outcome → Bool
is_failure (Some (outcomes.Fail duration)) = true
is_failure _ = false

-- there is a first attempt, and it does not fail
abbrev pub begins_unfailing : Race → List Line → Bool
begins_unfailing race [] = false
begins_unfailing race (first ∷ more) = not (is_failure (outcome_of race first.ip))

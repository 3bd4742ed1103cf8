-- Mirrors the code: a race's attempts one by one, as the loop of `plan` makes them.
use Rattle.std.specs.Prelude.{ℕ, ◌++◌, List, [], ◌∷◌}
use Rattle.he_plan.specs.declared.attempts.Attempt.{Attempt}
use Rattle.he_plan.specs.Attempts.{IsNext, MayStart}
use Rattle.he_timeline.specs.Race.{Race}

-- each of these attempts is the next one after `done` and those before it
abbrev pub Follow : Race → List Attempt → List Attempt → Type 0
Follow race done [] = Unit {0}
Follow race done (next ∷ more) = IsNext race done next × Follow race (done ++ next ∷ []) more

-- and no attempt follows the last
abbrev pub Continues : Race → List Attempt → List Attempt → Type 0
Continues race done [] = (t : ℕ) → ¬ MayStart race done t
Continues race done (next ∷ more) = IsNext race done next × Continues race (done ++ next ∷ []) more

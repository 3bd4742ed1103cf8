-- One step more.
use Rattle.std.proofs.Common.{ℕ, ◌+◌}
use Rattle.std.proofs.Math.Numerals.{add-one}
use Rattle.he_stream.specs.Runs.{StepsOn}

pub one_step_more : {S X : Type 0} (answers : S → X → S → Type 0) (GoesOn : X → Type 0) (steps : ℕ) (first state last : S) (answer : X) → StepsOn answers GoesOn steps first state → GoesOn answer → answers state answer last → StepsOn answers GoesOn (steps + 1) first last
one_step_more answers GoesOn steps first state last answer before on step = rw add-one (state, answer, before, on, step)

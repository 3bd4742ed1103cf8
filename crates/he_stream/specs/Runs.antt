-- Runs of steps: the states that they pass through, and the last step.
use Rattle.std.specs.Prelude.{◌≡◌, ℕ, zero, suc, ◌<◌, ◌≤◌}

-- this number of steps, each with a result after which another is taken, lead from the first state to the last
abbrev pub StepsOn : {S X : Type 0} → (S → X → S → Type 0) → (X → Type 0) → ℕ → S → S → Type 0
StepsOn answers GoesOn zero first last = first ≡ last
StepsOn {S} {X} answers GoesOn (suc steps) first last =
    (state : S) × (answer : X) × StepsOn answers GoesOn steps first state × GoesOn answer × answers state answer last

-- steps that go on, followed by a step with this result, fewer than `most` before it
pub record EndsWith {S X : Type 0} (answers : S → X → S → Type 0) (GoesOn : X → Type 0) (most : ℕ) (answer : X)
    (first last : S) : Type 0 where
  pub steps : ℕ
  pub few : steps < most
  pub state : S
  pub before : StepsOn answers GoesOn steps first state
  pub ended : answers state answer last

-- at most `most` steps that go on, and none that ends the run
pub record Stops {S X : Type 0} (answers : S → X → S → Type 0) (GoesOn : X → Type 0) (most : ℕ)
    (first last : S) : Type 0 where
  pub steps : ℕ
  pub few : steps ≤ most
  pub before : StepsOn answers GoesOn steps first last

-- exactly `most` steps that go on, and none that ends the run
pub record RunsOut {S X : Type 0} (answers : S → X → S → Type 0) (GoesOn : X → Type 0) (most : ℕ)
    (first last : S) : Type 0 where
  pub steps : ℕ
  pub all : steps ≡ most
  pub before : StepsOn answers GoesOn steps first last

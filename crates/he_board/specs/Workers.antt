-- Workers that share a board: their number, and the jobs that they have tried.
use Rattle.std.specs.Prelude.{ℕ, ◌<◌, ◌≤◌, List}
use Rattle.he_board.specs.Notes.{times}

abbrev pub least_workers : ℕ
least_workers = 1

abbrev pub most_workers : ℕ
most_workers = 64

-- each job from low up to high is known to be taken
abbrev pub IsTried : ℕ → ℕ → List ℕ → Type 0
IsTried low high known = (job : ℕ) → low ≤ job → job < high → 0 < times job known

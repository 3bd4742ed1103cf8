-- The jobs of a batch of races, and the notes of its pass at its end.
use Rattle.std.specs.Prelude.{ℕ, ◌≡◌, ◌+◌, ◌-◌, ◌/◌, ◌%◌, if◌then◌else◌, List, [], ◌∷◌, map, Option, Some, count_by, nat_lt, slice_get}
use Rattle.he_addr.specs.Ip.{is_usable}
use Rattle.he_board.specs.declared.limits.TheConstants.{PLACES}
use Rattle.he_board.specs.declared.view.View.{View}
use Rattle.he_board.specs.Notes.{least_of, times, winner_of}
use Rattle.he_plan.specs.declared.attempts.Attempt.{Attempt}
use Rattle.he_plan.specs.Attempts.{AreAttempts}
use Rattle.he_plan.specs.Finish.{fate_of, IsSuccess, IsWinner}
use Rattle.he_timeline.specs.Race.{Race, addresses_of}

-- a race has one job for each usable address of its answers
abbrev pub job_count : Race → ℕ
job_count race = count_by is_usable (addresses_of race.aaaa) + count_by is_usable (addresses_of race.a)

abbrev pub batch_jobs : List Race → ℕ
batch_jobs [] = 0
batch_jobs (race ∷ races) = job_count race + batch_jobs races

-- jobs are numbered by race, then by place: the race and the place of a job
abbrev pub job_at : List Race → ℕ → ℕ × ℕ
job_at [] job = (0, job)
job_at (race ∷ races) job =
    if nat_lt job (job_count race) then (0, job)
    else (1 + (job_at races (job - job_count race)).0, (job_at races (job - job_count race)).1)

-- the key is that of a success of the race
pub record IsKeyOfSuccess (race : Race) (key : ℕ) : Type 0 where
  pub attempts : List Attempt
  pub are : AreAttempts race attempts
  pub success : IsSuccess (map (fate_of race) attempts) (key / PLACES, key % PLACES)

-- an offer, a race's number and a key, is the key of a success of that race
pub record IsOfSuccess (races : List Race) (offer : ℕ × ℕ) : Type 0 where
  pub race : Race
  pub stands : slice_get races offer.0 ≡ Some race
  pub success : IsKeyOfSuccess race offer.1

-- each job of the batch is taken, once, and no other job
abbrev pub HasTakenAll : List Race → View → Type 0
HasTakenAll races v = (job : ℕ) → times job v.taken ≡ (if nat_lt job (batch_jobs races) then 1 else 0)

-- the winner of the race's attempts, if each runs to its end
pub record IsWinnerOf (race : Race) (winner : Option (ℕ × ℕ)) : Type 0 where
  pub attempts : List Attempt
  pub are : AreAttempts race attempts
  pub wins : IsWinner (map (fate_of race) attempts) winner

-- the least offer of each race is its winner, or there is neither
abbrev pub HasWinners : List Race → View → Type 0
HasWinners races v =
    (number : ℕ) (race : Race) → slice_get races number ≡ Some race
    → IsWinnerOf race (winner_of (least_of number v.offers))

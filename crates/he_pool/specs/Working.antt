-- Mirrors the code: the invariants of workers while they take jobs and run them.
use Rattle.std.specs.Prelude.{ℕ, ◌≡◌, ◌+◌, ◌<◌, ◌≤◌, ◌/◌, ◌⊎◌, List, [], ◌∷◌, map, All, IfSome, Option, Some, length, slice_get, set, take}
use Rattle.std.specs.List.{AllZip}
use Rattle.he_board.specs.declared.board.Board.{Board}
use Rattle.he_board.specs.declared.limits.TheConstants.{MOST_WORKERS, PLACES, RACES}
use Rattle.he_board.specs.declared.pass.Pass.{Pass}
use Rattle.he_board.specs.declared.view.View.{View}
use Rattle.he_board.specs.Notes.{blank, key_of, least_of, times, winner_of}
use Rattle.he_board.specs.Passes.{IsPassOf, jobs_of, notes, races_of}
use Rattle.he_board.specs.Workers.{IsTried}
use Rattle.he_plan.specs.declared.attempts.Attempt.{Attempt}
use Rattle.he_plan.specs.declared.finish.Fate.{Fate}
use Rattle.he_plan.specs.declared.finish.Fate.TheVariants.{Skipped, Succeeded}
use Rattle.he_plan.specs.Attempts.{AreAttempts}
use Rattle.he_plan.specs.Finish.{fate_of}
use Rattle.he_timeline.specs.Race.{Race}
use Rattle.he_plan.specs.Transcript.{IsTranscript, Report}
use Rattle.he_pool.specs.Batch.{IsOfSuccess, IsWinnerOf, batch_jobs, job_at, job_count}
use Rattle.he_pool.specs.declared.attempting.Done.{Done}
use Rattle.he_pool.specs.declared.pool.Range.{Range}

-- the least values noted for a race only decrease
pub record IsLater (old new : View) : Type 0 where
  pub offers : (race : ℕ) → least_of race new.offers ≤ least_of race old.offers
  pub looked : (race : ℕ) → least_of race new.looked ≤ least_of race old.looked

-- an attempt that was run has its own fate, and its success is offered
pub record IsRun (race : Race) (number place : ℕ) (v : View) (x : Attempt) (fate : Fate) : Type 0 where
  pub own : fate ≡ fate_of race x
  pub offered : (finish : ℕ) → fate ≡ Succeeded finish → least_of number v.offers ≤ key_of finish place

-- a skipped attempt starts at or after the tick of the least value looked at
pub record IsSkipped (number : ℕ) (v : View) (x : Attempt) (fate : Fate) : Type 0 where
  pub skipped : fate ≡ Skipped
  pub late : least_of number v.looked / PLACES ≤ x.tick

abbrev pub IsHonest : Race → ℕ → ℕ → View → Attempt → Fate → Type 0
IsHonest race number place v x fate = IsRun race number place v x fate ⊎ IsSkipped number v x fate

-- the fate returned for a place is honest, if the race has such an attempt
abbrev pub IsHonestAt : List Race → View → ℕ × ℕ → Fate → Type 0
IsHonestAt races v job fate =
    (race : Race) → slice_get races job.0 ≡ Some race → (attempts : List Attempt) → AreAttempts race attempts
    → (x : Attempt) → slice_get attempts job.1 ≡ Some x → IsHonest race job.0 job.1 v x fate

abbrev pub AreHonest : List Race → View → List Done → Type 0
AreHonest races v done = All (λ d. IsHonestAt races v (job_at races d.job) d.fate) done

-- the results of a worker: one fate for each job that it took
pub record IsSound (races : List Race) (v : View) (done : List Done) : Type 0 where
  pub taken : v.taken ≡ map (λ d. d.job) done
  pub honest : AreHonest races v done
  pub below : All (λ d. d.job < batch_jobs races) done

-- by race a plan of it, or None
abbrev pub ArePlans : List Race → List (Option (List Attempt)) → Type 0
ArePlans = AllZip (λ race made. IfSome made (AreAttempts race))

-- the state of a worker
pub record IsHeld (races : List Race) (v : View) (done : List Done)
    (plans : List (Option (List Attempt))) : Type 0 where
  pub real : All (IsOfSuccess races) v.offers
  pub sound : IsSound races v done
  pub planned : ArePlans races plans

-- no number occurs less often
abbrev pub IsMore : List ℕ → List ℕ → Type 0
IsMore old new = (job : ℕ) → times job old ≤ times job new

-- a worker has tried all jobs
pub record IsWorked (races : List Race) (v : View) (done : List Done)
    (plans : List (Option (List Attempt))) : Type 0 where
  pub tried : IsTried 0 (batch_jobs races) v.known
  pub held : IsHeld races v done plans

-- a worker is trying the jobs of a race, and has tried those at the places below this one
pub record IsTrying (races : List Race) (number place : ℕ) (old new : View) (done : List Done)
    (plans : List (Option (List Attempt))) (made : Option (List Attempt)) : Type 0 where
  pub parts : new.parts ≡ old.parts
  pub held : IsHeld races new done plans
  pub planned : (race : Race) → slice_get races number ≡ Some race → IfSome made (AreAttempts race)
  pub more : IsMore old.known new.known
  pub tried : IsTried (batch_jobs (take number races)) (batch_jobs (take number races) + place) new.known

-- a worker has tried the jobs of these races
pub record HasTried (races : List Race) (from to : ℕ) (old new : View) (done : List Done)
    (plans : List (Option (List Attempt))) : Type 0 where
  pub parts : new.parts ≡ old.parts
  pub held : IsHeld races new done plans
  pub more : IsMore old.known new.known
  pub tried : IsTried (batch_jobs (take from races)) (batch_jobs (take to races)) new.known

-- no notes yet
abbrev pub IsBlank : View → Type 0
IsBlank v = v ≡ blank v.parts

-- the number of the first job of each race, followed by the number of all jobs
abbrev pub firsts_from : ℕ → List Race → List ℕ
firsts_from job [] = job ∷ []
firsts_from job (race ∷ races) = job ∷ firsts_from (job + job_count race) races

-- the data that the workers share: these numbers, and a board with room for the batch
pub record IsReady {A : Type 0} (races : List Race) (firsts : List ℕ) (board : Board A) : Type 0 where
  pub numbers : firsts ≡ firsts_from 0 races
  pub few : All (λ race. job_count race ≤ PLACES) races
  pub room : length races ≤ races_of board
  pub most : length races ≤ RACES
  pub jobs : batch_jobs races ≤ jobs_of board

-- by number a fate for each job: the one returned by the worker that took it
pub record AreFates (races : List Race) (v : View) (fates : List Fate) : Type 0 where
  pub size : length fates ≡ batch_jobs races
  pub tried : IsTried 0 (batch_jobs races) v.known
  pub honest : (job : ℕ) (fate : Fate) → slice_get fates job ≡ Some fate → 0 < times job v.taken
      → IsHonestAt races v (job_at races job) fate

-- the list of fates after these are stored in it
abbrev pub filled : List Done → List Fate → List Fate
filled [] fates = fates
filled (d ∷ done) fates = filled done (set fates d.job d.fate)

-- one honest fate for each attempt of a race
pub record AreHonestTold (race : Race) (number : ℕ) (v : View) (attempts : List Attempt)
    (told : List Fate) : Type 0 where
  pub size : length told ≡ length attempts
  pub honest : (place : ℕ) (x : Attempt) (fate : Fate) → slice_get attempts place ≡ Some x
      → slice_get told place ≡ Some fate → IsHonest race number place v x fate

-- the pass has only looked at winner words since
pub record IsKept (old new : View) : Type 0 where
  pub parts : new.parts ≡ old.parts
  pub taken : new.taken ≡ old.taken
  pub known : new.known ≡ old.known
  pub offers : new.offers ≡ old.offers
  pub later : IsLater old new

-- the first `count` races are settled: each has its transcript, and its least offer is its winner; and if there is a
-- race, the pass has taken each job that it knows to be taken, once
pub record AreSettled (races : List Race) (count : ℕ) (v : View) (reports : List Report) : Type 0 where
  pub transcripts : AllZip IsTranscript (take count races) reports
  pub winners : (number : ℕ) (race : Race) → number < count → slice_get races number ≡ Some race
      → IsWinnerOf race (winner_of (least_of number v.offers))
  pub once : 0 < count → (job : ℕ) → 0 < times job v.known → times job v.taken ≡ 1

-- the pass returned by workers: with all its parts, and each offer a success
pub record IsDone {A : Type 0} (board : Board A) (races : List Race) (parts : ℕ) (pass : Pass) : Type 0 where
  pub own : IsPassOf board pass
  pub whole : (notes pass).parts ≡ parts
  pub real : All (IsOfSuccess races) (notes pass).offers

-- workers with these numbers may run with the pass
pub record MayRun {A : Type 0} (board : Board A) (pass : Pass) (range : Range) : Type 0 where
  pub own : IsPassOf board pass
  pub some : 1 ≤ range.count
  pub few : range.first + range.count ≤ range.workers
  pub most : range.workers ≤ MOST_WORKERS
  pub parts : range.count ≤ (notes pass).parts
  pub blank : IsBlank (notes pass)

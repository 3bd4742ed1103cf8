-- The lawful states of a board: its words, and the notes of each pass ever made.
use Rattle.std.specs.Prelude.{◌≡◌, ℕ, ◌+◌, ◌<◌, ◌≤◌, ◌⊎◌, List, length, slice_index, Contains}
use mathlib.Core.Option.{some}
use lib.ListN.{get_elem?}
use Rattle.he_board.specs.declared.limits.TheConstants.{RACES, PARTS, NO_OFFER}
use Rattle.he_board.specs.declared.view.View.{View}
use Rattle.he_board.specs.Notes.{times, blank}
use Rattle.he_board.specs.Balance.{total, winner_word, job_word}

-- P holds for each view
abbrev pub EachView : List View → (View → Type 0) → Type 0
EachView views P = (i : ℕ) (v : View) → get_elem? views i ≡ some v → P v

-- exactly one view has taken the job, once
pub record TakenOnce (views : List View) (job : ℕ) : Type 0 where
  pub by : ℕ
  pub taker : View
  pub stands : get_elem? views by ≡ some taker
  pub once : times job taker.taken ≡ 1
  pub alone : (i : ℕ) (v : View) → get_elem? views i ≡ some v → Contains v.taken job → i ≡ by

-- no view has taken the job, and none knows it to be taken
pub record IsFree (views : List View) (job : ℕ) : Type 0 where
  pub untaken : EachView views (λ v. ¬ Contains v.taken job)
  pub unknown : EachView views (λ v. ¬ Contains v.known job)

-- some view has offered the key to the race
pub record IsOffered (views : List View) (race key : ℕ) : Type 0 where
  pub by : ℕ
  pub offerer : View
  pub stands : get_elem? views by ≡ some offerer
  pub offers : Contains offerer.offers (race, key)

-- no key was offered to the race
abbrev pub IsUnoffered : List View → ℕ → Type 0
IsUnoffered views race = EachView views (λ v. (key : ℕ) → ¬ Contains v.offers (race, key))

pub record Lawful (jobs races : ℕ) (words : List ℕ) (views : List View) : Type 0 where
  pub size : length words ≡ 1 + RACES + jobs
  pub few : races ≤ RACES
  -- the word of a job is 1 if exactly one view has taken it, and 0 if none has and none knows it to be taken; there
  -- is no other case
  pub job_words : (job : ℕ) → (job < jobs → slice_index words (job_word job) ≡ 1) × TakenOnce views job
      ⊎ (job < jobs → slice_index words (job_word job) ≡ 0) × IsFree views job
  -- the word of a race is one of its offers, or `NO_OFFER` if there is none
  pub winner_words : (race : ℕ) → race < races → IsOffered views race (slice_index words (winner_word race))
      ⊎ (slice_index words (winner_word race) ≡ NO_OFFER) × IsUnoffered views race
  -- it is at most each offer and each value looked at
  pub offers : (race : ℕ) → race < races
      → EachView views (λ v. (key : ℕ) → Contains v.offers (race, key) → slice_index words (winner_word race) ≤ key)
  pub looked : (race : ℕ) → race < races
      → EachView views
      (λ v. (value : ℕ) → Contains v.looked (race, value) → slice_index words (winner_word race) ≤ value)
  pub keys : EachView views (λ v. (race key : ℕ) → Contains v.offers (race, key) → key < NO_OFFER)
  -- no part is lost, and a view without parts is empty
  pub parts : total (λ v. v.parts) views ≡ PARTS
  pub idle : EachView views (λ v. v.parts ≡ 0 → v ≡ blank 0)

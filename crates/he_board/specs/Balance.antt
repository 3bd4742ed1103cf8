-- The rule of the board's table, by sums and minima over the views of all passes, equivalent to `Lawful`. Word 0 is
-- spare, word 1 + r is the winner word of the race r, and word 1 + RACES + j is the word of the job j.
use Rattle.std.specs.Prelude.{◌≡◌, ℕ, ◌+◌, ◌<◌, ◌≤◌, min, List, [], ◌∷◌, length, slice_index, true}
use mathlib.Core.Option.{some}
use lib.ListN.{get_elem?}
use Rattle.atomic_table.specs.Table.{State}
use Rattle.he_board.specs.declared.limits.TheConstants.{RACES, PARTS, NO_OFFER}
use Rattle.he_board.specs.declared.view.View.{View}
use Rattle.he_board.specs.declared.view.Layout.{Layout}
use Rattle.he_board.specs.Notes.{times, least_of, are_keys, blank}

abbrev pub total : (View → ℕ) → List View → ℕ
total f [] = 0
total f (v ∷ vs) = f v + total f vs

abbrev pub least : (View → ℕ) → List View → ℕ
least f [] = NO_OFFER
least f (v ∷ vs) = min (f v) (least f vs)

abbrev pub winner_word : ℕ → ℕ
winner_word race = 1 + race

abbrev pub job_word : ℕ → ℕ
job_word job = 1 + RACES + job

-- how often all views together have taken a job, and know it to be taken
abbrev pub takers : ℕ → List View → ℕ
takers job = total (λ v. times job v.taken)

abbrev pub knowers : ℕ → List View → ℕ
knowers job = total (λ v. times job v.known)

-- the least offer to a race, and the least value looked at, in all views
abbrev pub least_offer : ℕ → List View → ℕ
least_offer race = least (λ v. least_of race v.offers)

abbrev pub least_looked : ℕ → List View → ℕ
least_looked race = least (λ v. least_of race v.looked)

pub record Balanced (jobs races : ℕ) (words : List ℕ) (views : List View) : Type 0 where
  pub size : length words ≡ 1 + RACES + jobs
  pub few : races ≤ RACES
  pub job_words : (job : ℕ) → job < jobs → slice_index words (job_word job) ≡ takers job views
  pub one_taker : (job : ℕ) → takers job views ≤ 1
  pub free_unknown : (job : ℕ) → takers job views ≡ 0 → knowers job views ≡ 0
  pub offered : (race : ℕ) → race < races → slice_index words (winner_word race) ≡ least_offer race views
  pub looked : (race : ℕ) → race < races → slice_index words (winner_word race) ≤ least_looked race views
  pub keys : (i : ℕ) (v : View) → get_elem? views i ≡ some v → are_keys v.offers ≡ true
  pub parts : total (λ v. v.parts) views ≡ PARTS
  pub idle : (i : ℕ) (v : View) → get_elem? views i ≡ some v → v.parts ≡ 0 → v ≡ blank 0

abbrev pub IsBalanced : {S : Type 0} → Layout → State S View → Type 0
IsBalanced layout s = Balanced layout.jobs layout.races s.words s.views

-- the words of a new board: no offer, and no job taken
pub record IsFresh (jobs : ℕ) (words : List ℕ) : Type 0 where
  pub size : length words ≡ 1 + RACES + jobs
  pub winners : (race : ℕ) → race < RACES → slice_index words (winner_word race) ≡ NO_OFFER
  pub free : (job : ℕ) → job < jobs → slice_index words (job_word job) ≡ 0

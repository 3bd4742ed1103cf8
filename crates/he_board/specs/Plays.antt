-- The facts that each atomic step gives the pass that takes it: about the step, the seat before, the number found and
-- the seat after.
use Rattle.std.specs.Prelude.{◌≡◌, ◌≢◌, ℕ, ◌==◌, ◌<◌, ◌≤◌, if◌then◌else◌}
use Rattle.atomic_table.specs.Table.{Me, Step}
use Rattle.he_board.specs.declared.limits.TheConstants.{PARTS, NO_OFFER}
use Rattle.he_board.specs.declared.view.View.{View}
use Rattle.he_board.specs.Notes.{times, least_of, count_of, taking, knowing, looking, offering}
use Rattle.he_board.specs.Balance.{winner_word, job_word}

-- the value is at most each offer and each value looked at that is noted for the race
pub record IsAtMostNoted (race value : ℕ) (v : View) : Type 0 where
  pub offers : value ≤ least_of race v.offers
  pub looked : value ≤ least_of race v.looked

-- this pass has taken each job that it knows to be taken, once
abbrev pub IsTakenOnce : View → Type 0
IsTakenOnce v = (job : ℕ) → 0 < times job v.known → times job v.taken ≡ 1

-- the value is the least offer of all, and this pass has taken each job that it knows to be taken
pub record IsDecided (race value : ℕ) (v : View) : Type 0 where
  pub least : value ≡ least_of race v.offers
  pub offered : value ≢ NO_OFFER → 0 < count_of race v.offers
  pub none : count_of race v.offers ≡ 0 → value ≡ NO_OFFER
  pub unoffered : value ≡ NO_OFFER → count_of race v.offers ≡ 0
  pub taken : IsTakenOnce v

module _ {S : Type 0} where
  abbrev pub job_swapped : Step S → Me S View → ℕ → Me S View → Type 0
  job_swapped st m n m' = (job : ℕ) → st.word ≡ job_word job
      → (m'.0 ≡ (if n == 0 then taking job m.0 else knowing job m.0)) × (m'.1 ≡ m.1)

  abbrev pub winner_loaded : Step S → Me S View → ℕ → Me S View → Type 0
  winner_loaded st m n m' = (race : ℕ) → st.word ≡ winner_word race
      → (m'.0 ≡ looking race n m.0) × (m'.1 ≡ m.1) × IsAtMostNoted race n m.0
      × (m.0.parts ≡ PARTS → IsDecided race n m.0)

  abbrev pub winner_lowered : Step S → Me S View → ℕ → Me S View → Type 0
  winner_lowered st m n m' = (race : ℕ) → st.word ≡ winner_word race
      → (m'.0 ≡ offering race st.first n m.0) × (m'.1 ≡ m.1) × IsAtMostNoted race n m.0

  -- the parts of a pass are parts of the board's; a pass with all of them took each job that it knows to be taken
  abbrev pub parts_counted : Step S → Me S View → ℕ → Me S View → Type 0
  parts_counted st m n m' =
      (m'.0 ≡ m.0) × (m'.1 ≡ m.1) × (m.0.parts ≤ PARTS) × (m.0.parts ≡ PARTS → IsTakenOnce m.0)

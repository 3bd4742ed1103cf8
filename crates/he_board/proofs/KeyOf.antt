-- Keys as numbers.
use Rattle.std.proofs.Common.{◌≡◌, ◌⊎◌, ℕ, ◌/◌, ◌%◌, ◌<◌, ◌≤◌, Bool, cond, ne_eqb, ap, ◌∙◌, inl, inr, ⊎_elim, arith}
use Rattle.std.specs.Prelude.{Option, Some, None}
use mathlib.Core.Logic.{dite}
use native.Mathlib.Decide.{dec_le}
use Rattle.he_board.specs.declared.limits.TheConstants.{LAST_TICK, NO_OFFER, PLACES}
use Rattle.he_board.specs.Notes.{key_of, winner_of}

pub key_of-tick : (tick place : ℕ) → place < PLACES → key_of tick place / PLACES ≡ tick
key_of-tick tick place near = omega arith

pub key_of-place : (tick place : ℕ) → place < PLACES → key_of tick place % PLACES ≡ place
key_of-place tick place near = omega arith

pub winner_of-key_of : (tick place : ℕ) → tick ≤ LAST_TICK → place < PLACES → winner_of (key_of tick place) ≡ Some (tick, place)
winner_of-key_of tick place early near =
    let key : ℕ = key_of tick place in
    let F : Bool → Option (ℕ × ℕ) = λ b. cond b None (Some (key / PLACES, key % PLACES)) in
    ap F (ne_eqb key NO_OFFER (λ e. absurd (omega arith))) ∙ (λ i. Some (key_of-tick tick place near i, key_of-place tick place near i))

pub key_of-below : (tick place tick' place' : ℕ) → place < PLACES → place' < PLACES → key_of tick place < key_of tick' place' → (tick < tick') ⊎ (tick ≡ tick') × (place < place')
key_of-below tick place tick' place' near near' below = dite (dec_le tick' tick)
    (λ (le : tick' ≤ tick). inr (omega arith, omega arith))
    (λ (gt : tick' ≤ tick → ⊥). inl (omega arith))

pub key_of-above : (tick place tick' place' : ℕ) → place < PLACES → place' < PLACES → (tick < tick') ⊎ (tick ≡ tick') × (place < place') → key_of tick place < key_of tick' place'
key_of-above tick place tick' place' near near' h = ⊎_elim (λ (lt : tick < tick'). omega arith) (λ (t : (tick ≡ tick') × (place < place')). omega arith) h

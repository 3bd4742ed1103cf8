-- The notes of a pass, and how each call changes them.
use Rattle.std.specs.Prelude.{ℕ, ◌+◌, ◌-◌, ◌*◌, ◌/◌, ◌%◌, ◌==◌, ◌&&◌, Bool, true, nat_lt, if◌then◌else◌, min, List, [], ◌∷◌, ◌++◌, Option, Some, None}
use Rattle.he_board.specs.declared.limits.TheConstants.{PLACES, NO_OFFER}
use Rattle.he_board.specs.declared.view.View.{View}

-- the key of an offer: of two offers the one at the lower tick has the lower key; at one tick, the one at the lower
-- place
abbrev pub key_of : ℕ → ℕ → ℕ
key_of tick place = tick * PLACES + place

-- the tick and the place of the offer whose key is the winner word; None without an offer
abbrev pub winner_of : ℕ → Option (ℕ × ℕ)
winner_of word = (if word == NO_OFFER then None else Some (word / PLACES, word % PLACES))

-- how often a number occurs in a list
abbrev pub times : ℕ → List ℕ → ℕ
times n [] = 0
times n (x ∷ xs) = (if x == n then 1 else 0) + times n xs

-- the least value noted for a race, or `NO_OFFER` if there is none
abbrev pub least_of : ℕ → List (ℕ × ℕ) → ℕ
least_of race [] = NO_OFFER
least_of race (x ∷ xs) = (if x.0 == race then min x.1 (least_of race xs) else least_of race xs)

-- the number of values noted for a race
abbrev pub count_of : ℕ → List (ℕ × ℕ) → ℕ
count_of race [] = 0
count_of race (x ∷ xs) = (if x.0 == race then 1 else 0) + count_of race xs

-- each value is below `NO_OFFER`
abbrev pub are_keys : List (ℕ × ℕ) → Bool
are_keys [] = true
are_keys (x ∷ xs) = nat_lt x.1 NO_OFFER && are_keys xs

-- a pass without notes
abbrev pub blank : ℕ → View
blank parts = record { parts = parts; taken = []; known = []; offers = []; looked = [] }

-- this pass takes the job, and so knows it to be taken
abbrev pub taking : ℕ → View → View
taking job v =
    record {
      parts = v.parts;
      taken = v.taken ++ job ∷ [];
      known = v.known ++ job ∷ [];
      offers = v.offers;
      looked = v.looked;
    }

-- the pass learns that the job is taken
abbrev pub knowing : ℕ → View → View
knowing job v =
    record { parts = v.parts; taken = v.taken; known = v.known ++ job ∷ []; offers = v.offers; looked = v.looked }

-- the pass looks at the value of a winner word
abbrev pub looking : ℕ → ℕ → View → View
looking race value v =
    record {
      parts = v.parts;
      taken = v.taken;
      known = v.known;
      offers = v.offers;
      looked = v.looked ++ (race, value) ∷ [];
    }

-- the pass offers a key to a winner word of this value
abbrev pub offering : ℕ → ℕ → ℕ → View → View
offering race key value v =
    record {
      parts = v.parts;
      taken = v.taken;
      known = v.known;
      offers = v.offers ++ (race, key) ∷ [];
      looked = v.looked ++ (race, min value key) ∷ [];
    }

-- the first pass of a fork, and the second
abbrev pub kept : View → View
kept v = record {
  parts = v.parts - v.parts / 2;
  taken = v.taken;
  known = v.known;
  offers = v.offers;
  looked = v.looked;
}

abbrev pub given : View → View
given v = blank (v.parts / 2)

-- two passes joined into one
abbrev pub joined : View → View → View
joined v w =
    record {
      parts = v.parts + w.parts;
      taken = v.taken ++ w.taken;
      known = v.known ++ w.known;
      offers = v.offers ++ w.offers;
      looked = v.looked ++ w.looked;
    }

-- Mirrors the code: the pauses that the search for a free tick still has to pass.
use Rattle.std.specs.Prelude.{ℕ, ◌&&◌, List, [], ◌∷◌, nat_lt, Bool, true}
use Rattle.he_timeline.specs.Timeline.{are_pauses}

-- pauses in order; the first one ends after the tick
abbrev pub are_ahead : ℕ → List (ℕ × ℕ) → Bool
are_ahead tick [] = true
are_ahead tick (p ∷ pauses) = nat_lt tick p.1 && are_pauses p.0 (p ∷ pauses)

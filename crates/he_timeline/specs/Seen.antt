-- The tick at which a client that pauses notices an event: the least free tick at or after it.
use Rattle.std.specs.Prelude.{ℕ, ◌≡◌, ◌≤◌, ◌&&◌, Bool, false, if◌then◌else◌, List, [], ◌∷◌, nat_le, nat_lt}
use Rattle.std.specs.List.{list_any}
use Rattle.he_timeline.specs.Race.{Race}

-- n is the least number for which P holds
pub record IsLeast (P : ℕ → Type 0) (n : ℕ) : Type 0 where
  pub holds : P n
  pub least : (m : ℕ) → P m → n ≤ m

-- a pause covers the tick
abbrev pub is_paused : List (ℕ × ℕ) → ℕ → Bool
is_paused pauses t = list_any (λ p. nat_le p.0 t && nat_lt t p.1) pauses

-- the client may act at the tick
abbrev pub IsFree : Race → ℕ → Type 0
IsFree race t = is_paused race.pauses t ≡ false

-- n is the least free tick at or after x
abbrev pub IsSeen : Race → ℕ → ℕ → Type 0
IsSeen race x = IsLeast (λ t. (x ≤ t) × IsFree race t)

-- that tick: a pause that covers it moves it to the pause's end; the pauses are in order
abbrev pub seen_past : List (ℕ × ℕ) → ℕ → ℕ
seen_past [] x = x
seen_past (p ∷ pauses) x = seen_past pauses (if nat_le p.0 x && nat_lt x p.1 then p.1 else x)

abbrev pub seen : Race → ℕ → ℕ
seen race x = seen_past race.pauses x

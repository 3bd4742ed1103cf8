-- Leading bits of numbers of a given width.
use Rattle.std.specs.Prelude.{ℕ, zero, suc, ◌-◌, ◌/◌, ◌^◌, ◌==◌, ◌<◌, ◌≤◌, Bool, if◌then◌else◌, IsTrue, IsFalse}

-- the first n of the width bits of a and of b agree
abbrev pub agrees : ℕ → ℕ → ℕ → ℕ → Bool
agrees width a b n = a / 2 ^ (width - n) == b / 2 ^ (width - n)

-- the greatest n, at most `most`, for which p holds; 0 if there is none
abbrev pub greatest : (ℕ → Bool) → ℕ → ℕ
greatest p zero = 0
greatest p (suc most) = if p (suc most) then suc most else greatest p most

-- a and b share exactly their first n leading bits
pub record IsCommon (width a b n : ℕ) : Type 0 where
  pub within : n ≤ width
  pub agree : (m : ℕ) → m ≤ n → IsTrue (agrees width a b m)
  pub differ : (m : ℕ) → n < m → m ≤ width → IsFalse (agrees width a b m)

-- n is the greatest number, at most `most`, for which p holds
pub record IsGreatest (p : ℕ → Bool) (most n : ℕ) : Type 0 where
  pub within : n ≤ most
  pub holds : IsTrue (p n)
  pub greatest : (m : ℕ) → m ≤ most → IsTrue (p m) → m ≤ n

-- if p holds for 0, `greatest` returns the greatest number for which it holds
abbrev pub GreatestIsGreatest : Type 0
GreatestIsGreatest = (p : ℕ → Bool) (most : ℕ) → IsTrue (p 0) → IsGreatest p most (greatest p most)

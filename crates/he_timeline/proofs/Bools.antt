-- Tests and what they mean.
use Rattle.std.proofs.Common.{◌≡◌, ℕ, ◌≤◌, ◌<◌, ◌⊎◌, ◌&&◌, ◌||◌, Bool, true, false, nat_le, nat_lt, refl, arith, inl, inr}
use Rattle.std.specs.Bool.{beq}
use Rattle.std.proofs.lemmas.Grind.{common_steps}

pub and_left : (a b : Bool) → (a && b) ≡ true → a ≡ true
and_left a b h = grind (arith, common_steps)

pub and_right : (a b : Bool) → (a && b) ≡ true → b ≡ true
and_right a b h = grind (arith, common_steps)

pub and_both : (a b : Bool) → a ≡ true → b ≡ true → (a && b) ≡ true
and_both a b h k = grind (arith, common_steps)

pub or_none : (a b : Bool) → a ≡ false → b ≡ false → (a || b) ≡ false
or_none a b h k = grind (arith, common_steps)

pub or_left_none : (a b : Bool) → (a || b) ≡ false → a ≡ false
or_left_none a b h = grind (arith, common_steps)

pub or_right_none : (a b : Bool) → (a || b) ≡ false → b ≡ false
or_right_none a b h = grind (arith, common_steps)

pub or_left : (a b : Bool) → a ≡ true → (a || b) ≡ true
or_left a b h = grind (arith, common_steps)

pub or_right : (a b : Bool) → b ≡ true → (a || b) ≡ true
or_right a b h = grind (arith, common_steps)

pub or_one : (a b : Bool) → (a || b) ≡ true → (a ≡ true) ⊎ (b ≡ true)
or_one true b h = inl refl
or_one false b h = inr h

pub clash : (b : Bool) → b ≡ true → b ≡ false → ⊥
clash b h k = cc

pub le_test : (m n : ℕ) → m ≤ n → nat_le m n ≡ true
le_test m n h = grind (arith, common_steps)

pub le_from : (m n : ℕ) → nat_le m n ≡ true → m ≤ n
le_from m n h = grind (arith, common_steps)

pub lt_from : (m n : ℕ) → nat_lt m n ≡ true → m < n
lt_from m n h = grind (arith, common_steps)

-- the number lies in the range from `from` to `to` - 1, or it does not
pub outside : (from to x : ℕ) → to ≤ x → (nat_le from x && nat_lt x to) ≡ false
outside from to x h = grind (arith, common_steps)

pub before : (from to x : ℕ) → x < from → (nat_le from x && nat_lt x to) ≡ false
before from to x h = grind (arith, common_steps)

pub inside : (from to x : ℕ) → (nat_le from x && nat_lt x to) ≡ true → (from ≤ x) × (x < to)
inside from to x h = (grind (arith, common_steps), grind (arith, common_steps))

pub past_end : (from to x : ℕ) → (nat_le from x && nat_lt x to) ≡ false → from ≤ x → to ≤ x
past_end from to x h after = grind (arith, common_steps)

pub above : (m n : ℕ) → nat_le m n ≡ false → n < m
above m n h = grind (arith, common_steps)

pub not_le : (m n : ℕ) → n < m → nat_le m n ≡ false
not_le m n h = grind (arith, common_steps)

pub not_lt : (m n : ℕ) → n ≤ m → nat_lt m n ≡ false
not_lt m n h = grind (arith, common_steps)

pub lt_test : (m n : ℕ) → m < n → nat_lt m n ≡ true
lt_test m n h = grind (arith, common_steps)

pub same_flags : (a b : Bool) → beq a b ≡ true → a ≡ b
same_flags true true h = refl
same_flags false false h = refl
same_flags true false h = cc
same_flags false true h = cc

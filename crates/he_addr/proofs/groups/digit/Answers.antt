-- The table is held against the definition at each of the 256 bytes, by computing.
use Rattle.std.proofs.Common.{◌≡◌, ℕ, zero, suc, ◌<◌, Bool, true, cond, eqb, ltb, ◌&&◌, get_or, List, refl, sym, ◌∙◌, arith, inl, inr}
use Rattle.std.specs.Char.{digit_value}
use Rattle.std.proofs.lemmas.Bool.{cases_eq, eqb-true, lt-ltb, and_parts}
use Rattle.he_addr.specs.declared.groups.TheConstants.{VALUES}
use Rattle.he_addr.proofs.groups.digit.Goals as goal

-- a value below 16 is that of the digit
agrees_at : List ℕ → ℕ → Bool
agrees_at table b = cond (ltb (get_or table b 0) 16) (eqb (get_or table b 0) (digit_value b)) true

agrees_below : List ℕ → ℕ → Bool
agrees_below table zero = true
agrees_below table (suc n) = agrees_at table n && agrees_below table n

agreed : (table : List ℕ) (n b : ℕ) → b < n → agrees_below table n ≡ true → agrees_at table b ≡ true
unfolding agrees_below
agreed table zero b lt h = absurd (omega arith)
agreed table (suc n) b lt h =
    let both = and_parts (agrees_at table n) (agrees_below table n) h in
    elim (cases_eq b n) [ inl same ↦ rw same both.0 | inr other ↦ agreed table n b (omega arith) both.1 ]

from_table : (table : List ℕ) (b : ℕ) → b < 256 → get_or table b 0 < 16 → agrees_below table 256 ≡ true → get_or table b 0 ≡ digit_value b
unfolding agrees_at
from_table table b lt small h =
    let at = agreed table 256 b lt h in
    eqb-true (get_or table b 0) (digit_value b) (rw (lt-ltb (get_or table b 0) 16 small) at at)

pub returns-then-value-lt16 : goal.returns-then-value-lt16
unfolding agrees_below agrees_at
returns-then-value-lt16 c =
    let small : get_or VALUES c.args.byte 0 < 16 = c.if-value-lt16.true in
    (omega (arith, small, c.from.ensures), sym (from_table VALUES c.args.byte (omega arith) small refl) ∙ sym c.from.ensures)

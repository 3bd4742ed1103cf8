-- How large a number becomes digit by digit.
use Rattle.std.proofs.Common.{ℕ, ◌+◌, ◌*◌, ◌^◌, ◌<◌, ◌≤◌, arith}
use Rattle.std.proofs.Math.Nat.{pow-le-pow_right}
use Rattle.std.proofs.lemmas.Grind.{pow_more}

-- one of 32 digits more
pub digit_fits : (value digit i : ℕ) → value < 16 ^ i → i < 32 → digit < 16 → value * 16 + digit < 2 ^ 128
digit_fits value digit i small few d =
    let grown : 16 ^ (i + 1) ≤ 16 ^ 32 = pow-le-pow_right {n = 16} (omega arith) {i = i + 1} {j = 32} (omega arith) in
    omega (arith, pow_more 16 i)

pub no_longer : (value i most : ℕ) → value < 16 ^ i → i ≤ most → value < 16 ^ most
no_longer value i most small few = omega (arith, pow-le-pow_right {n = 16} (omega arith) {i = i} {j = most} few)

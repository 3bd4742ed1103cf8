-- How large a number becomes digit by digit.
use Rattle.std.proofs.Common.{ℕ, ◌+◌, ◌*◌, ◌^◌, ◌<◌, ◌≤◌, arith}
use Rattle.std.proofs.Math.Nat.{pow-le-pow_right}
use Rattle.std.proofs.lemmas.Grind.{pow_more}

-- one of ten digits more
pub digit_fits : (value digit i : ℕ) → value < 10 ^ i → i < 10 → digit < 10 → value * 10 + digit < 2 ^ 64
digit_fits value digit i small few d =
    let grown : 10 ^ (i + 1) ≤ 10 ^ 10 = pow-le-pow_right {n = 10} (omega arith) {i = i + 1} {j = 10} (omega arith) in
    omega (arith, pow_more 10 i)

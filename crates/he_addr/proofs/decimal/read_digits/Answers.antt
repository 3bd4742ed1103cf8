use Rattle.std.proofs.Common.{◌<◌, arith}
use Rattle.he_addr.proofs.Bounds.{digit_fits}
use Rattle.he_addr.proofs.decimal.read_digits.Goals as goal

pub overflow_mul-value : goal.overflow_mul-value
overflow_mul-value c =
    let digit : c.in_ok-digit.digit < 10 = omega (arith, c.in_ok-digit.ensures.value) in
    omega (arith, digit_fits c.loop-byte.value c.in_ok-digit.digit c.loop-byte.byte-index c.loop-byte.invariant.small (omega arith) digit)

pub overflow_add-value : goal.overflow_add-value
overflow_add-value c =
    let digit : c.in_ok-digit.digit < 10 = omega (arith, c.in_ok-digit.ensures.value) in
    omega (arith, digit_fits c.loop-byte.value c.in_ok-digit.digit c.loop-byte.byte-index c.loop-byte.invariant.small (omega arith) digit)

use Rattle.std.proofs.Common.{◌<◌, arith}
use Rattle.he_kernel.proofs.HexBounds.{digit_fits, no_longer}
use Rattle.he_kernel.proofs.hex.read_hex.Goals as goal

pub overflow_mul-value : goal.overflow_mul-value
overflow_mul-value c =
    let digit : c.in_ok-digit.digit < 16 = omega (arith, c.in_ok-digit.ensures.value) in
    omega (arith, digit_fits c.loop-byte.value c.in_ok-digit.digit c.loop-byte.byte-index c.loop-byte.invariant.small (omega arith) digit)

pub overflow_add-value : goal.overflow_add-value
overflow_add-value c =
    let digit : c.in_ok-digit.digit < 16 = omega (arith, c.in_ok-digit.ensures.value) in
    omega (arith, digit_fits c.loop-byte.value c.in_ok-digit.digit c.loop-byte.byte-index c.loop-byte.invariant.small (omega arith) digit)

pub returns-clause-small : goal.returns-clause-small
returns-clause-small c = no_longer c.loop-byte.value c.loop-byte.byte-index c.args.most c.loop-byte.invariant.small (omega arith)

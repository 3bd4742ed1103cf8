use Rattle.std.proofs.Common.{arith}
use Rattle.he_addr.proofs.OctetTexts.{three_digits}
use Rattle.he_addr.proofs.dotted.three.Goals as goal

pub returns-else-number-gt255 : goal.returns-else-number-gt255
returns-else-number-gt255 c =
    let a = c.in_ok-first.ensures in
    let b = c.in_ok-second.ensures in
    let third = c.in_ok-third.ensures in (
      omega arith,
      three_digits c.args.a c.args.b c.args.c c.in_ok-first.first c.in_ok-second.second c.in_ok-third.third (omega arith) a.0 b.0 third.0 a.1 b.1 third.1,
    )

use Rattle.std.proofs.Common.{arith}
use Rattle.he_addr.proofs.OctetTexts.{two_digits}
use Rattle.he_addr.proofs.dotted.two.Goals as goal

pub returns-else-first-eq0 : goal.returns-else-first-eq0
returns-else-first-eq0 c =
    let a = c.in_ok-first.ensures in
    let b = c.in_ok-second.ensures in
    (omega (arith, a.0, b.0), two_digits c.args.a c.args.b c.in_ok-first.first c.in_ok-second.second (omega arith) a.0 b.0 a.1 b.1)

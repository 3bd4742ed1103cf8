use Rattle.std.proofs.Common.{arith}
use Rattle.he_addr.proofs.OctetTexts.{one_digit}
use Rattle.he_addr.proofs.dotted.one.Goals as goal

pub returns : goal.returns
returns c =
    let a = c.in_ok-digit.ensures in
    (omega (arith, a.0), one_digit c.args.a c.in_ok-digit.field-0 a.0 a.1)

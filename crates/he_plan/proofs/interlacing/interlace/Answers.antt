use Rattle.std.proofs.Common.{◌≤◌, length, sym, ◌∙◌, arith}
use Rattle.he_plan.proofs.Listed.{alone_two}
use Rattle.he_plan.proofs.interlacing.interlace.Goals as goal

pub returns-then-ips-le2 : goal.returns-then-ips-le2
returns-then-ips-le2 g c =
    let short : length c.args.ips.now ≤ 2 = omega (arith, c.if-ips-le2.true) in
    c.in_ok-from_slice.ensures.items ∙ sym (alone_two c.args.ips.now c.args.count short c.requires)

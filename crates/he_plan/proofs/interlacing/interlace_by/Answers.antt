use Rattle.std.proofs.Common.{◌≡◌, length, sym, ◌∙◌, ap, arith}
use Rattle.he_plan.proofs.Alternation.{alone-interlace_by}
use Rattle.he_plan.proofs.interlacing.interlace_by.Goals as goal

pub returns-then-len-ips : goal.returns-then-len-ips
returns-then-len-ips g c =
    let all : length c.in_ok-leading.leading.items ≡ length c.args.ips.now = omega (arith, c.len.ensures, c.if-len-ips.true) in
    c.in_ok-leading.ensures ∙ alone-interlace_by c.args.family c.args.ips.now c.args.count (sym (ap length c.in_ok-leading.ensures) ∙ all)

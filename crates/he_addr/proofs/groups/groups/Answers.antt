use Rattle.std.proofs.Common.{◌<◌, subst, sym, arith}
use Rattle.he_addr.specs.Sides.{IsFront}
use Rattle.he_addr.proofs.SideTexts.{begun_none, begun_more, begun_last, group_fits}
use Rattle.he_addr.proofs.groups.groups.Goals as goal

pub loop-count-init : goal.loop-count-init
loop-count-init c = begun_none c.args.text.now

pub overflow_mul-number : goal.overflow_mul-number
overflow_mul-number c =
    omega (arith, group_fits c.loop-count.number c.loop-count.count 0 c.loop-count.invariant.small (omega arith) (omega arith))

pub overflow_add-number : goal.overflow_add-number
overflow_add-number c =
    let group : c.from.result < 65536 = omega (arith, c.from.ensures, c.in_ok-value.ensures.fits) in
    omega (arith, group_fits c.loop-count.number c.loop-count.count c.from.result c.loop-count.invariant.small (omega arith) group)

pub returns-then-ends : goal.returns-then-ends
returns-then-ends c =
    let front : IsFront c.loop-count.rest.now c.in_ok-value.behind.now c.from.result =
    subst (IsFront c.loop-count.rest.now c.in_ok-value.behind.now) (sym c.from.ensures) c.in_ok-value.ensures in
    begun_last c.args.text.now c.loop-count.rest.now c.in_ok-value.behind.now c.loop-count.number c.loop-count.count c.from.result c.loop-count.invariant front (omega arith)

pub loop-count-preserved : goal.loop-count-preserved
loop-count-preserved c =
    let front : IsFront c.loop-count.rest.now c.in_ok-value.behind.now c.from.result =
    subst (IsFront c.loop-count.rest.now c.in_ok-value.behind.now) (sym c.from.ensures) c.in_ok-value.ensures in
    begun_more c.args.text.now c.loop-count.rest.now c.in_ok-value.behind.now c.in_ok-rest.rest.now c.loop-count.number c.loop-count.count c.from.result c.loop-count.invariant front c.in_ok-rest.ensures

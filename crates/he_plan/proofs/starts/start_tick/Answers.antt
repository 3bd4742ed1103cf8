use Rattle.std.proofs.Common.{◌≡◌, ◌≤◌, length, drop, Some, refl, sym, ◌∙◌, ap, subst, arith}
use Rattle.he_plan.specs.Planning.{wait_end}
use Rattle.he_plan.specs.RaceState.{IsQueue, UntriedValues}
use Rattle.he_plan.proofs.Following.{follows_delay, follows_late}
use Rattle.he_plan.proofs.starts.start_tick.Goals as goal

pub returns : goal.returns
returns g c =
    let from : c.wait_end-from.result ≡ wait_end c.args.timeline.now c.args.done.now c.in-Some.last.now = rw (c.wait_end-from.ensures, c.settings.ensures.value, c.requires.failed) refl in
    ap Some from
    ∙ follows_delay c.args.timeline.now c.settings.ensures.race c.args.done.now c.in-Some.last.now c.args.queue.now (sym c.in-Some.ensures.value) c.requires.queue (c.is_empty.ensures.some c.if-is_empty.false)

pub returns-then-is_empty : goal.returns-then-is_empty
returns-then-is_empty g c =
    let queue : UntriedValues = record { v6 = c.queue.inside.v6; v4 = c.queue.inside.v4; ips = drop c.queue.inside.next c.queue.inside.ips.items; sorted = c.queue.inside.sorted.items } in
    let over : length c.args.queue.now.ips ≤ 0 = omega (arith, c.is_empty.ensures.none c.if-is_empty.true) in
    rw (c.earlier.ensures, c.late_tick.ensures, c.late_tick-then-is_empty.ensures, c.wait_end-from.ensures, c.settings.ensures.value, c.requires.failed)
    (follows_late c.args.timeline.now c.settings.ensures.race c.args.done.now c.in-Some.last.now queue (sym c.in-Some.ensures.value)
    (subst (λ (q : UntriedValues). IsQueue c.args.timeline.now c.args.done.now q) (sym c.queue.view_is) c.requires.queue)
    (subst (λ (q : UntriedValues). length q.ips ≤ 0) (sym c.queue.view_is) over))

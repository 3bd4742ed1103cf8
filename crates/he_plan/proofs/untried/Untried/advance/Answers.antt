use Rattle.std.proofs.Common.{Result, Ok, Err, drop, sym, subst}
use Rattle.std.specs.Prelude.{OnErr}
use Rattle.he_plan.specs.RaceState.{IsAtNext, IsQueue, UntriedValues}
use Rattle.he_timeline.proofs.Bools.{same_flags}
use Rattle.he_plan.proofs.Queued.{IsQueue-sorted, anew_next, stays_next}
use Rattle.he_plan.proofs.untried.Untried.advance.Goals as goal

pub returns-then-v4-self-clause-next : goal.returns-then-v4-self-clause-next
returns-then-v4-self-clause-next g c =
    let old : UntriedValues = record { v6 = c.self.inside.v6; v4 = c.self.inside.v4; ips = drop c.self.inside.next c.self.inside.ips.items; sorted = c.self.inside.sorted.items } in
    subst (λ (q : UntriedValues). IsAtNext c.args.timeline.now c.args.done.now c.args.tick q) c.self.view_is
    (stays_next c.args.timeline.now c.args.done.now c.args.tick old c.is_included-v6.result c.is_included-v4.result c.requires.may_start c.requires.later
    (subst (λ (q : UntriedValues). IsQueue c.args.timeline.now c.args.done.now q) (sym c.self.view_is) c.requires.queue)
    c.is_included-v6.ensures c.is_included-v4.ensures (same_flags _ _ c.if-v6-self.true) (same_flags _ _ c.if-v4-self.true))

refused : {T E : Type 0} {P : Type 0} (r : Result T E) → P → OnErr r P
refused (Ok v) p = tt
refused (Err e) p = p

pub returns-in_err-ips-clause-kept : goal.returns-in_err-ips-clause-kept
returns-in_err-ips-clause-kept g c =
    let old : UntriedValues = record { v6 = c.self.inside.v6; v4 = c.self.inside.v4; ips = drop c.self.inside.next c.self.inside.ips.items; sorted = c.self.inside.sorted.items } in
    refused c.from_residual.result
    (IsQueue-sorted c.args.timeline.now c.args.done.now old c.interlaced_list.new.sorted.items
    (subst (λ (q : UntriedValues). IsQueue c.args.timeline.now c.args.done.now q) (sym c.self.view_is) c.requires.queue) c.interlaced_list.ensures.sorted)

pub returns-clause-next : goal.returns-clause-next
returns-clause-next g c =
    let old : UntriedValues = record { v6 = c.self.inside.v6; v4 = c.self.inside.v4; ips = drop c.self.inside.next c.self.inside.ips.items; sorted = c.self.inside.sorted.items } in
    let new : UntriedValues = record { v6 = c.is_included-v6.result; v4 = c.is_included-v4.result; ips = c.keep_untried.new.ips.items; sorted = c.interlaced_list.new.sorted.items } in
    rw c.put.ensures
    (anew_next c.args.timeline.now c.args.done.now c.args.tick old new c.requires.may_start c.requires.later
    (subst (λ (q : UntriedValues). IsQueue c.args.timeline.now c.args.done.now q) (sym c.self.view_is) c.requires.queue)
    c.is_included-v6.ensures c.is_included-v4.ensures c.in_ok-ips.ensures.members (rw c.in_ok-ips.ensures.value at c.in_ok-keep_untried.ensures) c.interlaced_list.ensures.sorted)

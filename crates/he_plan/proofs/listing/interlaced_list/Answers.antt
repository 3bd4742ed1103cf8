use Rattle.std.proofs.Common.{◌≤◌, ◌∙◌, length, IfOk, Result, Ok, Err, arith}
use Rattle.he_plan.specs.Planning.{parts_of}
use Rattle.he_plan.proofs.Listed.{list_kept, list_of_one, moved_parts}
use Rattle.he_plan.proofs.listing.interlaced_list.Goals as goal

pub returns-then-included_count-le1-clause-value : goal.returns-then-included_count-le1-clause-value
returns-then-included_count-le1-clause-value g c =
    let short : length (parts_of c.args.timeline.now c.args.v6 c.args.v4) ≤ 1 = omega (arith, c.included_count.ensures.all, c.if-included_count-le1.true) in
    c.in_ok-included_addresses.ensures ∙ list_of_one c.args.timeline.now c.included_count.ensures.race c.are_addresses_in_range.ensures.six c.are_addresses_in_range.ensures.four c.args.v6 c.args.v4 short

pub returns-then-included_count-le1-clause-members : goal.returns-then-included_count-le1-clause-members
returns-then-included_count-le1-clause-members g c =
    moved_parts c.args.timeline.now c.included_count.ensures.race c.are_addresses_in_range.ensures.six c.are_addresses_in_range.ensures.four c.args.v6 c.args.v4

pub returns-clause-value : goal.returns-clause-value
returns-clause-value g c =
    rw (← list_kept c.args.timeline.now c.included_count.ensures.race c.are_addresses_in_range.ensures.six c.are_addresses_in_range.ensures.four c.args.v6 c.args.v4 c.deref.result.now (c.deref.ensures.value ∙ c.in_ok-sort_once.ensures.ok))
    (rw (c.count.ensures.value, c.settings.ensures.value) at c.interlaced_part.ensures)

always : {T E P : Type 0} (r : Result T E) → P → IfOk r (λ v. P)
always (Ok v) p = p
always (Err e) p = tt

pub returns-clause-members : goal.returns-clause-members
returns-clause-members g c =
    always c.interlaced_part.result (moved_parts c.args.timeline.now c.included_count.ensures.race c.are_addresses_in_range.ensures.six c.are_addresses_in_range.ensures.four c.args.v6 c.args.v4)

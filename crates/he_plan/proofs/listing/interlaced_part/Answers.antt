use Rattle.std.proofs.Common.{◌∙◌}
use Rattle.he_plan.proofs.Listed.{part_both, part_of_four, part_of_none, part_of_six}
use Rattle.he_plan.proofs.listing.interlaced_part.Goals as goal

pub returns-in-true-true : goal.returns-in-true-true
returns-in-true-true g c = rw (c.in-true-true.is-0, c.in-true-true.is-1, part_both c.args.sorted.now) c.interlace.ensures

pub returns-in_ok-members-in-true-false : goal.returns-in_ok-members-in-true-false
returns-in_ok-members-in-true-false g c = rw (c.in-true-false.is-0, c.in-true-false.is-1) (c.in_ok-members-in-true-false.ensures ∙ part_of_six c.args.sorted.now c.args.count)

pub returns-in_ok-members-in-false-true : goal.returns-in_ok-members-in-false-true
returns-in_ok-members-in-false-true g c = rw (c.in-false-true.is-0, c.in-false-true.is-1) (c.in_ok-members-in-false-true.ensures ∙ part_of_four c.args.sorted.now c.args.count)

pub returns-in-false-false : goal.returns-in-false-false
returns-in-false-false g c = rw (c.in-false-false.is-0, c.in-false-false.is-1) (c.new.ensures.items ∙ part_of_none c.args.sorted.now c.args.count)

use Rattle.he_timeline.specs.Race.{reply_of}
use Rattle.he_plan.proofs.Listed.{part_short}
use Rattle.he_plan.proofs.listing.part_count.Goals as goal

pub returns-then-included-clause-all : goal.returns-then-included-clause-all
returns-then-included-clause-all g c = rw c.answered-addresses.ensures.value (part_short c.args.included (reply_of c.args.timeline.now c.args.family))

use Rattle.std.proofs.Common.{◌≡◌, List, length}
use Rattle.he_timeline.specs.Race.{Race}
use Rattle.he_pool.specs.Working.{ArePlans}
use Rattle.he_pool.proofs.plans.join_plans.Given as goal

abbrev pub invariant-loop-number : goal.invariant-loop-number
invariant-loop-number g l = (length l.plans.items ≡ length l.fn.plans.items)
    × (length l.others.items ≡ length l.fn.others.items)
    × ((races : List Race) → ArePlans races l.fn.plans.items → ArePlans races l.fn.others.items → ArePlans races l.plans.items × ArePlans races l.others.items)

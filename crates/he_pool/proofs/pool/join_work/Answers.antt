use Rattle.he_pool.specs.Working.{IsWorked}
use Rattle.he_pool.proofs.Joining.{worked_joined}
use Rattle.he_pool.proofs.pool.join_work.Goals as goal

pub returns : goal.returns
returns g c = λ races v w u e left right.
    let here : IsWorked races v c.in_ok-work.work.done.items c.in_ok-work.work.plans.items = rw c.in_ok-work.was at left in
    let there : IsWorked races w c.in_ok-other.other.done.items c.in_ok-other.other.plans.items = rw c.in_ok-other.was at right in
    worked_joined races v w u c.in_ok-work.work.done.items c.in_ok-other.other.done.items c.append.new.self.items c.in_ok-work.work.plans.items c.in_ok-other.other.plans.items c.join_plans.new.plans.items e c.in_ok-append.ensures.items here there (c.join_plans.ensures races here.held.planned there.held.planned)

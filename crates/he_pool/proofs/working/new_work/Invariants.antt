use Rattle.std.proofs.Common.{◌≡◌, replicate, None}
use Rattle.he_pool.proofs.working.new_work.Given as goal

abbrev pub invariant-loop : goal.invariant-loop
invariant-loop g l = l.plans.items ≡ replicate l.counter None

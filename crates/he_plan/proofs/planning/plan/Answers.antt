use Rattle.he_plan.proofs.planning.plan.Goals as goal

pub returns : goal.returns
returns g c = rw (c.new.ensures, c.into_attempts.ensures) (record { in_turn = c.loop-tick.invariant.in_turn; no_more = c.in_default.ensures.none })

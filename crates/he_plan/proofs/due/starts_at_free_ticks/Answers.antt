use Rattle.he_plan.proofs.Dueness.{starts-free, starts-stay, starts-later, starts-own, starts-waited, order-own}
use Rattle.he_plan.proofs.due.starts_at_free_ticks.Goals as goal

pub returns-clause-free : goal.returns-clause-free
returns-clause-free c = starts-free

pub returns-clause-stay : goal.returns-clause-stay
returns-clause-stay c = starts-stay

pub returns-clause-waited : goal.returns-clause-waited
returns-clause-waited c = starts-waited

pub returns-clause-later : goal.returns-clause-later
returns-clause-later c = starts-later

pub returns-clause-own : goal.returns-clause-own
returns-clause-own c = starts-own

pub returns-clause-order : goal.returns-clause-order
returns-clause-order c = order-own

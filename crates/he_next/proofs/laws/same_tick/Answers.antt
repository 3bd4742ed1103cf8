use Rattle.std.proofs.Common.{arith}
use Rattle.he_next.proofs.RunLaws.{again_at, at_the_clock, events_come_after}
use Rattle.he_next.proofs.laws.same_tick.Goals as goal

pub returns-clause-after : goal.returns-clause-after
returns-clause-after c = events_come_after

pub returns-clause-later : goal.returns-clause-later
returns-clause-later c attempts now = omega arith

pub returns-clause-clock : goal.returns-clause-clock
returns-clause-clock c = at_the_clock

pub returns-clause-again : goal.returns-clause-again
returns-clause-again c = again_at

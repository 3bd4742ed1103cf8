use Rattle.he_check.specs.Steps.{HasGone, IsOpen, steps_left}
use Rattle.he_check.proofs.counting.Counted.go_on.Given as goal

abbrev pub invariant-loop : goal.invariant-loop
invariant-loop g l = HasGone l.ending l.bytes l.fn.self l.self × IsOpen l.self

abbrev pub decreases-loop : goal.decreases-loop
decreases-loop g l = steps_left l.bytes l.self

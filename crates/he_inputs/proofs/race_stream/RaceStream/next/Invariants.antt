use Rattle.he_inputs.specs.RaceStreamSteps.{GoesOn, left_of}
use Rattle.he_inputs.proofs.race_stream.RaceStream.next.Given as goal

abbrev pub invariant-loop-self : goal.invariant-loop-self
invariant-loop-self g l = GoesOn g.I.InputStream l.fn.input l.input l.fn.self l.self

abbrev pub decreases-loop-self : goal.decreases-loop-self
decreases-loop-self g l = left_of l.self

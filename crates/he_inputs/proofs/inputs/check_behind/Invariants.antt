use Rattle.std.proofs.Common.{◌-◌, length}
use Rattle.he_inputs.specs.RaceReadingSteps.{HasFirst}
use Rattle.he_inputs.proofs.inputs.check_behind.Given as goal

abbrev pub invariant-loop-other : goal.invariant-loop-other
invariant-loop-other g l = HasFirst l.input l.fn.first l.reader

abbrev pub decreases-loop-other : goal.decreases-loop-other
decreases-loop-other g l = length l.input - l.reader.end

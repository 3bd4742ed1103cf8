use Rattle.std.proofs.Common.{◌-◌}
use Rattle.he_stream.specs.Limits.{most_reads}
use Rattle.he_inputs.specs.HeldInputs.{TakesMore}
use Rattle.he_inputs.specs.declared.race_reader.Ending.TheVariants as endings
use Rattle.he_inputs.proofs.held_input.HeldInput.take.Given as goal

abbrev pub invariant-loop-self : goal.invariant-loop-self
invariant-loop-self g l = TakesMore g.I.InputStream l.fn.input l.input l.fn.self l.self endings.Open

abbrev pub decreases-loop-self : goal.decreases-loop-self
decreases-loop-self g l = most_reads - l.self.steps

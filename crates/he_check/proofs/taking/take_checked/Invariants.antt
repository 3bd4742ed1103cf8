use Rattle.std.proofs.Common.{◌≡◌, ◌-◌}
use Rattle.he_stream.specs.Limits.{most_reads}
use Rattle.he_inputs.specs.HeldInputs.{GivesBy}
use Rattle.he_inputs.specs.declared.race_reader.Ending.TheVariants as endings
use Rattle.he_check.specs.Steps.{IsOpen, IsTaken}
use Rattle.he_check.proofs.taking.take_checked.Given as goal

-- nothing is told yet
abbrev pub invariant-loop-held : goal.invariant-loop-held
invariant-loop-held g l =
    IsTaken l.is_all l.fn.form (GivesBy g.I.InputStream l.fn.input l.input l.held.input.steps endings.Open) l.held × IsOpen l.held.counted × (l.explanation ≡ l.fn.explanation)

abbrev pub decreases-loop-held : goal.decreases-loop-held
decreases-loop-held g l = most_reads - l.held.input.steps

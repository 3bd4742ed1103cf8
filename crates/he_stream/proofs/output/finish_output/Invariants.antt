use Rattle.std.specs.Io.KnownBytes.{Keeps}
use Rattle.he_stream.specs.Output.{FlushesOn}
use Rattle.he_stream.specs.Runs.{StepsOn}
use Rattle.he_stream.proofs.output.finish_output.Given as goal

abbrev pub invariant-loop-steps : goal.invariant-loop-steps
invariant-loop-steps g l =
    Keeps (g.S.OutputStream.contents l.fn.output) (g.S.OutputStream.contents l.output)
    × StepsOn g.S.OutputStream.flushes FlushesOn l._steps l.fn.output l.output

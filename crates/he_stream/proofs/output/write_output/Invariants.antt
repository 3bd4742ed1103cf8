use Rattle.std.proofs.Common.{◌≡◌, ℕ, List, ◌++◌}
use Rattle.std.specs.Io.KnownBytes.{Appends}
use Rattle.he_stream.specs.Output.{PutsOn}
use Rattle.he_stream.specs.Runs.{StepsOn}
use Rattle.he_stream.proofs.output.write_output.Given as goal

-- the text is what the output took and then the rest
abbrev pub invariant-loop-steps : goal.invariant-loop-steps
invariant-loop-steps g l =
    ((part : List ℕ) × (l.text ≡ part ++ l.rest) × Appends (g.S.OutputStream.contents l.fn.output) (g.S.OutputStream.contents l.output) part)
    × StepsOn g.S.OutputStream.puts PutsOn l._steps l.fn.output l.output

use Rattle.std.proofs.Common.{◌+◌, ◌*◌, ◌-◌, ◌<◌, ◌≤◌, length}
use Rattle.he_stream.specs.declared.limits.TheConstants.{READ_SIZE}
use Rattle.he_stream.specs.Limits.{most_reads, read_size}
use Rattle.he_stream.specs.Output.{PutsInRounds}
use Rattle.he_inputs.specs.HeldInputs.{GivesBy}
use Rattle.he_inputs.specs.declared.race_reader.Ending.TheVariants as endings
use Rattle.he_streaming.specs.Rounds.{IsAsked, IsAt}
use Rattle.he_streaming.proofs.streaming.stream_races.Given as goal

-- the held bytes were taken and not written yet; those taken before were written and put in rounds; there is room for
-- the next step
abbrev pub invariant-loop-text : goal.invariant-loop-text
invariant-loop-text g l =
    (l.held.reader.lines + length l.held.input.bytes ≤ read_size * l.held.input.steps)
    × IsAt (IsAsked l.asked) l.held.input.bytes l.held.reader (GivesBy g.I.InputStream l.fn.input l.input l.held.input.steps endings.Open)
    (PutsInRounds g.O.OutputStream.contents g.O.OutputStream.puts g.O.OutputStream.flushes l.fn.output l.output)
    × (0 < l.held.room) × (l.held.room ≤ READ_SIZE)

abbrev pub decreases-loop-text : goal.decreases-loop-text
decreases-loop-text g l = most_reads - l.held.input.steps

use Rattle.std.proofs.Common.{◌≡◌, ◌≤◌, length}
use Rattle.he_reading.specs.Left.{lines_left, HasRoom, IsAmong}
use Rattle.he_reading.specs.Reading.{read_body}
use Rattle.he_reading.proofs.reading.read_told.Given as goal

-- reading on from here is reading from the start
abbrev pub invariant-loop-line : goal.invariant-loop-line
invariant-loop-line g l =
    (read_body l.fn.version l.fn.lines.number l.fn.first l.fn.race (lines_left l.fn.lines) ≡ read_body l.fn.version l.lines.number l.so_far l.race (lines_left l.lines))
    × HasRoom l.lines
    × (length l.lines.rest.now ≤ length l.fn.lines.rest.now)
    × IsAmong l.fn.lines l.lines

abbrev pub decreases-loop-line : goal.decreases-loop-line
decreases-loop-line g l = length l.lines.rest.now

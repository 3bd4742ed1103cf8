use Rattle.std.proofs.Common.{◌≡◌, ◌≤◌, length}
use Rattle.he_reading.specs.Left.{lines_left, HasRoom, IsAmong}
use Rattle.he_reading.specs.Reading.{read_head, group_at_start, no_head}
use Rattle.he_reading.proofs.reading.read_head.Given as goal

-- reading on from here is reading from the start
abbrev pub invariant-loop-head : goal.invariant-loop-head
invariant-loop-head g l =
    (read_head l.fn.version l.fn.lines.number group_at_start no_head (lines_left l.fn.lines) ≡ read_head l.fn.version l.lines.number l.so_far l.head (lines_left l.lines))
    × HasRoom l.lines
    × (length l.lines.rest.now ≤ length l.fn.lines.rest.now)
    × IsAmong l.fn.lines l.lines

abbrev pub decreases-loop-head : goal.decreases-loop-head
decreases-loop-head g l = length l.lines.rest.now

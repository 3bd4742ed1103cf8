use Rattle.futures.specs.Task.{Keeps}
use Rattle.he_relay.specs.Ways.{Moves}
use Rattle.he_relay.proofs.way.Way.poll_way.Given as goal

abbrev pub invariant-loop : goal.invariant-loop
invariant-loop g l =
    Moves g.R.AsyncRead.reads g.W.AsyncWrite.writes g.R.AsyncRead.is_at_end l.fn.self l.fn.reader l.fn.writer l.self l.reader l.writer
    × Keeps l.fn.cx l.cx

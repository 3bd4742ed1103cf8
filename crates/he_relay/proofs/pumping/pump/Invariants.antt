use Rattle.std.proofs.Common.{◌≡◌, length}
use Rattle.he_relay.proofs.Pumped.{Pumped}
use Rattle.he_relay.proofs.pumping.pump.Given as goal

abbrev pub invariant-loop-steps : goal.invariant-loop-steps
invariant-loop-steps g l =
    (length l.room ≡ length l.fn.room)
    × Pumped g.I.InputStream.remaining g.I.InputStream.takes g.O.OutputStream.contents g.O.OutputStream.puts g.O.OutputStream.flushes l._steps l.fn.input l.input l.fn.output l.output

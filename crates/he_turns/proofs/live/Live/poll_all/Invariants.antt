use Rattle.std.proofs.Common.{◌-◌, is_some, take, vec_len}
use Rattle.futures.specs.Task.{Keeps}
use Rattle.he_turns.specs.Listening.{AllListen}
use Rattle.he_turns.specs.Turns.{unpolled}
use Rattle.he_turns.proofs.Sweeps.{Sweeping}
use Rattle.he_turns.proofs.Turning.{Polling}
use Rattle.he_turns.proofs.live.Live.poll_all.Given as goal

abbrev pub invariant-loop-i : goal.invariant-loop-i
invariant-loop-i g l = Polling g.C.Connector g.C.Run.Trial l.fn.self.recorder l.now l.self l.i (is_some l.winner) × Sweeping g.C.Connector g.C.Run.Trial (unpolled l.fn.connector l.fn.self.recorder.recorded l.fn.self.recorder.underway.attempts) l.fn.self.unfinished.items l.now l.connector l.self.recorder.recorded l.self.recorder.underway.attempts l.self.unfinished.items l.i l.winner × Keeps l.fn.cx l.cx × AllListen g.C.Connector g.C.Run.Trial l.cx (take l.i l.self.unfinished.items)

abbrev pub decreases-loop-i : goal.decreases-loop-i
decreases-loop-i g l = vec_len l.self.unfinished - l.i

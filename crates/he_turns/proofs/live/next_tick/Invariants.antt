use Rattle.std.proofs.Common.{◌≡◌, drop}
use Rattle.he_turns.specs.Turns.{asked_tick}
use Rattle.he_turns.proofs.live.next_tick.Given as goal

abbrev pub invariant-loop-attempt : goal.invariant-loop-attempt
invariant-loop-attempt g l =
    asked_tick g.C.Connector g.C.Run.Trial l.tick (drop l.attempt-index l.unfinished) ≡ asked_tick g.C.Connector g.C.Run.Trial l.due l.fn.unfinished

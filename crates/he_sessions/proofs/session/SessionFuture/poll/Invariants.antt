use Rattle.futures.specs.Task.{Keeps}
use Rattle.he_sessions.specs.Sessions.{IsStep, MayPoll}
use Rattle.he_sessions.proofs.session.SessionFuture.poll.Given as goal

abbrev pub invariant-loop : goal.invariant-loop
invariant-loop g l =
    g.Q.Racer.serves l.self.asker.racer.now l.self.asker.address
    × (MayPoll g.Q.Racer g.Q.Race.Future g.Q.Stream.AsyncRead.reads g.Q.Stream.AsyncWrite.writes g.Q.Stream.Connection.cuts l.self l.self.state
    × (IsStep g.Q.Racer g.Q.Race.Future g.Q.Stream.AsyncRead.reads g.Q.Stream.AsyncWrite.writes g.Q.Stream.Connection.cuts l.fn.self l.fn.self.state l.self
    × Keeps l.fn.cx l.cx))

use Rattle.futures.specs.Task.{Keeps}
use Rattle.he_clients.proofs.clients.ClientsStream.poll_next.Given as goal

abbrev pub invariant-loop : goal.invariant-loop
invariant-loop g l = g.S.Stream.can_poll l.self.sockets × Keeps l.fn.cx l.cx

use Rattle.std.specs.Prelude.{◌≡◌}
use Rattle.futures.specs.Task.{Keeps}
use Rattle.he_asking.proofs.datagrams.Datagrams.poll_reply.Given as goal

abbrev pub invariant-loop : goal.invariant-loop
invariant-loop l = Keeps l.fn.cx l.cx × (l.self.id ≡ l.fn.self.id)

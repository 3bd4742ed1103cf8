use Rattle.futures.specs.Task.{Keeps}
use Rattle.he_asking.proofs.query.Query.poll_answer.Given as goal

abbrev pub invariant-loop : goal.invariant-loop
invariant-loop g l = Keeps l.fn.cx l.cx

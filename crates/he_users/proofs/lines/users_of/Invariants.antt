use Rattle.he_users.specs.Lines.{pairs}
use Rattle.he_users.proofs.Reading.{IsSoFar}
use Rattle.he_users.proofs.lines.users_of.Given as goal

abbrev pub invariant-loop-at : goal.invariant-loop-at
invariant-loop-at l = IsSoFar l.lines l.at (pairs l.users.items)

use Rattle.std.proofs.Common.{◌≡◌, drop}
use Rattle.he_select.specs.TableFaults.{shared_from}
use Rattle.he_select.proofs.policy.shared_precedence.Given as goal

abbrev pub invariant-loop-i : goal.invariant-loop-i
invariant-loop-i l = shared_from l.i (drop l.i l.rows) ≡ shared_from 0 l.rows

use Rattle.std.proofs.Common.{◌≡◌, drop}
use Rattle.std.specs.List.{position_from}
use Rattle.he_select.specs.Tables.{shares_precedence}
use Rattle.he_select.proofs.policy.sharing_row.Given as goal

abbrev pub invariant-loop-i : goal.invariant-loop-i
invariant-loop-i l = position_from (shares_precedence l.row) l.i (drop l.i l.rows) ≡ position_from (shares_precedence l.row) l.from (drop l.from l.rows)

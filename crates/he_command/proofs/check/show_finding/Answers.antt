use Rattle.std.proofs.Common.{rules}
use Rattle.he_command.proofs.Checked.{shown}
use Rattle.he_command.proofs.check.show_finding.Goals as goal

pub returns-then-put-eq-DONE : goal.returns-then-put-eq-DONE
returns-then-put-eq-DONE g c =
    shown {O = g.row.O.Denot} g.O.OutputStream c.shown_line.result.now c.args.finding.now.status c.put_all-put.result _ _ c.put_all-put.ensures (search rules)

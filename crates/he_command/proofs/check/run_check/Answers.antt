use Rattle.he_command.proofs.Checked.{found}
use Rattle.he_command.proofs.check.run_check.Goals as goal

pub returns-in-Some : goal.returns-in-Some
returns-in-Some g c =
    let finding = c.race_finding-finding.result in
    let judged = c.race_finding-finding.ensures in
    let raced = c.in-Some.ensures in (
      finding.status,
      found _ _ c.args.environment c.args.connection.now c.in-Some.run'.text.items c.deref.result.now c.warn_of.result finding.status c.warn_of.ensures c.deref.ensures.value raced judged,
      c.show_finding.ensures,
    )

use Rattle.he_command.proofs.Ended.{was_kept}
use Rattle.he_command.proofs.names.keep_lines.Goals as goal

pub returns-in-Ok : goal.returns-in-Ok
returns-in-Ok g c = was_kept _ c.args.text c.in-Ok.text c.deref.result.now c.write_record.result c.in-Ok.is c.deref.ensures.value c.write_record.ensures

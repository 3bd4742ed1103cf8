use Rattle.std.proofs.Common.{sym}
use Rattle.he_reading.specs.Left.{tokens_left}
use Rattle.he_reading.proofs.FormLaws.{pause_of_two}
use Rattle.he_reading.proofs.forms.pause.Goals as goal

pub returns-in_default : goal.returns-in_default
returns-in_default c = sym (pause_of_two (tokens_left c.args.tokens) c.in_default.ensures)

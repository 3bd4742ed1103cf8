use Rattle.std.proofs.Common.{sym}
use Rattle.he_reading.specs.Left.{tokens_left}
use Rattle.he_reading.proofs.FormLaws.{setting_of_two}
use Rattle.he_reading.proofs.forms.setting.Goals as goal

pub returns-in_default : goal.returns-in_default
returns-in_default c = sym (setting_of_two (tokens_left c.args.tokens) c.in_default.ensures)

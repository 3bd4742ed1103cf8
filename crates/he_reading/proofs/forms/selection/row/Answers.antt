use Rattle.std.proofs.Common.{sym}
use Rattle.he_reading.specs.Left.{tokens_left}
use Rattle.he_reading.proofs.FormLaws.{row_of_three}
use Rattle.he_reading.proofs.forms.selection.row.Goals as goal

pub returns-in_default : goal.returns-in_default
returns-in_default c = sym (row_of_three (tokens_left c.args.tokens) c.in_default.ensures)

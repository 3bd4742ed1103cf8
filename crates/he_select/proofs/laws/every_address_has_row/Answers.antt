use Rattle.he_select.proofs.LawsOfOrder.{row_law}
use Rattle.he_select.proofs.laws.every_address_has_row.Goals as goal

pub returns : goal.returns
returns c = row_law

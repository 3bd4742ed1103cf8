use Rattle.he_totals.proofs.Sums.{sums_add_up}
use Rattle.he_totals.proofs.laws.sums_add_up.Goals as goal

pub returns : goal.returns
returns c = sums_add_up

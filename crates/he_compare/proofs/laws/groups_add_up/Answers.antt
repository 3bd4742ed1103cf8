use Rattle.he_compare.proofs.Summed.{groups_add_up}
use Rattle.he_compare.proofs.laws.groups_add_up.Goals as goal

pub returns : goal.returns
returns c = groups_add_up

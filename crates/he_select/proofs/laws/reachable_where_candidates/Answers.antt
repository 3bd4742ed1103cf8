use Rattle.he_select.proofs.LawsOfOrder.{reachable_law}
use Rattle.he_select.proofs.laws.reachable_where_candidates.Goals as goal

pub returns : goal.returns
returns c = reachable_law

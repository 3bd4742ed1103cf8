use Rattle.he_select.proofs.Filtered.{filtered_order}
use Rattle.he_select.proofs.laws.order_of_filter.Goals as goal

pub returns : goal.returns
returns c = filtered_order

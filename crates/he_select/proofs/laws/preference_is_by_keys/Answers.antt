use Rattle.he_select.proofs.LawsOfOrder.{preference_by_keys, preference_orders}
use Rattle.he_select.proofs.laws.preference_is_by_keys.Goals as goal

pub returns : goal.returns
returns c = record { keys = preference_by_keys; order = preference_orders }

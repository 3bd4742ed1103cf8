use Rattle.he_totals.proofs.Sums.{addresses_add_up, losses_add_up}
use Rattle.he_totals.proofs.laws.losses_add_up.Goals as goal

pub returns-clause-addresses : goal.returns-clause-addresses
returns-clause-addresses c = addresses_add_up

pub returns-clause-races : goal.returns-clause-races
returns-clause-races c = losses_add_up

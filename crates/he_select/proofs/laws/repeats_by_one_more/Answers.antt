use Rattle.he_select.specs.Hosts.{same_route, same_source}
use Rattle.he_select.specs.Tables.{same_row}
use Rattle.he_select.proofs.Repeats.{repeats_law}
use Rattle.he_select.proofs.laws.repeats_by_one_more.Goals as goal

pub returns : goal.returns
returns c = record { rows = repeats_law same_row; sources = repeats_law same_source; routes = repeats_law same_route }

use Rattle.std.proofs.Common.{vec_items}
use Rattle.he_totals.proofs.Hosted.{no_hosts}
use Rattle.he_totals.proofs.hosts.Hosts.none.Goals as goal

pub returns-clause-named : goal.returns-clause-named
returns-clause-named g c = no_hosts vec_items c.new.result.keys c.new-2.result.items c.none.result c.new.ensures.empty c.new-2.ensures.items

use Rattle.he_select.proofs.Equality.{decided, hosts_decide}
use Rattle.he_select.proofs.host.HostPartialEq.eq.Goals as goal

pub returns-clause-lists : goal.returns-clause-lists
returns-clause-lists g c = decided (hosts_decide c.args.self.now c.args.other.now) c.has_lists_of.ensures

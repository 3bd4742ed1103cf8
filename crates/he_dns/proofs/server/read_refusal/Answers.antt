use Rattle.he_dns.proofs.ServerLaws.{none_refuses, some_refuses}
use Rattle.he_dns.proofs.server.read_refusal.Goals as goal

pub returns-clause-some : goal.returns-clause-some
returns-clause-some c = some_refuses _ _ _ c.find_refusal.ensures

pub returns-clause-none : goal.returns-clause-none
returns-clause-none c = none_refuses _ _ _ c.find_refusal.ensures

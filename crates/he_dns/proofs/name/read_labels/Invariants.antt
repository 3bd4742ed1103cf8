use Rattle.std.proofs.Common.{length}
use Rattle.he_dns.proofs.Labels.{AreLeft}
use Rattle.he_dns.proofs.name.read_labels.Given as goal

abbrev pub invariant-loop-at : goal.invariant-loop-at
invariant-loop-at g l = AreLeft l.octets.items l.rest l.body

abbrev pub decreases-loop-at : goal.decreases-loop-at
decreases-loop-at g l = length l.rest

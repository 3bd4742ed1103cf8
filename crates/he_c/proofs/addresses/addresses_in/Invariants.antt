use Rattle.std.proofs.Common.{length}
use Rattle.he_c.proofs.AddressLaws.{IsReadTo}
use Rattle.he_c.proofs.addresses.addresses_in.Given as goal

abbrev pub invariant-loop-rest : goal.invariant-loop-rest
invariant-loop-rest l = IsReadTo l.fn.family l.fn.bytes l.rest l.ips.items

abbrev pub decreases-loop-rest : goal.decreases-loop-rest
decreases-loop-rest l = length l.rest

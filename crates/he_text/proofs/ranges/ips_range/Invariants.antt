use Rattle.he_addr.specs.Ip.{InRange}
use Rattle.he_text.proofs.ranges.ips_range.Given as goal
use Rattle.std.specs.List.{AllWithin}

abbrev pub invariant-loop-ip : goal.invariant-loop-ip
invariant-loop-ip l = AllWithin InRange l.ips 0 l.ip-index

use Rattle.std.specs.List.{AllWithin}
use Rattle.he_addr.specs.Ip.{InRange}
use Rattle.he_timeline.proofs.timeline.see_ranges.Given as goal

abbrev pub invariant-loop-ip : goal.invariant-loop-ip
invariant-loop-ip l = AllWithin InRange l.ips 0 l.ip-index

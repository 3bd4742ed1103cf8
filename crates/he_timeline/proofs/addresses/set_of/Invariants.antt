use Rattle.std.proofs.Common.{◌≡◌, true, take}
use Rattle.he_timeline.specs.Timeline.{are_distinct}
use Rattle.he_timeline.proofs.addresses.set_of.Given as goal

abbrev pub invariant-loop-ip : goal.invariant-loop-ip
invariant-loop-ip g l = record {
  keys : l.found.keys ≡ take l.ip-index l.ips;
  distinct : are_distinct (take l.ip-index l.ips) ≡ true;
}

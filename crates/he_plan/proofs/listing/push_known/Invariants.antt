use Rattle.std.proofs.Common.{◌≡◌, ◌++◌, filter, map, take}
use Rattle.he_addr.specs.Ip.{is_usable}
use Rattle.he_timeline.specs.Race.{known_of}
use Rattle.he_plan.proofs.listing.push_known.Given as goal

abbrev pub invariant-loop-ip : goal.invariant-loop-ip
invariant-loop-ip g l = l.known.items ≡ l.initial.known.items ++ map (known_of l.timeline.history) (filter is_usable (take l.ip-index l.addresses))

use Rattle.std.proofs.Common.{◌≡◌, take}
use Rattle.he_timeline.proofs.history.set_of.Given as goal

abbrev pub invariant-loop-ip : goal.invariant-loop-ip
invariant-loop-ip g l = l.set.keys ≡ take l.ip-index l.ips

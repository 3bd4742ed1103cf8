use Rattle.std.proofs.Common.{◌≡◌, filter, take}
use Rattle.he_timeline.specs.Timeline.{is_of}
use Rattle.he_plan.proofs.interlacing.members.Given as goal

abbrev pub invariant-loop-ip : goal.invariant-loop-ip
invariant-loop-ip g l = l.members.items ≡ filter (is_of l.family) (take l.ip-index l.ips)

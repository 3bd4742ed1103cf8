use Rattle.std.proofs.Common.{◌≡◌, filter, not, take}
use Rattle.he_timeline.specs.Timeline.{is_of}
use Rattle.he_plan.proofs.interlacing.others.Given as goal

abbrev pub invariant-loop-ip : goal.invariant-loop-ip
invariant-loop-ip g l = l.others.items ≡ filter (λ ip. not (is_of l.family ip)) (take l.ip-index l.ips)

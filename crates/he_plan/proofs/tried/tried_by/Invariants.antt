use Rattle.std.proofs.Common.{◌≡◌, take}
use Rattle.he_addr.specs.declared.ip.Ip.{Ip}
use Rattle.he_plan.specs.Attempts.{is_tried}
use Rattle.he_timeline.specs.Race.{has_ip}
use Rattle.he_plan.proofs.tried.tried_by.Given as goal

abbrev pub invariant-loop-attempt : goal.invariant-loop-attempt
invariant-loop-attempt g l = (ip : Ip) → has_ip ip l.tried.keys ≡ is_tried (take l.attempt-index l.done) ip

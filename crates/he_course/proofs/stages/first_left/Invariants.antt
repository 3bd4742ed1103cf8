use Rattle.std.proofs.Common.{◌≡◌, false, take}
use Rattle.std.specs.List.{list_any}
use Rattle.he_course.specs.Accounts.{is_left}
use Rattle.he_course.proofs.stages.first_left.Given as goal

abbrev pub invariant-loop-place : goal.invariant-loop-place
invariant-loop-place l = list_any (is_left l.started) (take l.place l.ips) ≡ false

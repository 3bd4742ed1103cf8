use Rattle.std.proofs.Common.{◌≡◌, drop}
use Rattle.he_host.specs.Placing.{asked_for}
use Rattle.he_host.proofs.placing.find_asked.Given as goal

abbrev pub invariant-loop-told : goal.invariant-loop-told
invariant-loop-told l = asked_for l.ip (drop l.told-index l.asked) ≡ asked_for l.ip l.asked

use Rattle.std.proofs.Common.{◌≡◌, map, take}
use Rattle.he_select.specs.Selection.{nothing_known}
use Rattle.he_turns.proofs.answers.nothing_known.Given as goal

abbrev pub invariant-loop-ip : goal.invariant-loop-ip
invariant-loop-ip l = l.known.items ≡ map nothing_known (take l.ip-index l.addresses)

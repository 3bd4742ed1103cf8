use Rattle.std.proofs.Common.{◌≡◌, take}
use Rattle.he_compare.specs.Worst.{worst_of}
use Rattle.he_compare.proofs.worst.worst_of.Given as goal

abbrev pub invariant-loop-group : goal.invariant-loop-group
invariant-loop-group l = l.worst ≡ worst_of (take l.group-index l.groups)

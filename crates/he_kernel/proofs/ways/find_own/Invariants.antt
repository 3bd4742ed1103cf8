use Rattle.std.proofs.Common.{◌≡◌, drop}
use Rattle.he_kernel.specs.Ways.{own_of}
use Rattle.he_kernel.proofs.ways.find_own.Given as goal

abbrev pub invariant-loop-one : goal.invariant-loop-one
invariant-loop-one l = own_of l.ip (drop l.one-index l.own) ≡ own_of l.ip l.own

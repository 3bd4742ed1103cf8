use Rattle.std.proofs.Common.{◌≡◌, ◌++◌, filter}
use Rattle.he_totals.specs.Tries.{has_lost}
use Rattle.he_totals.proofs.tallies.Tallies.failing.Given as goal

abbrev pub invariant-loop-ip : goal.invariant-loop-ip
invariant-loop-ip g l = l.failing.items ++ filter has_lost l.ip-iterator ≡ filter has_lost l.self

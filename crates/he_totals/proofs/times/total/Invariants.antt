use Rattle.std.proofs.Common.{◌≡◌, take}
use Rattle.he_totals.specs.Times.{total}
use Rattle.he_totals.proofs.times.total.Given as goal

abbrev pub invariant-loop-number : goal.invariant-loop-number
invariant-loop-number l = l.sum ≡ total (take l.number-index l.numbers)

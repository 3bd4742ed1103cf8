use Rattle.std.proofs.Common.{◌≡◌, map, take}
use Rattle.he_totals.specs.Times.{total}
use Rattle.he_totals.specs.Totals.{share_of}
use Rattle.he_totals.proofs.totals.sum_of.Given as goal

abbrev pub invariant-loop-race : goal.invariant-loop-race
invariant-loop-race l = l.sum ≡ total (map (λ race. share_of l.share race.times) (take l.race-index l.kept))

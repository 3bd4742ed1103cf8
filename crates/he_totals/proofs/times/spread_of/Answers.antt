use Rattle.he_totals.proofs.Percentiles.{spread_moved}
use Rattle.he_totals.proofs.times.spread_of.Goals as goal

pub returns : goal.returns
returns g c =
    spread_moved c.args.numbers.now.items c.sort_unstable.new.self.items c.spread_of_sorted.result c.sort_unstable.ensures.permutation
    (rw c.as_slice.ensures.value at c.spread_of_sorted.ensures)

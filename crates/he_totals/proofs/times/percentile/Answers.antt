use Rattle.std.proofs.Common.{ℕ}
use Rattle.std.proofs.lemmas.List.Sorted.{IsNonDecreasingBy-from_sort}
use Rattle.he_totals.proofs.Percentiles.{nearest_rank, rank_fits}
use Rattle.he_totals.proofs.times.percentile.Goals as goal

pub returns : goal.returns
returns c =
    let fits = rank_fits _ c.args.percent c.div_ceil-rank.result c.requires.some c.requires.least c.requires.most c.div_ceil-rank.ensures in
    nearest_rank c.args.sorted.now c.args.percent c.div_ceil-rank.result (IsNonDecreasingBy-from_sort (λ (x : ℕ). x) c.args.sorted.now c.requires.sorted) fits.0 fits.1 fits.2 fits.3

use Rattle.std.proofs.Common.{◌*◌, ◌+◌, ◌-◌}
use Rattle.he_pool.proofs.pool.+workers.Given as goal

abbrev pub decreases-run_halves-join+arg2 : goal.decreases-run_halves-join+arg2
decreases-run_halves-join+arg2 g l = 4 * l.near.count + 1

abbrev pub decreases-run_halves-join+arg3 : goal.decreases-run_halves-join+arg3
decreases-run_halves-join+arg3 g l = 4 * l.far.count + 1

abbrev pub decreases-run_halves : goal.decreases-run_halves
decreases-run_halves g l = 4 * (l.near.count + l.far.count) - 1

abbrev pub decreases-run_range : goal.decreases-run_range
decreases-run_range g l = 4 * l.range.count

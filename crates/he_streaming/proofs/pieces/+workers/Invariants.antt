use Rattle.std.proofs.Common.{◌*◌, ◌+◌, ◌-◌}
use Rattle.he_streaming.proofs.pieces.+workers.Given as goal

abbrev pub decreases-run_halves-join+arg2 : goal.decreases-run_halves-join+arg2
decreases-run_halves-join+arg2 g l = 4 * l.near.workers + 1

abbrev pub decreases-run_halves-join+arg3 : goal.decreases-run_halves-join+arg3
decreases-run_halves-join+arg3 g l = 4 * l.far.workers + 1

abbrev pub decreases-run_halves : goal.decreases-run_halves
decreases-run_halves g l = 4 * (l.near.workers + l.far.workers) - 1

abbrev pub decreases-run_workers : goal.decreases-run_workers
decreases-run_workers g l = 4 * l.crew.workers

use Rattle.std.proofs.Common.{length}
use Rattle.he_tasks.proofs.files.+run_files.Given as goal

abbrev pub decreases-run_files : goal.decreases-run_files
decreases-run_files g l = length l.names.now

use Rattle.std.proofs.Common.{◌≡◌, ◌*◌, ◌≤◌, take}
use Rattle.he_board.specs.declared.limits.TheConstants.{PLACES}
use Rattle.he_pool.specs.Batch.{batch_jobs}
use Rattle.he_pool.proofs.jobs.batch_jobs.Given as goal

abbrev pub invariant-loop-timeline : goal.invariant-loop-timeline
invariant-loop-timeline g l = (l.jobs ≡ batch_jobs (take l.timeline-index l.timelines)) × (l.jobs ≤ l.timeline-index * PLACES)

use Rattle.std.proofs.Common.{◌≡◌, ◌*◌, ◌≤◌, take, All}
use Rattle.he_board.specs.declared.limits.TheConstants.{PLACES}
use Rattle.he_pool.specs.Batch.{batch_jobs, job_count}
use Rattle.he_pool.specs.Working.{firsts_from}
use Rattle.he_pool.proofs.jobs.first_jobs.Given as goal

abbrev pub invariant-loop-timeline : goal.invariant-loop-timeline
invariant-loop-timeline g l = (l.firsts.items ≡ firsts_from 0 (take l.timeline-index l.timelines))
    × (l.jobs ≡ batch_jobs (take l.timeline-index l.timelines))
    × (l.jobs ≤ l.timeline-index * PLACES)
    × All (λ race. job_count race ≤ PLACES) (take l.timeline-index l.timelines)

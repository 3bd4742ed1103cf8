use Rattle.he_pool.proofs.Trying.{jobs_next}
use Rattle.he_pool.proofs.jobs.batch_jobs.Goals as goal

pub loop-timeline-preserved : goal.loop-timeline-preserved
loop-timeline-preserved g c = jobs_next c.args.timelines.now c.loop-timeline.timeline-index c.timeline-item.result c.loop-timeline.jobs c.job_count-jobs.result c.loop-timeline-test.true c.timeline-item.is c.loop-timeline.invariant.0 c.loop-timeline.invariant.1 c.job_count-jobs.ensures.value c.job_count-jobs.ensures.few

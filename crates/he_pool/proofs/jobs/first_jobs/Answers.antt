use Rattle.std.proofs.Common.{List, arith, ◌≡◌, ◌∙◌, ◌≤◌, ap, take, subst}
use Rattle.std.specs.List.{All}
use Rattle.std.proofs.lemmas.List.{take_all}
use Rattle.he_board.specs.declared.limits.TheConstants.{PLACES}
use Rattle.he_timeline.specs.Race.{Race}
use Rattle.he_pool.specs.Batch.{job_count}
use Rattle.he_pool.specs.Working.{firsts_from}
use Rattle.he_pool.proofs.Trying.{firsts_next}
use Rattle.he_pool.proofs.jobs.first_jobs.Goals as goal

pub loop-timeline-preserved : goal.loop-timeline-preserved
loop-timeline-preserved g c =
    firsts_next c.args.timelines.now c.loop-timeline.timeline-index c.timeline-item.result c.loop-timeline.firsts.items _ c.loop-timeline.jobs c.job_count-jobs.result c.loop-timeline-test.true c.timeline-item.is c.loop-timeline.invariant.0 c.loop-timeline.invariant.1 c.loop-timeline.invariant.2 c.loop-timeline.invariant.3 c.job_count-jobs.ensures.value c.job_count-jobs.ensures.few c.in_ok-push-2.ensures.items

pub returns-clause-firsts : goal.returns-clause-firsts
returns-clause-firsts g c =
    let all : take c.loop-timeline.timeline-index c.args.timelines.now ≡ c.args.timelines.now = take_all _ _ (let a = c.loop-timeline-test.false in omega arith) in
    c.loop-timeline.invariant.0 ∙ ap (firsts_from 0) all

pub returns-clause-few : goal.returns-clause-few
returns-clause-few g c =
    let all : take c.loop-timeline.timeline-index c.args.timelines.now ≡ c.args.timelines.now = take_all _ _ (let a = c.loop-timeline-test.false in omega arith) in
    subst (λ (races : List Race). All (λ race. job_count race ≤ PLACES) races) all c.loop-timeline.invariant.3

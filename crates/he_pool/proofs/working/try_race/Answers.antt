use Rattle.std.proofs.Common.{arith, ◌≡◌, ◌<◌, length}
use Rattle.he_board.specs.Passes.{notes}
use Rattle.he_pool.proofs.Trying.{more-end, more-then, plans-length, trying_held, trying_next, trying_tried}
use Rattle.he_pool.proofs.working.try_race.Goals as goal

pub returns-in_err-made-clause-more : goal.returns-in_err-made-clause-more
returns-in_err-made-clause-more g c = more-then (notes c.args.pass.now).known (notes c.loop-place.pass).known _ c.loop-place.invariant.1.more (more-end _ _ _ c.try_job.ensures.known)

pub loop-place-preserved : goal.loop-place-preserved
loop-place-preserved g c = (c.try_job.ensures.own, trying_next c.args.batch.now.timelines.now c.args.number c.loop-place.place (notes c.args.pass.now) (notes c.loop-place.pass) _ c.loop-place.work.done.items _ c.loop-place.work.plans.items c.loop-place.made _ c.jobs_of_race-first.result.0 c.jobs_of_race-first.ensures.first c.loop-place.invariant.1 c.try_job.ensures.parts c.try_job.ensures.known c.try_job.ensures.real c.in_ok-made.ensures.sound c.in_ok-made.ensures.planned)

pub index_mut-requires : goal.index_mut-requires
index_mut-requires g c =
    let same : length c.loop-place.work.plans.items ≡ length c.args.batch.now.timelines.now = plans-length c.args.batch.now.timelines.now c.loop-place.work.plans.items c.loop-place.invariant.1.held.planned in
    let lt : c.args.number < length c.args.batch.now.timelines.now = c.requires.number in
    omega arith

pub returns-clause-tried : goal.returns-clause-tried
returns-clause-tried g c = trying_tried c.args.batch.now.timelines.now c.args.number c.loop-place.place (notes c.args.pass.now) (notes c.loop-place.pass) c.loop-place.work.done.items c.loop-place.work.plans.items c.loop-place.made c.loop-place.invariant.1 (let end = c.jobs_of_race-first.ensures.end in let first = c.jobs_of_race-first.ensures.first in let test = c.loop-place-test.false in let most = c.loop-place.auto.place-end in omega arith)

pub returns-clause-held : goal.returns-clause-held
returns-clause-held g c = trying_held c.args.batch.now.timelines.now c.args.number c.loop-place.place (notes c.args.pass.now) (notes c.loop-place.pass) c.loop-place.work.done.items c.loop-place.work.plans.items c.loop-place.made c.loop-place.invariant.1

use Rattle.std.proofs.Common.{arith, ◌+◌}
use Rattle.he_pool.proofs.Trying.{are_jobs, first_is, first_within, jobs_le}
use Rattle.he_pool.proofs.working.jobs_of_race.Goals as goal

pub bounds-batch-number : goal.bounds-batch-number
bounds-batch-number g c = first_within c.args.batch.now.timelines.now c.args.batch.now.firsts.now c.args.number c.requires.ready.numbers (let lt = c.requires.number in omega arith)

pub bounds-batch-number-2 : goal.bounds-batch-number-2
bounds-batch-number-2 g c = first_within c.args.batch.now.timelines.now c.args.batch.now.firsts.now (c.args.number + 1) c.requires.ready.numbers (let lt = c.requires.number in omega arith)

pub overflow_sub-result : goal.overflow_sub-result
overflow_sub-result g c =
    let low = first_is c.args.batch.now.timelines.now c.args.batch.now.firsts.now c.args.number 0 c.requires.ready.numbers (let lt = c.requires.number in omega arith) in
    let high = first_is c.args.batch.now.timelines.now c.args.batch.now.firsts.now (c.args.number + 1) 0 c.requires.ready.numbers (let lt = c.requires.number in omega arith) in
    let le = jobs_le c.args.batch.now.timelines.now c.args.number c.requires.number in
    omega arith

pub returns-clause-first : goal.returns-clause-first
returns-clause-first g c = first_is c.args.batch.now.timelines.now c.args.batch.now.firsts.now c.args.number 0 c.requires.ready.numbers (let lt = c.requires.number in omega arith)

pub returns-clause-end : goal.returns-clause-end
returns-clause-end g c = (are_jobs c.args.batch.now.timelines.now c.args.number _ _ c.requires.number c.requires.ready.few (first_is c.args.batch.now.timelines.now c.args.batch.now.firsts.now c.args.number 0 c.requires.ready.numbers (let lt = c.requires.number in omega arith)) (first_is c.args.batch.now.timelines.now c.args.batch.now.firsts.now (c.args.number + 1) 0 c.requires.ready.numbers (let lt = c.requires.number in omega arith))).end

pub returns-clause-few : goal.returns-clause-few
returns-clause-few g c = (are_jobs c.args.batch.now.timelines.now c.args.number _ _ c.requires.number c.requires.ready.few (first_is c.args.batch.now.timelines.now c.args.batch.now.firsts.now c.args.number 0 c.requires.ready.numbers (let lt = c.requires.number in omega arith)) (first_is c.args.batch.now.timelines.now c.args.batch.now.firsts.now (c.args.number + 1) 0 c.requires.ready.numbers (let lt = c.requires.number in omega arith))).few

pub returns-clause-below : goal.returns-clause-below
returns-clause-below g c = (are_jobs c.args.batch.now.timelines.now c.args.number _ _ c.requires.number c.requires.ready.few (first_is c.args.batch.now.timelines.now c.args.batch.now.firsts.now c.args.number 0 c.requires.ready.numbers (let lt = c.requires.number in omega arith)) (first_is c.args.batch.now.timelines.now c.args.batch.now.firsts.now (c.args.number + 1) 0 c.requires.ready.numbers (let lt = c.requires.number in omega arith))).below

pub returns-clause-at : goal.returns-clause-at
returns-clause-at g c = (are_jobs c.args.batch.now.timelines.now c.args.number _ _ c.requires.number c.requires.ready.few (first_is c.args.batch.now.timelines.now c.args.batch.now.firsts.now c.args.number 0 c.requires.ready.numbers (let lt = c.requires.number in omega arith)) (first_is c.args.batch.now.timelines.now c.args.batch.now.firsts.now (c.args.number + 1) 0 c.requires.ready.numbers (let lt = c.requires.number in omega arith))).at

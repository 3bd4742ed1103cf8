use Rattle.std.proofs.Common.{List, sym, subst, ℕ}
use Rattle.std.specs.Prelude.{All}
use Rattle.std.proofs.lemmas.Option.{slice_get-get_or}
use Rattle.he_board.specs.Passes.{notes}
use Rattle.he_pool.specs.Batch.{IsOfSuccess}
use Rattle.he_pool.proofs.Pooling.{known_sound, taken_sound, honest_at, planned_at}
use Rattle.he_pool.proofs.working.try_job.Goals as goal

pub returns-then-not-take-clause-sound : goal.returns-then-not-take-clause-sound
returns-then-not-take-clause-sound g c = known_sound c.args.batch.now.timelines.now c.args.job (notes c.args.pass.now) _ _ c.if-not-take.ensures.noted c.requires.sound

pub plan_of-requires : goal.plan_of-requires
plan_of-requires g c = c.requires.planned _ (slice_get-get_or c.args.batch.now.timelines.now c.args.number c.index-batch-number.result c.requires.number)

pub returns-then-not-take-clause-real : goal.returns-then-not-take-clause-real
returns-then-not-take-clause-real g c = subst (λ (xs : List (ℕ × ℕ)). All (IsOfSuccess c.args.batch.now.timelines.now) xs) (sym c.take.ensures.offers) c.requires.real

pub returns-in_err-attempts-clause-real : goal.returns-in_err-attempts-clause-real
returns-in_err-attempts-clause-real g c = subst (λ (xs : List (ℕ × ℕ)). All (IsOfSuccess c.args.batch.now.timelines.now) xs) (sym c.take.ensures.offers) c.requires.real

pub returns-in_err-push-clause-real : goal.returns-in_err-push-clause-real
returns-in_err-push-clause-real g c = c.run_job-fate.ensures.real c.args.batch.now.timelines.now (slice_get-get_or c.args.batch.now.timelines.now c.args.number c.index-batch-number.result c.requires.number) (subst (λ (xs : List (ℕ × ℕ)). All (IsOfSuccess c.args.batch.now.timelines.now) xs) (sym c.take.ensures.offers) c.requires.real)

pub returns-clause-real : goal.returns-clause-real
returns-clause-real g c = c.run_job-fate.ensures.real c.args.batch.now.timelines.now (slice_get-get_or c.args.batch.now.timelines.now c.args.number c.index-batch-number.result c.requires.number) (subst (λ (xs : List (ℕ × ℕ)). All (IsOfSuccess c.args.batch.now.timelines.now) xs) (sym c.take.ensures.offers) c.requires.real)

pub returns-clause-planned : goal.returns-clause-planned
returns-clause-planned g c = planned_at c.args.batch.now.timelines.now c.args.number _ c.in_ok-attempts.attempts (slice_get-get_or c.args.batch.now.timelines.now c.args.number c.index-batch-number.result c.requires.number) c.in_ok-attempts.ensures.are

pub returns-clause-sound : goal.returns-clause-sound
returns-clause-sound g c =
    taken_sound c.args.batch.now.timelines.now c.args.job c.run_job-fate.result (notes c.args.pass.now) (notes c.take.new.pass) (notes c.run_job-fate.new.pass) c.args.done.now.items _ c.if-not-take.ensures.noted c.run_job-fate.ensures.later c.run_job-fate.ensures.taken c.in_ok-push.ensures.items c.requires.sound c.requires.below
    (honest_at c.args.batch.now.timelines.now _ c.in_ok-attempts.attempts c.args.number c.args.place c.args.job _ _ (slice_get-get_or c.args.batch.now.timelines.now c.args.number c.index-batch-number.result c.requires.number) c.in_ok-attempts.ensures.are c.requires.is c.run_job-fate.ensures.honest)

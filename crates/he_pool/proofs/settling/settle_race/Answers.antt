use Rattle.std.proofs.Common.{arith, ◌∙◌, sym}
use Rattle.std.proofs.lemmas.Option.{slice_get-get_or}
use Rattle.he_board.specs.Passes.{notes}
use Rattle.he_pool.proofs.Handing.{enough, if_ok_all, race_settled, told_of, won_by}
use Rattle.he_pool.proofs.settling.settle_race.Goals as goal

pub plan_once-requires : goal.plan_once-requires
plan_once-requires g c = c.requires.made _ (slice_get-get_or c.args.batch.now.timelines.now c.args.number _ c.requires.number)

pub tell-requires-clause-enough : goal.tell-requires-clause-enough
tell-requires-clause-enough g c =
    let le = enough c.args.batch.now.timelines.now _ c.args.number (notes c.args.pass.now) c.in_ok-attempts.attempts c.args.fates.now (slice_get-get_or c.args.batch.now.timelines.now c.args.number c.index-batch-number.result c.requires.number) c.in_ok-attempts.ensures.are c.requires.fates in
    let first = c.jobs_of_race-first.ensures.first in
    omega arith

pub tell-requires-clause-told : goal.tell-requires-clause-told
tell-requires-clause-told g c =
    (race_settled c.args.batch.now.timelines.now _ c.args.number c.jobs_of_race-first.result.0 (notes c.args.pass.now) c.in_ok-attempts.attempts c.args.fates.now c.winner-winner.result (slice_get-get_or c.args.batch.now.timelines.now c.args.number c.index-batch-number.result c.requires.number) c.settings-settings.ensures.race c.in_ok-attempts.ensures.are (c.requires.ready.few c.args.number c.index-batch-number.result c.requires.number) c.requires.real c.requires.fates c.winner-winner.ensures.taken c.winner-winner.ensures.below c.jobs_of_race-first.ensures.first c.winner-winner.ensures.value).1

pub returns-clause-winner : goal.returns-clause-winner
returns-clause-winner g c = λ race stands.
    if_ok_all c.tell.result _ (won_by _ race _ (sym (slice_get-get_or c.args.batch.now.timelines.now c.args.number c.index-batch-number.result c.requires.number) ∙ stands)
    (race_settled c.args.batch.now.timelines.now _ c.args.number c.jobs_of_race-first.result.0 (notes c.args.pass.now) c.in_ok-attempts.attempts c.args.fates.now c.winner-winner.result (slice_get-get_or c.args.batch.now.timelines.now c.args.number c.index-batch-number.result c.requires.number) c.settings-settings.ensures.race c.in_ok-attempts.ensures.are (c.requires.ready.few c.args.number c.index-batch-number.result c.requires.number) c.requires.real c.requires.fates c.winner-winner.ensures.taken c.winner-winner.ensures.below c.jobs_of_race-first.ensures.first c.winner-winner.ensures.value).0)

pub returns-clause-transcript : goal.returns-clause-transcript
returns-clause-transcript g c = λ race stands. told_of _ race c.tell.result (sym (slice_get-get_or c.args.batch.now.timelines.now c.args.number c.index-batch-number.result c.requires.number) ∙ stands) c.tell.ensures

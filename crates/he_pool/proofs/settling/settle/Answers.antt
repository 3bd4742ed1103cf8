use Rattle.std.proofs.Common.{List, ◌≡◌, ◌∙◌, ap, replicate, subst, sym}
use Rattle.he_board.specs.Passes.{notes}
use Rattle.he_plan.specs.declared.finish.Fate.{Fate}
use Rattle.he_plan.specs.declared.finish.Fate.TheVariants.{Skipped}
use Rattle.he_pool.specs.declared.attempting.Done.{Done}
use Rattle.he_pool.specs.Working.{AreFates, filled}
use Rattle.he_pool.proofs.Handing.{all_taken, fates_are, if_ok_map, transcripts_all, winners_all}
use Rattle.he_pool.proofs.settling.settle.Goals as goal

pub settle_all-requires-clause-fates : goal.settle_all-requires-clause-fates
settle_all-requires-clause-fates g c =
    let is : c.deref-2.result.now ≡ filled c.args.work.done.items (replicate c.batch_jobs-jobs.result Skipped) = c.deref-2.ensures.value ∙ (c.in_ok-fates.ensures ∙ ap (λ (ds : List Done). filled ds (replicate c.batch_jobs-jobs.result Skipped)) c.deref.ensures.value) in
    subst (λ (fs : List Fate). AreFates c.args.batch.now.timelines.now (notes c.args.pass.now) fs) (sym is) (fates_are c.args.batch.now.timelines.now (notes c.args.pass.now) c.args.work.done.items c.args.work.plans.items c.batch_jobs-jobs.result c.requires.worked c.batch_jobs-jobs.ensures.value)

pub returns-clause-taken : goal.returns-clause-taken
returns-clause-taken g c = if_ok_map c.settle_all.result _ _ (λ ts settled. all_taken c.args.batch.now.timelines.now (notes c.args.pass.now) (notes c.settle_all.new.pass) c.args.work.done.items c.args.work.plans.items ts.items c.requires.worked c.settle_all.ensures.kept settled) c.settle_all.ensures.settled

pub returns-clause-winners : goal.returns-clause-winners
returns-clause-winners g c = if_ok_map c.settle_all.result _ _ (λ ts settled. winners_all c.args.batch.now.timelines.now (notes c.settle_all.new.pass) ts.items settled) c.settle_all.ensures.settled

pub returns-clause-transcripts : goal.returns-clause-transcripts
returns-clause-transcripts g c = if_ok_map c.settle_all.result _ _ (λ ts settled. transcripts_all c.args.batch.now.timelines.now (notes c.settle_all.new.pass) ts.items settled) c.settle_all.ensures.settled

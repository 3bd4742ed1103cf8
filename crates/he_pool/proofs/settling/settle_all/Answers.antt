use Rattle.std.proofs.Common.{List, ℕ, subst, ◌+◌, arith, ◌≡◌, sym, length}
use Rattle.std.proofs.lemmas.Option.{slice_get-get_or}
use Rattle.std.specs.List.{All}
use Rattle.he_pool.specs.Batch.{IsOfSuccess}
use Rattle.he_board.specs.Passes.{notes}
use Rattle.he_plan.specs.Transcript.{Report}
use Rattle.he_pool.specs.Working.{AreSettled}
use Rattle.he_pool.proofs.Handing.{some_race, fates_kept, kept_same, looked_kept, settled_more, settled_none}
use Rattle.he_pool.proofs.Trying.{plans-length}
use Rattle.he_pool.proofs.settling.settle_all.Goals as goal

pub settle_race-requires-clause-fates : goal.settle_race-requires-clause-fates
settle_race-requires-clause-fates g c = fates_kept c.args.batch.now.timelines.now (notes c.args.pass.now) (notes c.loop-number.pass) c.args.fates.now c.loop-number.invariant.1 c.requires.fates

pub returns-in_err-settle_race-clause-kept : goal.returns-in_err-settle_race-clause-kept
returns-in_err-settle_race-clause-kept g c = looked_kept (notes c.args.pass.now) (notes c.loop-number.pass) _ _ _ c.loop-number.invariant.1 c.settle_race.ensures.noted

pub returns-in_err-push-clause-kept : goal.returns-in_err-push-clause-kept
returns-in_err-push-clause-kept g c = looked_kept (notes c.args.pass.now) (notes c.loop-number.pass) _ _ _ c.loop-number.invariant.1 c.settle_race.ensures.noted

pub loop-number-init : goal.loop-number-init
loop-number-init g c = (c.requires.own, kept_same (notes c.args.pass.now), c.requires.plans, subst (λ (ts : List Report). AreSettled c.args.batch.now.timelines.now 0 (notes c.args.pass.now) ts) (sym c.in_ok-transcripts.ensures.items) (settled_none c.args.batch.now.timelines.now (notes c.args.pass.now)))

pub settle_race-requires-clause-made : goal.settle_race-requires-clause-made
settle_race-requires-clause-made g c = c.take_plan-made.ensures.plan c.args.batch.now.timelines.now c.loop-number.invariant.2

pub loop-number-preserved : goal.loop-number-preserved
loop-number-preserved g c =
    let at = slice_get-get_or c.args.batch.now.timelines.now c.loop-number.number (some_race c.args.batch.now.timelines.now c.loop-number.number c.loop-number-test.true).0 c.loop-number-test.true in (
      c.settle_race.ensures.own,
      looked_kept (notes c.args.pass.now) (notes c.loop-number.pass) _ _ _ c.loop-number.invariant.1 c.settle_race.ensures.noted,
      c.take_plan-made.ensures.plans c.args.batch.now.timelines.now c.loop-number.invariant.2,
      subst (λ (ts : List Report). AreSettled c.args.batch.now.timelines.now (c.loop-number.number + 1) (notes c.settle_race.new.pass) ts) (sym c.in_ok-push.ensures.items)
          (settled_more c.args.batch.now.timelines.now c.loop-number.number (notes c.loop-number.pass) (notes c.settle_race.new.pass) _ c.loop-number.transcripts.items _ _ c.loop-number.invariant.3 c.settle_race.ensures.noted at c.settle_race.ensures.taken (c.in_ok-settle_race.ensures.winner _ at) (c.in_ok-settle_race.ensures.transcript _ at)),
    )

pub take_plan-made-requires : goal.take_plan-made-requires
take_plan-made-requires g c =
    let same : length c.loop-number.plans.items ≡ length c.args.batch.now.timelines.now = plans-length c.args.batch.now.timelines.now c.loop-number.plans.items c.loop-number.invariant.2 in
    let lt = c.loop-number-test.true in
    omega arith

pub settle_race-requires-clause-real : goal.settle_race-requires-clause-real
settle_race-requires-clause-real g c = subst (λ (xs : List (ℕ × ℕ)). All (IsOfSuccess c.args.batch.now.timelines.now) xs) (sym c.loop-number.invariant.1.offers) c.requires.real

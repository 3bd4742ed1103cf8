use Rattle.std.proofs.Common.{rules, take}
use Rattle.std.specs.List.{flat_map}
use Rattle.he_words.specs.Appending.{Grows}
use Rattle.he_write.specs.Written.{outcome_text}
use Rattle.he_write.proofs.LoopLaws.{one_more_at, all_done}
use Rattle.he_words.proofs.Appending.{grows_after}
use Rattle.he_write.proofs.timelines.write_outcomes.Goals as goal

pub returns-in_err-write_outcome : goal.returns-in_err-write_outcome
returns-in_err-write_outcome g c =
    let kept : Grows c.args.out.now.items c.write_outcome.new.out.items =
    grows_after c.args.out.now.items (flat_map outcome_text (take c.loop-told.told-index c.args.outcomes.now)) c.loop-told.out.items c.write_outcome.new.out.items c.loop-told.invariant c.in_err-write_outcome.ensures in
    search rules

pub loop-told-preserved : goal.loop-told-preserved
loop-told-preserved g c =
    one_more_at outcome_text c.args.outcomes.now c.loop-told.told-index _ c.args.out.now.items c.loop-told.out.items c.write_outcome.new.out.items
    c.loop-told-test.true c.loop-told.invariant c.in_ok-write_outcome.ensures

pub returns : goal.returns
returns g c = all_done outcome_text c.args.outcomes.now c.loop-told.told-index c.args.out.now.items c.loop-told.out.items c.loop-told-test.false c.loop-told.invariant

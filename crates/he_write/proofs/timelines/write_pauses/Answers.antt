use Rattle.std.proofs.Common.{rules, take}
use Rattle.std.specs.List.{flat_map}
use Rattle.he_words.specs.Appending.{Grows}
use Rattle.he_write.specs.Written.{pause_text}
use Rattle.he_write.proofs.LoopLaws.{one_more_at, all_done}
use Rattle.he_words.proofs.Appending.{grows_after}
use Rattle.he_write.proofs.timelines.write_pauses.Goals as goal

pub returns-in_err-write_pause : goal.returns-in_err-write_pause
returns-in_err-write_pause g c =
    let kept : Grows c.args.out.now.items c.write_pause.new.out.items =
    grows_after c.args.out.now.items (flat_map pause_text (take c.loop-pause.pause-index c.args.pauses.now)) c.loop-pause.out.items c.write_pause.new.out.items c.loop-pause.invariant c.in_err-write_pause.ensures in
    search rules

pub loop-pause-preserved : goal.loop-pause-preserved
loop-pause-preserved g c =
    one_more_at pause_text c.args.pauses.now c.loop-pause.pause-index (0, 0) c.args.out.now.items c.loop-pause.out.items c.write_pause.new.out.items
    c.loop-pause-test.true c.loop-pause.invariant c.in_ok-write_pause.ensures

pub returns : goal.returns
returns g c = all_done pause_text c.args.pauses.now c.loop-pause.pause-index c.args.out.now.items c.loop-pause.out.items c.loop-pause-test.false c.loop-pause.invariant

use Rattle.std.proofs.Common.{rules, take}
use Rattle.std.specs.List.{flat_map}
use Rattle.he_words.specs.Appending.{Grows}
use Rattle.he_write.specs.Written.{host_source_text}
use Rattle.he_write.proofs.LoopLaws.{one_more_at, all_done}
use Rattle.he_words.proofs.Appending.{grows_after}
use Rattle.he_write.proofs.timelines.write_sources.Goals as goal

pub returns-in_err-write_source : goal.returns-in_err-write_source
returns-in_err-write_source g c =
    let kept : Grows c.args.out.now.items c.write_source.new.out.items =
    grows_after c.args.out.now.items (flat_map host_source_text (take c.loop-source.source-index c.args.sources.now)) c.loop-source.out.items c.write_source.new.out.items c.loop-source.invariant c.in_err-write_source.ensures in
    search rules

pub loop-source-preserved : goal.loop-source-preserved
loop-source-preserved g c =
    one_more_at host_source_text c.args.sources.now c.loop-source.source-index _ c.args.out.now.items c.loop-source.out.items c.write_source.new.out.items
    c.loop-source-test.true c.loop-source.invariant c.in_ok-write_source.ensures

pub returns : goal.returns
returns g c = all_done host_source_text c.args.sources.now c.loop-source.source-index c.args.out.now.items c.loop-source.out.items c.loop-source-test.false c.loop-source.invariant

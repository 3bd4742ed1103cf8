use Rattle.std.proofs.Common.{rules, take}
use Rattle.std.specs.List.{flat_map}
use Rattle.he_words.specs.Appending.{Grows}
use Rattle.he_write.specs.Written.{used_text}
use Rattle.he_write.proofs.LoopLaws.{one_more_at, all_done}
use Rattle.he_words.proofs.Appending.{grows_after}
use Rattle.he_write.proofs.timelines.write_all_used.Goals as goal

pub returns-in_err-write_used : goal.returns-in_err-write_used
returns-in_err-write_used g c =
    let kept : Grows c.args.out.now.items c.write_used.new.out.items =
    grows_after c.args.out.now.items (flat_map used_text (take c.loop-ip.ip-index c.args.ips.now)) c.loop-ip.out.items c.write_used.new.out.items c.loop-ip.invariant c.in_err-write_used.ensures in
    search rules

pub loop-ip-preserved : goal.loop-ip-preserved
loop-ip-preserved g c =
    one_more_at used_text c.args.ips.now c.loop-ip.ip-index _ c.args.out.now.items c.loop-ip.out.items c.write_used.new.out.items
    c.loop-ip-test.true c.loop-ip.invariant c.in_ok-write_used.ensures

pub returns : goal.returns
returns g c = all_done used_text c.args.ips.now c.loop-ip.ip-index c.args.out.now.items c.loop-ip.out.items c.loop-ip-test.false c.loop-ip.invariant

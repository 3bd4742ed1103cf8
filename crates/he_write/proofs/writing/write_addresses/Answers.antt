use Rattle.std.proofs.Common.{rules, map, take}
use Rattle.he_addr.specs.Printing.{printed}
use Rattle.he_write.specs.Writing.{spaced}
use Rattle.he_words.specs.Appending.{Grows}
use Rattle.he_write.proofs.LoopLaws.{one_more_spaced, all_spaced}
use Rattle.he_words.proofs.Appending.{grows_after}
use Rattle.he_write.proofs.writing.write_addresses.Goals as goal

pub returns-in_err-write_spaced : goal.returns-in_err-write_spaced
returns-in_err-write_spaced g c =
    let kept : Grows c.args.out.now.items c.write_spaced.new.out.items =
    grows_after c.args.out.now.items (spaced (map printed (take c.loop-ip.ip-index c.args.ips.now))) c.loop-ip.out.items c.write_spaced.new.out.items c.loop-ip.invariant c.in_err-write_spaced.ensures in
    search rules

pub loop-ip-preserved : goal.loop-ip-preserved
loop-ip-preserved g c =
    one_more_spaced printed c.args.ips.now c.loop-ip.ip-index _ c.args.out.now.items c.loop-ip.out.items c.write_spaced.new.out.items
    c.loop-ip-test.true c.loop-ip.invariant c.in_ok-write_spaced.ensures

pub returns : goal.returns
returns g c = all_spaced printed c.args.ips.now c.loop-ip.ip-index c.args.out.now.items c.loop-ip.out.items c.loop-ip-test.false c.loop-ip.invariant

use Rattle.he_addr.specs.Printing.{printed}
use Rattle.he_write.proofs.LoopLaws.{one_more_spaced, all_spaced}
use Rattle.he_c.proofs.line_texts.append_addresses.Goals as goal

pub loop-ip-preserved : goal.loop-ip-preserved
loop-ip-preserved c =
    one_more_spaced printed c.args.ips.now c.loop-ip.ip-index _ c.args.line.now.items c.loop-ip.line.items c.append_address.new.line.items
    c.loop-ip-test.true c.loop-ip.invariant c.in_ok-append_address.ensures

pub returns : goal.returns
returns c = all_spaced printed c.args.ips.now c.loop-ip.ip-index c.args.line.now.items c.loop-ip.line.items c.loop-ip-test.false c.loop-ip.invariant

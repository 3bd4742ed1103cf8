use Rattle.std.proofs.Common.{sym, ◌∙◌}
use Rattle.he_c.proofs.AddressLaws.{all_read, cut_off, one_further}
use Rattle.he_c.proofs.addresses.addresses_in.Goals as goal
use Rattle.he_c.proofs.addresses.addresses_in.Goals.{then-is_empty, else-is_empty}

pub loop-rest-preserved : goal.loop-rest-preserved
loop-rest-preserved c =
    one_further c.args.family c.size_of-size.result c.args.bytes.now c.loop-rest.rest.now c.split_at.result.0.now c.split_at.result.1.now
    c.ip_in.result c.loop-rest.ips.items c.push.new.self.items c.size_of-size.ensures c.loop-rest-test.true c.split_at.ensures.front c.split_at.ensures.back
    c.ip_in.ensures c.in_ok-push.ensures.items c.loop-rest.invariant

pub returns : goal.returns
returns c =
    elim c.if-is_empty.branch [
      | then-is_empty w ↦ rw w.result-is (all_read c.args.family c.args.bytes.now c.loop-rest.rest.now c.loop-rest.ips.items
          (sym c.is_empty.ensures ∙ w.if-is_empty.true) c.loop-rest.invariant)
      | else-is_empty w ↦ rw w.result-is (cut_off c.args.family c.size_of-size.result c.args.bytes.now c.loop-rest.rest.now c.loop-rest.ips.items
          c.size_of-size.ensures c.loop-rest-test.false (sym c.is_empty.ensures ∙ w.if-is_empty.false) c.loop-rest.invariant)
    ]

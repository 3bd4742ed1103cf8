use Rattle.he_addr.specs.contracts.ip.IpPartialEq.TheImpl.{eq-value}
use Rattle.he_timeline.proofs.Addressed.{set_grows}
use Rattle.he_timeline.proofs.ByAddress.{same_as}
use Rattle.he_timeline.proofs.history.set_of.Goals as goal

pub loop-ip-preserved : goal.loop-ip-preserved
loop-ip-preserved g c =
    set_grows eq-value.it same_as c.loop-ip.set.keys c.insert.new.self.keys c.args.ips.now c.loop-ip.ip-index _ c.requires c.loop-ip-test.true c.loop-ip.invariant c.in_ok-insert.ensures.keys

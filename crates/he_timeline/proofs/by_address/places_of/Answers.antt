use Rattle.he_addr.specs.contracts.ip.IpPartialEq.TheImpl.{eq-value}
use Rattle.he_timeline.proofs.ByAddress.{same_as}
use Rattle.he_timeline.proofs.Placed.{place_next}
use Rattle.he_timeline.proofs.by_address.places_of.Goals as goal

pub loop-one-preserved : goal.loop-one-preserved
loop-one-preserved g c =
    place_next eq-value.it same_as c.args.told.now c.loop-one.places.keys c.insert.new.self.keys c.loop-one.one-index c.one-item.result c.requires c.loop-one-test.true c.one-item.is c.loop-one.invariant c.in_ok-insert.ensures.keys

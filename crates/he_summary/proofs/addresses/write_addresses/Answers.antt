use Rattle.he_totals.specs.Hosts.{hosts_in}
use Rattle.he_summary.proofs.Told.{address_more, no_address}
use Rattle.he_summary.proofs.addresses.write_addresses.Goals as goal

pub loop-tallied-preserved : goal.loop-tallied-preserved
loop-tallied-preserved g c = λ new rest.
    c.loop-tallied.invariant new
    (address_more (hosts_in c.args.hosts.now) c.args.tallies.now c.loop-tallied.tallied-index _ c.loop-tallied.text.items c.write_before.new.text.items c.write_address.new.text.items new
    c.loop-tallied-test.true c.in_ok-write_before.ensures c.in_ok-write_address.ensures rest)

pub returns : goal.returns
returns g c = c.loop-tallied.invariant c.loop-tallied.text.items (no_address (hosts_in c.args.hosts.now) c.args.tallies.now c.loop-tallied.tallied-index c.loop-tallied.text.items c.loop-tallied-test.false)

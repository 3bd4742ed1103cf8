use Rattle.he_names.specs.Literals.{zoned_of}
use Rattle.he_settings.specs.Plans.{IsAbsent, IsServer}
use Rattle.he_settings.proofs.Standing.{all_stand}
use Rattle.he_settings.proofs.plan.addresses_of.Goals as goal

pub returns : goal.returns
returns g c =
    all_stand IsServer IsAbsent zoned_of c.args.servers.now c.loop-server.server-index c.loop-server-test.false c.loop-server.addresses.items
    c.loop-server.invariant

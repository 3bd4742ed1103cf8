use Rattle.he_totals.proofs.Tallied.{inserted}
use Rattle.he_totals.proofs.tallies.Tallies.add_try.Goals as goal

pub returns : goal.returns
returns g c =
    inserted c.self.inside.by_address.entries c.args.self.now c.insert.new.self.entries c.args.ip c.args.loss c.args.lost c.of-tally.result c.with.result
    c.self.view_is c.of-tally.ensures c.with.ensures c.in_ok-insert.ensures.unique c.in_ok-insert.ensures.updates.0

use Rattle.std.proofs.Common.{rules}
use Rattle.he_race.proofs.Wheels.{later_inserted}
use Rattle.he_race.proofs.wheel.WheelTickerTicker.wake_at.Goals as goal

pub invariant_of-self : goal.invariant_of-self
invariant_of-self g c =
    later_inserted c.self.inside.at _ c.self.inside.asked.keys _ c.insert.result c.self.invariant (search rules) c.insert.ensures.keys c.insert.ensures.err

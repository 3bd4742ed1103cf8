use Rattle.he_timeline.specs.Race.{Race}
use Rattle.he_timeline.proofs.Lasting.{outcome_in-lasts}
use Rattle.he_timeline.proofs.timeline.Timeline.outcome.Goals as goal

pub returns-clause-range : goal.returns-clause-range
returns-clause-range g c =
    let race : Race = record { settings = c.self.inside.settings; policy = c.self.inside.policy; host = c.self.inside.host; aaaa = c.self.inside.aaaa; a = c.self.inside.a; history = c.self.inside.history; outcomes = c.self.inside.outcomes; pauses = c.self.inside.pauses.items } in
    rw (c.of.ensures) (outcome_in-lasts race c.self.inside.outcomes c.args.ip c.self.invariant.outcomes)

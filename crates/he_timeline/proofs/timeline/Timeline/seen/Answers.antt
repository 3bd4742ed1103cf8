use Rattle.he_timeline.proofs.Seen.{seen_past-is, seen_past-most}
use Rattle.he_timeline.proofs.timeline.Timeline.seen.Goals as goal

pub returns-clause-least : goal.returns-clause-least
returns-clause-least g c =
    rw (c.seen_past.ensures, c.deref.ensures.value, ← c.self.view_is) (seen_past-is c.self.inside.pauses.items 0 c.args.tick c.self.invariant.pauses)

pub returns-clause-range : goal.returns-clause-range
returns-clause-range g c =
    rw (c.seen_past.ensures, c.deref.ensures.value) (seen_past-most c.self.inside.pauses.items 0 c.args.tick c.self.invariant.pauses)

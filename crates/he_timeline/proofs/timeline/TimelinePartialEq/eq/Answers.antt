use Rattle.std.proofs.Common.{sym, ◌∙◌}
use Rattle.he_timeline.specs.EqualityLaws.{race_from, race_is}
use Rattle.he_timeline.proofs.timeline.TimelinePartialEq.eq.Goals as goal

pub returns-clause-lists : goal.returns-clause-lists
returns-clause-lists g c =
    (λ h. race_from c.args.self.now c.args.other.now (sym c.is_same.ensures ∙ h), λ e. c.is_same.ensures ∙ race_is c.args.self.now c.args.other.now e)

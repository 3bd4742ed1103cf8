use Rattle.std.proofs.Common.{◌≡◌, true, sym, ◌∙◌, subst}
use Rattle.he_timeline.specs.Race.{Race, is_in_answer}
use Rattle.he_timeline.proofs.Ranges.{IsRace-with_rtt}
use Rattle.he_timeline.proofs.builder.TimelineBuilder.rtt_of_known.Goals as goal

pub push_rtt-requires : goal.push_rtt-requires
push_rtt-requires g c =
    let P : Race → Type 0 = λ race. is_in_answer race c.args.ip ≡ true in
    IsRace-with_rtt c.self.inside.timeline c.args.ip c.args.rtt c.has_rtt.ensures.race
    (sym c.is_duration.ensures ∙ c.if-not-is_duration.false)
    (subst P (sym c.self.view_is) c.requires)
    (sym c.has_rtt.ensures.value ∙ c.if-has_rtt.false)

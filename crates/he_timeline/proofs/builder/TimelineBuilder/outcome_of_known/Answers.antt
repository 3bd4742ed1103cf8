use Rattle.std.proofs.Common.{◌≡◌, true, sym, ◌∙◌, ap, subst}
use Rattle.he_timeline.specs.Race.{Race, is_in_answer}
use Rattle.he_timeline.specs.Timeline.{is_duration}
use Rattle.he_timeline.proofs.Ranges.{IsRace-with_outcome}
use Rattle.he_timeline.proofs.builder.TimelineBuilder.outcome_of_known.Goals as goal

pub push_outcome-requires : goal.push_outcome-requires
push_outcome-requires g c =
    let P : Race → Type 0 = λ race. is_in_answer race c.args.ip ≡ true in
    IsRace-with_outcome c.self.inside.timeline c.args.ip c.args.outcome c.has_outcome.ensures.race
    (ap is_duration (sym c.duration.ensures) ∙ sym c.is_duration.ensures ∙ c.if-not-is_duration.false)
    (subst P (sym c.self.view_is) c.requires)
    (sym c.has_outcome.ensures.value ∙ c.if-has_outcome.false)

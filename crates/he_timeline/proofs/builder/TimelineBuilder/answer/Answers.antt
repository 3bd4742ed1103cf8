use Rattle.std.proofs.Common.{arith, sym, ◌∙◌, ap, subst}
use Rattle.std.specs.Option.{is_some}
use Rattle.std.proofs.lemmas.Grind.{common_steps}
use Rattle.he_timeline.specs.Building.{with_answer}
use Rattle.he_timeline.specs.Race.{Reply}
use Rattle.he_timeline.specs.Timeline.{IsRace}
use Rattle.he_timeline.proofs.Ranges.{IsRace-with_answer}
use Rattle.he_timeline.proofs.builder.TimelineBuilder.answer.Goals as goal

pub set_answer-requires : goal.set_answer-requires
set_answer-requires g c =
    let P : Reply → Type 0 = λ reply. IsRace (with_answer c.self.inside.timeline c.args.family reply) in
    subst P (sym c.in_ok-answer.ensures.answer)
    (IsRace-with_answer c.self.inside.timeline c.args.family c.args.tick c.args.addresses.now c.answer.ensures.race
    (grind (arith, common_steps, ap is_some c.answer.ensures.value))
    (grind (arith, common_steps)) (grind (arith, common_steps))
    (sym c.are_of.ensures ∙ c.if-not-are_of.false) c.in_ok-answer.ensures.distinct)

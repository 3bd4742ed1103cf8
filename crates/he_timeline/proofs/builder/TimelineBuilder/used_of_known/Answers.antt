use Rattle.std.proofs.Common.{◌≡◌, true, sym, ◌∙◌, subst}
use Rattle.he_timeline.specs.Race.{Race, is_in_answer}
use Rattle.he_timeline.proofs.Ranges.{IsRace-with_used}
use Rattle.he_timeline.proofs.builder.TimelineBuilder.used_of_known.Goals as goal

pub push_used-requires-clause-race : goal.push_used-requires-clause-race
push_used-requires-clause-race g c =
    let P : Race → Type 0 = λ race. is_in_answer race c.args.ip ≡ true in
    IsRace-with_used c.self.inside.timeline c.args.ip c.used.ensures.race
    (subst P (sym c.self.view_is) c.requires)
    (sym c.used.ensures.value ∙ c.if-used.false)

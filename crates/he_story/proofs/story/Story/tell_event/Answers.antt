use Rattle.std.proofs.Common.{◌≡◌, ◌++◌, ◌∷◌, ◌∙◌, Bool, List, [], Option, ℕ, OnOk, ap, subst, sym, if◌then◌else◌}
use Rattle.std.proofs.lemmas.List.{append_assoc}
use Rattle.he_print.specs.declared.part.Fact.{Fact}
use Rattle.he_print.specs.declared.part.Fact.TheVariants as facts
use Rattle.he_story.specs.Lines.{event_facts, kind_facts, late_at, told}
use Rattle.he_story.specs.Recorded.{say}
use Rattle.he_statements.specs.declared.said.Said.{Said}
use Rattle.he_statements.specs.declared.said.Said.TheVariants as says
use Rattle.he_story.proofs.Pauses.{among_short}
use Rattle.he_story.proofs.story.Story.tell_event.Goals as goal

pub returns : goal.returns
returns g c =
    let event = c.args.event in
    let course = c.args.course.now in
    let said = c.args.recorded.now in
    let events = course.events.items in
    let late : late_at c.args.pauses.now event.tick ≡ late_at events event.tick = ap (λ pauses. late_at pauses event.tick) c.requires ∙ among_short events event.tick in
    let at : List (Fact Said) = say says.At (facts.Number event.tick ∷ []) in
    let more : List (Fact Said) = kind_facts said course event.tick (late_at events event.tick) event.kind in
    let all : at ++ more ≡ event_facts said course event = sym (ap (λ (b : Bool). if b then [] else at ++ more) (sym c.is_short.ensures ∙ c.if-is_short.false)) in
    let told_kind = subst (λ (late : Option ℕ). OnOk c.tell_kind.result (told c.tell_kind.new.self ≡ told c.tell.new.self ++ kind_facts said course event.tick late event.kind)) late c.tell_kind.ensures in
    let told_both = subst (λ (before : List (Fact Said)). OnOk c.tell_kind.result (told c.tell_kind.new.self ≡ before ++ more)) c.in_ok-tell.ensures told_kind in
    subst (λ (told_all : List (Fact Said)). OnOk c.tell_kind.result (told c.tell_kind.new.self ≡ told_all)) (append_assoc (told c.args.self.now) at more ∙ ap (λ (after : List (Fact Said)). told c.args.self.now ++ after) all) told_both

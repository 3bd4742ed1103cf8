use Rattle.std.proofs.Common.{◌≡◌, length, sym, ◌∙◌, ap, subst, arith, Some}
use Rattle.std.proofs.lemmas.Grind.{common_steps}
use Rattle.std.proofs.lemmas.List.{length-map}
use Rattle.he_plan.specs.Finish.{fate_of}
use Rattle.he_plan.specs.Planning.{all_failed}
use Rattle.he_plan.specs.Transcript.{failures}
use Rattle.he_plan.specs.RaceState.{IsUnderway, Progress}
use Rattle.he_plan.proofs.Ends.{all_failed-none, all_failed-some}
use Rattle.he_plan.proofs.race_state.RaceState.all_failed.Goals as goal

pub returns-then-self-len : goal.returns-then-self-len
returns-then-self-len g c =
    let old : Progress = record { attempts = c.self.inside.attempts.items; fates = c.self.inside.fates.items; failed = c.self.inside.failed; latest = c.self.inside.latest; queue = c.self.inside.queue } in
    let under : IsUnderway c.requires.0 old = subst (λ (u : Progress). IsUnderway c.requires.0 u) (sym c.self.view_is) c.requires.1 in
    let made : length old.fates ≡ length old.attempts = ap length under.fates ∙ length-map old.attempts (fate_of c.requires.0) in
    let len : c.len.result ≡ length c.self.inside.attempts.items = omega (arith, c.len.ensures) in
    let same : c.self.inside.failed ≡ c.len.result = grind (arith, common_steps) in
    let all : length (failures old.fates) ≡ length old.fates = sym under.failed ∙ same ∙ len ∙ sym made in
    sym (all_failed-some old.fates all ∙ ap Some (sym under.latest)) ∙ ap (λ (u : Progress). all_failed u.fates) c.self.view_is

pub returns-else-self-len : goal.returns-else-self-len
returns-else-self-len g c =
    let old : Progress = record { attempts = c.self.inside.attempts.items; fates = c.self.inside.fates.items; failed = c.self.inside.failed; latest = c.self.inside.latest; queue = c.self.inside.queue } in
    let under : IsUnderway c.requires.0 old = subst (λ (u : Progress). IsUnderway c.requires.0 u) (sym c.self.view_is) c.requires.1 in
    let made : length old.fates ≡ length old.attempts = ap length under.fates ∙ length-map old.attempts (fate_of c.requires.0) in
    let len : c.len.result ≡ length c.self.inside.attempts.items = omega (arith, c.len.ensures) in
    let other : c.self.inside.failed ≡ c.len.result → ⊥ = λ e. grind (arith, common_steps) in
    sym (all_failed-none old.fates (λ all. other (under.failed ∙ all ∙ made ∙ sym len))) ∙ ap (λ (u : Progress). all_failed u.fates) c.self.view_is

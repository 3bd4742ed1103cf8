use Rattle.std.proofs.Common.{◌≡◌, ◌∙◌, ap, subst, List, IfOk, ℕ}
use Rattle.he_addr.specs.declared.ip.Ip.{Ip}
use Rattle.he_timeline.specs.declared.outcome.Outcome.{Outcome}
use Rattle.he_timeline.specs.Race.{Race}
use Rattle.he_timeline.proofs.timeline.Timeline.copy.Goals as goal

with_its_own : (inside race : Race) (outcomes : List (Ip × Outcome)) (pauses : List (ℕ × ℕ)) → inside ≡ race → outcomes ≡ inside.outcomes → pauses ≡ inside.pauses → record race { outcomes = outcomes; pauses = pauses } ≡ race
with_its_own inside race outcomes pauses same told paused =
    ap (λ o. record race { outcomes = o; pauses = pauses }) (told ∙ ap (λ (r : Race). r.outcomes) same)
    ∙ ap (λ p. record race { outcomes = race.outcomes; pauses = p }) (paused ∙ ap (λ (r : Race). r.pauses) same)

pub returns : goal.returns
returns g c =
    let same = with_its_own _ _ _ _ c.self.view_is c.in_ok-outcomes.ensures (c.in_ok-pauses.ensures.items ∙ c.deref.ensures.value) in
    subst (λ (race : Race). IfOk c.copy_with.result (λ copy. copy ≡ race)) same c.copy_with.ensures

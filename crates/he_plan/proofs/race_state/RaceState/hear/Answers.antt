use Rattle.std.proofs.Common.{sym, subst}
use Rattle.he_plan.specs.RaceState.{IsAlikeSoFar, IsUnderway, Progress}
use Rattle.he_plan.proofs.Hearing.{underway-heard}
use Rattle.he_plan.proofs.race_state.RaceState.hear.Goals as goal

pub returns-clause-underway : goal.returns-clause-underway
returns-clause-underway g c = λ race new under is.
    let old : Progress = record { attempts = c.self.inside.attempts.items; fates = c.self.inside.fates.items; failed = c.self.inside.failed; latest = c.self.inside.latest; queue = c.self.inside.queue } in
    rw (c.forget_order.ensures)
    (underway-heard race new old (subst (λ (u : Progress). IsUnderway race u) (sym c.self.view_is) under) (subst (λ (u : Progress). IsAlikeSoFar race new u.attempts) (sym c.self.view_is) is))

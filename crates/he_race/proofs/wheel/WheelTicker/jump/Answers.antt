use Rattle.std.proofs.Common.{rules, ◌<◌, nat_lt}
use Rattle.std.proofs.lemmas.Fn.{filter_same, All-from_retain}
use Rattle.he_race.proofs.Wheels.{jumped}
use Rattle.he_race.proofs.wheel.WheelTicker.jump.Goals as goal

pub invariant_of-self : goal.invariant_of-self
invariant_of-self g c = λ h.
    All-from_retain _ (λ t. c.seen-at.result < t) _ (λ x b f' k. search rules) _ _ c.retain.ensures.filtered

pub returns-clause-goes : goal.returns-clause-goes
returns-clause-goes g c =
    let kept = filter_same _ (nat_lt c.seen-at.result) _ (λ x b f' k. search rules) _ _ c.retain.ensures.filtered in
    let seen = c.seen-at.ensures.value in
    jumped c.args.self.now c.in-Some.tick.now (rw (← c.self.view_is) c.in-Some.ensures.first) _ (rw (← c.self.view_is) cc)

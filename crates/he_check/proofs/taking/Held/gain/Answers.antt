use Rattle.std.proofs.Common.{ap, arith, length-take, refl, subst, sym, ℕ}
use Rattle.he_inputs.specs.HeldInputs.{HeldBytes}
use Rattle.he_check.specs.Steps.{HoldsOn}
use Rattle.he_check.specs.declared.taking.Held.{Held}
use Rattle.he_check.proofs.Holding.{holds_on}
use Rattle.he_check.proofs.taking.Held.gain.Goals as goal
use Rattle.he_check.proofs.taking.Held.gain.Goals.{then-is_short-via-then-is_short, then-is_short-via-else-is_short+then-bytes-self}

pub returns-then-is_short-clause-on : goal.returns-then-is_short-clause-on
returns-then-is_short-clause-on g c =
    let On = λ (new : Held g.row.A.Denot). HoldsOn c.args.self.now new in
    elim c.then-is_short.branch [
      | then-is_short-via-then-is_short w ↦ subst On (sym w.self-is) (λ before at. (before, refl, at))
      | then-is_short-via-else-is_short+then-bytes-self w ↦ subst On (sym w.self-is) (λ before at. (before, refl, at))
    ]

pub returns-clause-on : goal.returns-clause-on
returns-clause-on g c =
    let ready : ℕ = c.max-ready.result in
    let looked = c.max-ready.ensures in
    let gone = rw c.bytes-bytes.ensures at c.in_ok-go_on.ensures.gone in
    let place = gone.may.within.place in
    holds_on c.args.self.now c.forget.new.self c.go_on.new.self ready (omega (arith, looked)) c.requires.held.front (omega (arith, place, length-take {A = ℕ})) gone.on c.forget.ensures.counted c.forget.ensures.tried
    (ap (λ (h : HeldBytes). h.bytes) c.forget.ensures.kept)

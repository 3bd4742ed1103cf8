use Rattle.std.proofs.Common.{Some, refl, sym, ◌∙◌}
use Rattle.he_resolver.proofs.Waits.{other_heard, same_four, same_six}
use Rattle.he_resolver.proofs.gathering.Gathering.poll_for.Goals as goal

pub returns-in-V6-clause-other : goal.returns-in-V6-clause-other
returns-in-V6-clause-other g c =
    let new = record c.args.self.now { lookup = c.poll_answer.new.self; v6 = Some (record { tick = c.args.tick; answer = c.in-Ready.answer }) } in
    other_heard c.args.cx.now c.poll_answer.new.cx c.args.self.now new c.args.family c.poll_answer.ensures.other (λ other distinct. same_four c.args.self.now new refl other (λ e. distinct (e ∙ sym c.in-V6.is)))

pub returns-in-V4-clause-other : goal.returns-in-V4-clause-other
returns-in-V4-clause-other g c =
    let new = record c.args.self.now { lookup = c.poll_answer.new.self; v4 = Some (record { tick = c.args.tick; answer = c.in-Ready.answer }) } in
    other_heard c.args.cx.now c.poll_answer.new.cx c.args.self.now new c.args.family c.poll_answer.ensures.other (λ other distinct. same_six c.args.self.now new refl other (λ e. distinct (e ∙ sym c.in-V4.is)))

pub returns-in_default-clause-other : goal.returns-in_default-clause-other
returns-in_default-clause-other g c =
    let new = record c.args.self.now { lookup = c.poll_answer.new.self } in
    other_heard c.args.cx.now c.poll_answer.new.cx c.args.self.now new c.args.family c.poll_answer.ensures.other (λ other distinct. refl)

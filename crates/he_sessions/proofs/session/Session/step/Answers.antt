use Rattle.std.proofs.Common.{◌∙◌, sym}
use Rattle.he_sessions.proofs.Going.{step_from}
use Rattle.he_sessions.proofs.session.Session.step.Goals as goal

pub returns-in-Racing-clause-step : goal.returns-in-Racing-clause-step
returns-in-Racing-clause-step g c =
    step_from _ _ _ _ _ _ _ _ (sym c.replace.ensures.value ∙ c.in-Racing.is) c.step_racing.ensures.step.goes_on c.step_racing.ensures.step.follows
    c.step_racing.ensures.step.same

pub returns-in-Answering-clause-step : goal.returns-in-Answering-clause-step
returns-in-Answering-clause-step g c =
    step_from _ _ _ _ _ _ _ _ (sym c.replace.ensures.value ∙ c.in-Answering.is) c.step_answering.ensures.step.goes_on c.step_answering.ensures.step.follows
    c.step_answering.ensures.step.same

pub returns-in-Closing-clause-step : goal.returns-in-Closing-clause-step
returns-in-Closing-clause-step g c =
    step_from _ _ _ _ _ _ _ _ (sym c.replace.ensures.value ∙ c.in-Closing.is) c.step_closing.ensures.step.goes_on c.step_closing.ensures.step.follows
    c.step_closing.ensures.step.same

pub returns-in-Relaying-clause-step : goal.returns-in-Relaying-clause-step
returns-in-Relaying-clause-step g c =
    step_from _ _ _ _ _ _ _ _ (sym c.replace.ensures.value ∙ c.in-Relaying.is) c.step_relaying.ensures.step.goes_on c.step_relaying.ensures.step.follows
    c.step_relaying.ensures.step.same

pub returns-in-Forwarding-clause-step : goal.returns-in-Forwarding-clause-step
returns-in-Forwarding-clause-step g c =
    step_from _ _ _ _ _ _ _ _ (sym c.replace.ensures.value ∙ c.in-Forwarding.is) c.step_forwarding.ensures.step.goes_on c.step_forwarding.ensures.step.follows
    c.step_forwarding.ensures.step.same

pub returns-in-Parting-clause-step : goal.returns-in-Parting-clause-step
returns-in-Parting-clause-step g c =
    step_from _ _ _ _ _ _ _ _ (sym c.replace.ensures.value ∙ c.in-Parting.is) c.step_parting.ensures.step.goes_on c.step_parting.ensures.step.follows
    c.step_parting.ensures.step.same

pub returns-in-Cutting-clause-step : goal.returns-in-Cutting-clause-step
returns-in-Cutting-clause-step g c =
    step_from _ _ _ _ _ _ _ _ (sym c.replace.ensures.value ∙ c.in-Cutting.is) c.step_cutting.ensures.step.goes_on c.step_cutting.ensures.step.follows
    c.step_cutting.ensures.step.same

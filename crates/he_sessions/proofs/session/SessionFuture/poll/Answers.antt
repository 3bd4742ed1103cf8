use Rattle.he_sessions.proofs.Going.{served, step_on}
use Rattle.he_sessions.proofs.session.SessionFuture.poll.Goals as goal

pub loop-preserved : goal.loop-preserved
loop-preserved g c =
    let may = c.loop.invariant.1.0 in (
      served g.Q.Racer.serves c.loop.self.asker c.step.new.self.asker c.step.ensures.step.same c.loop.invariant.0,
      (
        (may.0, c.step.ensures.step.goes_on may.0 may.1),
        (
          step_on _ _ _ _ _ _ _ _ c.loop.invariant.1.1.0 c.step.ensures.step,
          λ fact holds. c.step.ensures.polled.kept fact (c.loop.invariant.1.1.1 fact holds),
        ),
      ),
    )

pub returns-in-Waits-clause-again : goal.returns-in-Waits-clause-again
returns-in-Waits-clause-again g c =
    let may = c.loop.invariant.1.0 in
    (served g.Q.Racer.serves c.loop.self.asker c.step.new.self.asker c.step.ensures.step.same c.loop.invariant.0, (may.0, c.step.ensures.step.goes_on may.0 may.1))

pub returns-in-Waits-clause-step : goal.returns-in-Waits-clause-step
returns-in-Waits-clause-step g c = step_on _ _ _ _ _ _ _ _ c.loop.invariant.1.1.0 c.step.ensures.step

pub returns-in-Ends-clause-step : goal.returns-in-Ends-clause-step
returns-in-Ends-clause-step g c = step_on _ _ _ _ _ _ _ _ c.loop.invariant.1.1.0 c.step.ensures.step

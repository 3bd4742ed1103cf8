use Rattle.std.proofs.Common.{◌+◌, inr, sym, ap, ◌∙◌}
use Rattle.he_turns.proofs.Waits.{sleeping_waits, fresh_waits, fresh_waits_if, lifted, not_pending, on_pending}
use Rattle.he_turns.proofs.attempt.AttemptFuture.poll_attempt.Goals as goal
use Rattle.he_turns.proofs.attempt.AttemptFuture.poll_attempt.Goals.{in-Ok, in-Err}

pub returns-then-now-start-clause-waits : goal.returns-then-now-start-clause-waits
returns-then-now-start-clause-waits g c =
    inr (sleeping_waits g.C.Connector g.C.Run.Trial c.in-Sleeping.place c.in-Sleeping.ip c.in-Sleeping.start)

pub returns-then-now-next-clause-waits : goal.returns-then-now-next-clause-waits
returns-then-now-next-clause-waits g c =
    inr (fresh_waits_if g.C.Connector g.C.Run.Trial c.in-Connecting.run' c.in-Connecting.next c.in-Connecting.is_fresh c.if-is_fresh.true)

pub returns-else-now-start-clause-waits : goal.returns-else-now-start-clause-waits
returns-else-now-start-clause-waits g c =
    inr (fresh_waits g.C.Connector g.C.Run.Trial c.begin-run.result (c.args.now + 1))

pub returns-in-Pending-clause-waits : goal.returns-in-Pending-clause-waits
returns-in-Pending-clause-waits g c =
    elim c.match-run.branch [ in-Ok w ↦ lifted g.C.Connector g.C.Run.Trial w.poll_trial-polled.new.self c.in-Connecting.next _ _ _ (ap (λ s. s.1.1.0) w.self-is) w.cx-is (on_pending _ _ (sym w.polled-is ∙ c.in-Pending.is) w.poll_trial-polled.ensures.waits) | in-Err w ↦ absurd (not_pending _ (sym w.polled-is ∙ c.in-Pending.is)) ]

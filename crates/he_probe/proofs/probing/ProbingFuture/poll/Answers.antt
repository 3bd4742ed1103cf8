use Rattle.std.proofs.Common.{subst, IfNone, All}
use Rattle.std.specs.Prelude.{Option}
use Rattle.he_probe.specs.Probing.{IsClosed}
use Rattle.he_probe.proofs.Polled.{rows-later, rows-now}
use Rattle.he_probe.proofs.probing.ProbingFuture.poll.Goals as goal

pub returns-in-None-clause-value : goal.returns-in-None-clause-value
returns-in-None-clause-value g c =
    rows-now g.C.Connector g.C.Run.Trial _ _ c.poll_all.new.probes.items c.rows_of.result c.poll_all.ensures.each
    (subst (λ (next : Option _). IfNone next (All IsClosed c.poll_all.new.probes.items)) c.in-None.is c.poll_all.ensures.closed)
    c.poll_all.ensures.ips (rw c.deref.ensures.value at c.rows_of.ensures.rows)
    (rw c.deref.ensures.value at c.rows_of.ensures.ips)

pub returns-in-Ok-clause-same : goal.returns-in-Ok-clause-same
returns-in-Ok-clause-same g c result of =
    rows-later g.C.Connector g.C.Run.Trial _ _ c.poll_all.new.probes.items result c.poll_all.ensures.each
    c.poll_all.ensures.ips of

-- The rows of probes on real sockets.
use Rattle.std.specs.Prelude.{List}
use Rattle.he_probe.specs.declared.probe.ProbeRow.{ProbeRow}
use Rattle.he_probe.specs.Probing.{AreRowsOf}
use Rattle.he_probe.specs.Schedule.{scheduled}
use Rattle.he_turns.specs.declared.connector.Connector.{Ghosts as ConnectorOf}
use Rattle.he_turns.specs.declared.trial.Trial.{Ghosts as TrialOf}
use Rattle.he_live.specs.declared.probing.ProbeRequest.{ProbeRequest}

-- each address has the row of its own attempt, which started at the request's pace and had the request's time
abbrev pub AreProbed : {C Conn Run : Type 0} → ConnectorOf C Conn Run → TrialOf Run Conn → ProbeRequest
    → List ProbeRow → Type 0
AreProbed connector trial request rows =
    AreRowsOf connector trial (scheduled request.pace request.timeout 0 request.addresses.now) rows

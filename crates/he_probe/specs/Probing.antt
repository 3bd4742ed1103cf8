-- A poll of the attempts of a probe: each address has the outcome of its own attempt.
use Rattle.std.specs.Prelude.{ℕ, ◌≡◌, ◌-◌, All, List, [], ◌∷◌, Some, None, Result, Ok, Err, MatchOption, IfSome, map, nat_le, max, if◌then◌else◌}
use Rattle.std.specs.List.{AllZip}
use Rattle.futures.specs.declared.task.context.Context.{Context}
use Rattle.futures.specs.declared.task.Poll.{Poll}
use Rattle.futures.specs.declared.task.Poll.TheVariants.{Ready, Pending}
use Rattle.he_addr.specs.declared.ip.Ip.{Ip}
use Rattle.he_timeline.specs.declared.outcome.Outcome.{Outcome}
use Rattle.he_timeline.specs.declared.outcome.Outcome.TheVariants as outcomes
use Rattle.he_turns.specs.declared.attempt.AttemptFuture.{AttemptFuture}
use Rattle.he_turns.specs.declared.attempt.Finish.{Finish}
use Rattle.he_turns.specs.declared.connector.Connector.{Ghosts as ConnectorOf}
use Rattle.he_turns.specs.declared.faults.AttemptFault.{AttemptFault}
use Rattle.he_turns.specs.declared.trial.Trial.{Ghosts as TrialOf}
use Rattle.he_turns.specs.Attempt.{AttemptPolls, CanPoll, started_of}
use Rattle.he_turns.specs.Listening.{Listens}
use Rattle.he_probe.specs.declared.probe.Probe.{Probe}
use Rattle.he_probe.specs.declared.probe.ProbeRow.{ProbeRow}

-- the outcome of an attempt with this answer, this number of ticks after its start
abbrev pub outcome_by : {Conn : Type 0} → Result Conn AttemptFault → ℕ → Outcome
outcome_by (Ok conn) duration = outcomes.Ok duration
outcome_by (Err fault) duration = outcomes.Fail duration

abbrev pub row_of : {C Conn Run : Type 0} → Probe C Conn Run → ProbeRow
row_of probe = record { ip = probe.ip; outcome = probe.outcome }

abbrev pub row_ip : ProbeRow → Ip
row_ip row = row.ip

abbrev pub ip_of : {C Conn Run : Type 0} → Probe C Conn Run → Ip
ip_of probe = probe.ip

-- the probe's attempt is over
abbrev pub IsClosed : {C Conn Run : Type 0} → Probe C Conn Run → Type 0
IsClosed probe = probe.attempt ≡ None

module _ {C Conn Run : Type 0} (connector : ConnectorOf C Conn Run) (trial : TrialOf Run Conn) where
  -- the attempt, if it isn't over, may be polled
  abbrev pub IsReady : Probe C Conn Run → Type 0
  IsReady probe = IfSome probe.attempt (CanPoll connector trial)

  abbrev pub AreReady : List (Probe C Conn Run) → Type 0
  AreReady probes = All IsReady probes

  -- the probe after a poll of its attempt. A pending attempt is kept before its end, and is closed at its end; an
  -- answer is the outcome, and lasts from the attempt's start, at least a tick
  abbrev pub Becomes : Probe C Conn Run → AttemptFuture C Conn Run → ℕ → Poll (Finish Conn) → Probe C Conn Run → Type 0
  Becomes old left now Pending new =
      new ≡ record old { attempt = (if nat_le old.end now then None else Some left) }
  Becomes old left now (Ready finish) new =
      (start : ℕ) × (started_of left ≡ Some start)
      × (new ≡ record old {
        attempt = None;
        outcome = Some (outcome_by finish.result (max (finish.tick - start) 1));
      })

  -- a poll of a probe is one poll of its attempt; a probe that is over stays as it is
  abbrev pub ProbePolls : C → Probe C Conn Run → ℕ → C → Probe C Conn Run → Type 0
  ProbePolls c old now c' new =
      MatchOption old.attempt ((c' ≡ c) × (new ≡ old)) (λ attempt.
      (left : AttemptFuture C Conn Run) × (answer : Poll (Finish Conn))
      × AttemptPolls connector trial c attempt now answer c' left × Becomes old left now answer new)

  -- with some states of the connector
  abbrev pub SomePoll : ℕ → Probe C Conn Run → Probe C Conn Run → Type 0
  SomePoll now old new = (c : C) × (c' : C) × ProbePolls c old now c' new

  -- polls of a probe at these ticks, one after the other
  abbrev pub PollsAt : List ℕ → Probe C Conn Run → Probe C Conn Run → Type 0
  PollsAt [] old new = new ≡ old
  PollsAt (now ∷ ticks) old new = (between : Probe C Conn Run) × SomePoll now old between × PollsAt ticks between new

  -- the rows of these probes, in their order: each was polled until its attempt was over
  pub record AreRowsOf (probes : List (Probe C Conn Run)) (rows : List ProbeRow) : Type 0 where
    pub ticks : List ℕ
    pub last : List (Probe C Conn Run)
    pub polled : AllZip (PollsAt ticks) probes last
    pub closed : All IsClosed last
    pub are : rows ≡ map row_of last
    pub ips : map row_ip rows ≡ map ip_of probes

  -- an attempt that isn't over has registered in this context for all that it needs
  abbrev pub Waits : Context → Probe C Conn Run → Type 0
  Waits cx probe = IfSome probe.attempt (Listens connector trial cx)

  abbrev pub AllWait : Context → List (Probe C Conn Run) → Type 0
  AllWait cx probes = All (Waits cx) probes

-- The steps of an attempt between its states: it sleeps, it connects, it is done.
use Rattle.std.specs.Prelude.{ℕ, ◌≡◌, ◌+◌, ◌-◌, ◌&&◌, Bool, true, false, ⊤, Option, Some, None, Result, Ok, Err, MatchBool, nat_lt, IfOk}
use Rattle.futures.specs.declared.task.Poll.{Poll}
use Rattle.futures.specs.declared.task.Poll.TheVariants.{Ready, Pending}
use Rattle.he_addr.specs.declared.ip.Ip.{Ip}
use Rattle.he_turns.specs.declared.attempt.AttemptFuture.{AttemptFuture}
use Rattle.he_turns.specs.declared.attempt.AttemptFuture.TheVariants.{Sleeping, Connecting, Done}
use Rattle.he_turns.specs.declared.attempt.Finish.{Finish}
use Rattle.he_turns.specs.declared.faults.AttemptFault.{AttemptFault}
use Rattle.he_turns.specs.declared.connector.Connector.{Ghosts as ConnectorOf}
use Rattle.he_turns.specs.declared.trial.Trial.{Ghosts as TrialOf}
use Rattle.he_turns.specs.Reach.{AreAmong, ReachAlike}

module _ {C Conn Run : Type 0} (connector : ConnectorOf C Conn Run) (trial : TrialOf Run Conn) where
  -- the answer at `now` of the trial, or of the fault with which a connector could not begin one, and the attempt
  -- that is left
  abbrev pub RunAnswers : Result Run AttemptFault → ℕ → ℕ → Poll (Finish Conn) → AttemptFuture C Conn Run → Type 0
  RunAnswers (Ok run) next now Pending new =
      (run' : Run) × trial.polls run now Pending run' × (new ≡ Connecting (Ok run') next false)
      × AreAmong (trial.may_give run') (trial.may_give run)
  RunAnswers (Ok run) next now (Ready f) new =
      (run' : Run) × trial.polls run now (Ready f.result) run' × (f.tick ≡ now) × (new ≡ Done (next - 1))
      × IfOk f.result (trial.may_give run)
  RunAnswers (Err e) next now Pending new = ⊥
  RunAnswers (Err e) next now (Ready f) new = (f ≡ record { tick = now; result = Err e }) × (new ≡ Done (next - 1))

  -- at or after its start a sleeping attempt begins, and is pending: its trial gives only connections that go to its
  -- address
  abbrev pub Begins : ℕ → Ip → C → ℕ → C → AttemptFuture C Conn Run → Type 0
  Begins place ip c now c' new =
      (run : Result Run AttemptFault) × connector.begins c place ip now run c' × (new ≡ Connecting run (now + 1) true)
      × IfOk run (λ r. AreAmong (trial.may_give r) (connector.reaches c ip))
      × ReachAlike (connector.reaches c) (connector.reaches c')

  -- a poll of an attempt: the steps that it may take, with the connector's state before and after
  abbrev pub AttemptPolls : C → AttemptFuture C Conn Run → ℕ → Poll (Finish Conn) → C → AttemptFuture C Conn Run
      → Type 0
  AttemptPolls c (Sleeping place ip start) now answer c' new =
      (answer ≡ Pending)
      × MatchBool (nat_lt now start) ((c' ≡ c) × (new ≡ Sleeping place ip start)) (Begins place ip c now c' new)
  AttemptPolls c (Connecting run next is_fresh) now answer c' new =
      (c' ≡ c)
      × MatchBool (is_fresh && nat_lt now next)
      ((answer ≡ Pending) × (new ≡ Connecting run next is_fresh)) (RunAnswers run next now answer new)
  AttemptPolls c (Done started) now answer c' new = ⊥

  -- the attempt may be polled: it isn't done, and its trial may
  abbrev pub CanPoll : AttemptFuture C Conn Run → Type 0
  CanPoll (Sleeping place ip start) = ⊤
  CanPoll (Connecting run next is_fresh) = IfOk run trial.can_poll
  CanPoll (Done started) = ⊥

  -- the next tick at which anything can change, if known
  abbrev pub due_of : AttemptFuture C Conn Run → Option ℕ
  due_of (Sleeping place ip start) = Some start
  due_of (Connecting run next true) = Some next
  due_of (Connecting (Ok run) next false) = trial.due_tick run
  due_of (Connecting (Err e) next false) = Some next
  due_of (Done started) = None

  -- the sources that the attempt waits for: none before it polls its trial, then the trial's
  abbrev pub needs_of : AttemptFuture C Conn Run → ℕ → Type 0
  needs_of (Sleeping place ip start) = λ _. ⊥
  needs_of (Connecting run next true) = λ _. ⊥
  needs_of (Connecting (Ok run) next false) = trial.needs run
  needs_of (Connecting (Err e) next false) = λ _. ⊥
  needs_of (Done started) = λ _. ⊥

  -- the attempt leads to the address: it will connect to it, or each connection that its trial may give goes there
  abbrev pub LeadsTo : (Ip → Conn → Type 0) → Ip → AttemptFuture C Conn Run → Type 0
  LeadsTo reaches ip (Sleeping place own start) = own ≡ ip
  LeadsTo reaches ip (Connecting (Ok run) next is_fresh) = AreAmong (trial.may_give run) (reaches ip)
  LeadsTo reaches ip (Connecting (Err e) next is_fresh) = ⊤
  LeadsTo reaches ip (Done started) = ⊤

  -- polls with any connector
  abbrev pub attempt_polls : AttemptFuture C Conn Run → ℕ → Poll (Finish Conn) → AttemptFuture C Conn Run → Type 0
  attempt_polls s now answer s' = (c : C) × (c' : C) × AttemptPolls c s now answer c' s'

-- the tick at which the attempt began, if it has begun
abbrev pub started_of : {C Conn Run : Type 0} → AttemptFuture C Conn Run → Option ℕ
started_of (Sleeping place ip start) = None
started_of (Connecting run next is_fresh) = Some (next - 1)
started_of (Done started) = Some started

-- the attempt has answered
abbrev pub is_done : {C Conn Run : Type 0} → AttemptFuture C Conn Run → Bool
is_done (Done started) = true
is_done _ = false

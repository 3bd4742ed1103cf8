-- What a poll of a race comes to, by what it did.
use Rattle.std.proofs.Common.{◌≡◌, ◌+◌, ℕ, Bool, true, false, MatchBool, min, nat_le, Option, Some, None, Result, IfSome, IsSomeAnd, Ok, Err, sym, subst, inl, inr}
use Rattle.std.specs.List.{slice_get}
use Rattle.std.specs.Option.{option_map}
use Rattle.futures.specs.Poll.{IfReady, OnPending}
use Rattle.futures.specs.declared.task.Poll.{Poll}
use Rattle.futures.specs.declared.task.Poll.TheVariants.{Ready, Pending}
use Rattle.he_addr.specs.declared.ip.Family.{Family}
use Rattle.he_addr.specs.declared.ip.Ip.{Ip}
use Rattle.he_plan.specs.declared.transcript.Line.{Line}
use Rattle.he_plan.specs.declared.transcript.Outcome3.{Outcome3}
use Rattle.he_plan.specs.declared.transcript.Outcome3.TheVariants as results
use Rattle.he_plan.specs.Agreement.{AreAlike}
use Rattle.he_timeline.specs.Race.{Race}
use Rattle.he_turns.specs.declared.connector.Connector.{Ghosts as ConnectorOf}
use Rattle.he_turns.specs.declared.faults.RaceFault.{RaceFault}
use Rattle.he_turns.specs.declared.faults.RaceFault.TheVariants as faults
use Rattle.he_turns.specs.declared.faults.TickFault.{TickFault}
use Rattle.he_turns.specs.declared.faults.TickFault.TheVariants as clocks
use Rattle.he_turns.specs.declared.live.AfterPoll.{AfterPoll}
use Rattle.he_turns.specs.declared.live.AfterPoll.TheVariants as after_polls
use Rattle.he_turns.specs.declared.live.Live.{Live}
use Rattle.he_turns.specs.declared.live.Raced.{Raced}
use Rattle.he_turns.specs.declared.race.RaceFuture.{RaceFuture}
use Rattle.he_turns.specs.declared.ticker.Ticker.{Ghosts as TickerOf}
use Rattle.he_turns.specs.declared.trial.Trial.{Ghosts as TrialOf}
use Rattle.he_turns.specs.Heard.{AnswerLists, Hears, Tells}
use Rattle.he_turns.specs.Kept.{IsLive}
use Rattle.he_turns.specs.OfSource.{ReplaysHeard}
use Rattle.he_turns.specs.Polling.{TurnsFrom}
use Rattle.he_turns.specs.Racing.{PollsFrom, RacePollsBy, StepOf, fault_of}
use Rattle.he_turns.specs.Recording.{slept}
use Rattle.he_turns.specs.Resolving.{HeardAt, HeardFrom, HeardTurn, KeepsGiven, ReplaysGiven}
use Rattle.he_turns.specs.Turns.{GivesBy, PolledAt, PolledFrom, Replays, Turned, begun}
use Rattle.he_turns.specs.Reach.{ReachAlike}
use Rattle.he_turns.specs.Winner.{EndsAt, GoesAt, MayPoll, WinnerGoes}
use Rattle.he_turns.proofs.Heard.{given-alike, given-later, heard-same, unheard-same}
use Rattle.he_turns.proofs.OfSource.{told-alike, told-before, told-end, told-turn}
use Rattle.he_turns.proofs.Turning.{alike-later, slept-alike}
use Rattle.he_turns.proofs.Winning.{AimedOn}

module _ {C Conn Run T : Type 0} (steps : StepOf C Conn Run) (ticker : TickerOf T) where
  pub waits : (old new : RaceFuture C T Conn Run) (live next : Live C Conn Run) (now tick : ℕ) (told : T) (u : Unit {0}) → old.live ≡ Some live → ticker.tells old.ticker now told → steps old.connector live now new.connector (after_polls.Waits next tick) → ticker.wakes told tick (Ok u) new.ticker → new.live ≡ Some next → RacePollsBy steps ticker old Pending new
  waits old new live next now tick told u was tells polled asks next_is =
      subst (λ (x : Option (Live C Conn Run)). PollsFrom steps ticker x old Pending new) (sym was) (record {
        asked = record { now = now; told = told; tells = tells; next = next; tick = tick; polled = polled; asks = asks };
        next = next_is;
      })

  pub ends : (old new : RaceFuture C T Conn Run) (live : Live C Conn Run) (now : ℕ) (raced : Raced Conn) → old.live ≡ Some live → ticker.tells old.ticker now new.ticker → steps old.connector live now new.connector (after_polls.Ended raced) → RacePollsBy steps ticker old (Ready (Ok raced)) new
  ends old new live now raced was tells polled =
      subst (λ (x : Option (Live C Conn Run)). PollsFrom steps ticker x old (Ready (Ok raced)) new) (sym was) (record { now = now; tells = tells; polled = polled })

  pub fails : (old new : RaceFuture C T Conn Run) (live next : Live C Conn Run) (now tick : ℕ) (told : T) (fault : TickFault) → old.live ≡ Some live → ticker.tells old.ticker now told → steps old.connector live now new.connector (after_polls.Waits next tick) → ticker.wakes told tick (Err fault) new.ticker → RacePollsBy steps ticker old (Ready (Err (fault_of fault))) new
  fails old new live next now tick told clocks.Memory was tells polled asks =
      subst (λ (x : Option (Live C Conn Run)). PollsFrom steps ticker x old (Ready (Err faults.Memory)) new) (sym was) tt
  fails old new live next now tick told clocks.Lost was tells polled asks =
      subst (λ (x : Option (Live C Conn Run)). PollsFrom steps ticker x old (Ready (Err faults.Clock)) new) (sym was) (record { now = now; told = told; tells = tells; next = next; tick = tick; polled = polled; asks = asks })

  pub refused : (old new : RaceFuture C T Conn Run) (live : Live C Conn Run) → old.live ≡ Some live → RacePollsBy steps ticker old (Ready (Err faults.Memory)) new
  refused old new live was =
      subst (λ (x : Option (Live C Conn Run)). PollsFrom steps ticker x old (Ready (Err faults.Memory)) new) (sym was) tt

  -- a poll by steps that are others too
  module _ (others : StepOf C Conn Run) (weaker : (c c' : C) (live : Live C Conn Run) (now : ℕ) (step : AfterPoll C Conn Run) → steps c live now c' step → others c live now c' step) where
    polls_from : (x : Option (Live C Conn Run)) (old new : RaceFuture C T Conn Run) (result : Poll (Result (Raced Conn) RaceFault)) → PollsFrom steps ticker x old result new → PollsFrom others ticker x old result new
    polls_from None old new result h = h
    polls_from (Some live) old new Pending h = record {
      asked = record { now = h.asked.now; told = h.asked.told; tells = h.asked.tells; next = h.asked.next; tick = h.asked.tick; polled = weaker old.connector new.connector live h.asked.now _ h.asked.polled; asks = h.asked.asks };
      next = h.next;
    }
    polls_from (Some live) old new (Ready (Ok raced)) h = record { now = h.now; tells = h.tells; polled = weaker old.connector new.connector live h.now _ h.polled }
    polls_from (Some live) old new (Ready (Err faults.Memory)) h = tt
    polls_from (Some live) old new (Ready (Err faults.Clock)) h = record { now = h.now; told = h.told; tells = h.tells; next = h.next; tick = h.tick; polled = weaker old.connector new.connector live h.now _ h.polled; asks = h.asks }
    polls_from (Some live) old new (Ready (Err faults.Over)) h = absurd h

    pub polls-as : (old new : RaceFuture C T Conn Run) (result : Poll (Result (Raced Conn) RaceFault)) → RacePollsBy steps ticker old result new → RacePollsBy others ticker old result new
    polls-as old new result h = polls_from old.live old new result h

-- after a poll that goes on: what is said of an end of the race then is said of one before
pub record GoneOn {C Conn Run : Type 0} (connector : ConnectorOf C Conn Run) (trial : TrialOf Run Conn) (said after : Race → Raced Conn → Type 0) (live next : Live C Conn Run) : Type 0 where
  pub kept : IsLive connector trial next
  pub later : (raced : Raced Conn) → after next.recorder.recorded raced → said live.recorder.recorded raced

-- what a race gives of whose ends this is said, before a poll and after it
module _ {C Conn Run T : Type 0} (connector : ConnectorOf C Conn Run) (trial : TrialOf Run Conn) (steps : StepOf C Conn Run) (ticker : TickerOf T) (said after : Race → Raced Conn → Type 0)
    (ends : (c c' : C) (live : Live C Conn Run) (now : ℕ) (raced : Raced Conn) → steps c live now c' (after_polls.Ended raced) → said live.recorder.recorded raced)
    (goes : (c c' : C) (live next : Live C Conn Run) (now tick : ℕ) → IsLive connector trial live → steps c live now c' (after_polls.Waits next tick) → GoneOn connector trial said after live next)
    (wins : (c c' : C) (live : Live C Conn Run) (now : ℕ) (raced : Raced Conn) → MayPoll connector trial c live → steps c live now c' (after_polls.Ended raced) → WinnerGoes (connector.reaches c) raced)
    (aims : (c c' : C) (live next : Live C Conn Run) (now tick : ℕ) → MayPoll connector trial c live → steps c live now c' (after_polls.Waits next tick) → AimedOn connector trial c c' next) where
  abbrev record_of : Option (Live C Conn Run) → Option Race
  record_of x = option_map (λ (live : Live C Conn Run). live.recorder.recorded) x

  gives_from : (x : Option (Live C Conn Run)) (old new : RaceFuture C T Conn Run) (result : Poll (Result (Raced Conn) RaceFault)) → IfSome x (MayPoll connector trial old.connector) → PollsFrom steps ticker x old result new → IfReady result (GivesBy (EndsAt said (connector.reaches old.connector)) (record_of x))
  gives_from None old new Pending is h = tt
  gives_from None old new (Ready (Ok raced)) is h = cc (h.0)
  gives_from None old new (Ready (Err fault)) is h = cc (h.0)
  gives_from (Some live) old new Pending is h = tt
  gives_from (Some live) old new (Ready (Ok raced)) is h = record { end = ends old.connector new.connector live h.now raced h.polled; winner = wins old.connector new.connector live h.now raced is h.polled }
  gives_from (Some live) old new (Ready (Err faults.Memory)) is h = tt
  gives_from (Some live) old new (Ready (Err faults.Clock)) is h = tt
  gives_from (Some live) old new (Ready (Err faults.Over)) is h = absurd h

  pub poll-gives : (old new : RaceFuture C T Conn Run) (result : Poll (Result (Raced Conn) RaceFault)) → IfSome old.live (MayPoll connector trial old.connector) → RacePollsBy steps ticker old result new → IfReady result (GivesBy (EndsAt said (connector.reaches old.connector)) (record_of old.live))
  poll-gives old new result is h = gives_from old.live old new result is h

  again_from : (x : Option (Live C Conn Run)) (old new : RaceFuture C T Conn Run) (result : Poll (Result (Raced Conn) RaceFault)) → IfSome x (MayPoll connector trial old.connector) → PollsFrom steps ticker x old result new → OnPending result (IfSome new.live (MayPoll connector trial new.connector))
  again_from None old new Pending is h = cc (h.0)
  again_from None old new (Ready given) is h = tt
  again_from (Some live) old new Pending is h =
      let may : MayPoll connector trial new.connector h.asked.next = record {
        kept = (goes old.connector new.connector live h.asked.next h.asked.now h.asked.tick is.kept h.asked.polled).kept;
        aimed = (aims old.connector new.connector live h.asked.next h.asked.now h.asked.tick is h.asked.polled).aimed;
      } in
      subst (λ (z : Option (Live C Conn Run)). IfSome z (MayPoll connector trial new.connector)) (sym h.next) may
  again_from (Some live) old new (Ready given) is h = tt

  pub poll-again : (old new : RaceFuture C T Conn Run) (result : Poll (Result (Raced Conn) RaceFault)) → IfSome old.live (MayPoll connector trial old.connector) → RacePollsBy steps ticker old result new → OnPending result (IfSome new.live (MayPoll connector trial new.connector))
  poll-again old new result is h = again_from old.live old new result is h

  goes_alike : (first second : Ip → Conn → Type 0) → ReachAlike first second → (raced : Raced Conn) (winner : Option Conn) → IfSome winner (GoesAt second raced.transcript.lines raced.transcript.result) → IfSome winner (GoesAt first raced.transcript.lines raced.transcript.result)
  goes_alike first second e raced None h = tt
  goes_alike first second e raced (Some conn) h = by_result raced.transcript.result h
    where
      by_line : (line : Option Line) → IsSomeAnd line (λ (l : Line). second l.ip conn) → IsSomeAnd line (λ (l : Line). first l.ip conn)
      by_line None h = h
      by_line (Some l) h = (e l.ip).1 conn h

      by_result : (result : Outcome3) → GoesAt second raced.transcript.lines result conn → GoesAt first raced.transcript.lines result conn
      by_result (results.Won place tick) h = by_line (slice_get raced.transcript.lines place) h
      by_result (results.Exhausted tick) h = h
      by_result (results.Limit tick) h = h

  gives_later : (first second : Ip → Conn → Type 0) → ReachAlike first second → (live next : Live C Conn Run) → GoneOn connector trial said after live next → (r : Result (Raced Conn) RaceFault) → GivesBy (EndsAt after second) (Some next.recorder.recorded) r → GivesBy (EndsAt said first) (Some live.recorder.recorded) r
  gives_later first second e live next g (Ok raced) h = record { end = g.later raced h.end; winner = goes_alike first second e raced raced.winner h.winner }
  gives_later first second e live next g (Err faults.Memory) h = tt
  gives_later first second e live next g (Err faults.Clock) h = tt
  gives_later first second e live next g (Err faults.Over) h = absurd h

  same_from : (x : Option (Live C Conn Run)) (old new : RaceFuture C T Conn Run) (result : Poll (Result (Raced Conn) RaceFault)) → IfSome x (MayPoll connector trial old.connector) → PollsFrom steps ticker x old result new
      → OnPending result ((r : Result (Raced Conn) RaceFault) → GivesBy (EndsAt after (connector.reaches new.connector)) (record_of new.live) r → GivesBy (EndsAt said (connector.reaches old.connector)) (record_of x) r)
  same_from None old new Pending is h = cc (h.0)
  same_from None old new (Ready given) is h = tt
  same_from (Some live) old new Pending is h = λ r given.
      gives_later (connector.reaches old.connector) (connector.reaches new.connector) (aims old.connector new.connector live h.asked.next h.asked.now h.asked.tick is h.asked.polled).still live h.asked.next
      (goes old.connector new.connector live h.asked.next h.asked.now h.asked.tick is.kept h.asked.polled) r (subst (λ (z : Option (Live C Conn Run)). GivesBy (EndsAt after (connector.reaches new.connector)) (record_of z) r) h.next given)
  same_from (Some live) old new (Ready given) is h = tt

  pub poll-same : (old new : RaceFuture C T Conn Run) (result : Poll (Result (Raced Conn) RaceFault)) → IfSome old.live (MayPoll connector trial old.connector) → RacePollsBy steps ticker old result new
      → OnPending result ((r : Result (Raced Conn) RaceFault) → GivesBy (EndsAt after (connector.reaches new.connector)) (record_of new.live) r → GivesBy (EndsAt said (connector.reaches old.connector)) (record_of old.live) r)
  poll-same old new result is h = same_from old.live old new result is h

module _ {C Conn Run : Type 0} (connector : ConnectorOf C Conn Run) (trial : TrialOf Run Conn) where
  pub live-of : (x : Option (Live C Conn Run)) (live : Live C Conn Run) → x ≡ Some live → IfSome x (IsLive connector trial) → IsLive connector trial live
  live-of x live e h = subst (λ (y : Option (Live C Conn Run)). IfSome y (IsLive connector trial)) e h

  replays-later : (x y : Race) (raced : Raced Conn) → AreAlike x y → Replays y raced → Replays x raced
  replays-later x y raced e h = record { alike = alike-later x y raced.recorded e h.alike; transcript = h.transcript; winner = h.winner }

  turned-gives : (c c' : C) (live : Live C Conn Run) (now : ℕ) (raced : Raced Conn) → Turned connector trial c live now c' (after_polls.Ended raced) → Replays live.recorder.recorded raced
  turned-gives c c' live now raced (inl e) = replays-later live.recorder.recorded _ raced (slept-alike live.recorder.recorded live.recorder.due now) e.replays
  turned-gives c c' live now raced (inr e) = replays-later live.recorder.recorded _ raced (slept-alike live.recorder.recorded live.recorder.due now) e.replays

  ended-gives : (c c' : C) (live : Live C Conn Run) (at : ℕ) (raced : Raced Conn) (turn : Option ℕ) → PolledFrom connector trial turn c live at c' (after_polls.Ended raced) → Replays live.recorder.recorded raced
  ended-gives c c' live at raced None h = turned-gives c c' live at raced h
  ended-gives c c' live at raced (Some turn) h = by_test (nat_le at turn) h
    where
      by_test : (b : Bool) → MatchBool b ((c' ≡ c) × (after_polls.Ended raced ≡ after_polls.Waits live (turn + 1))) (Turned connector trial c live at c' (after_polls.Ended raced)) → Replays live.recorder.recorded raced
      by_test true h = cc (h.1)
      by_test false h = turned-gives c c' live at raced h

  pub polled-ends : (c c' : C) (live : Live C Conn Run) (now : ℕ) (raced : Raced Conn) → PolledAt connector trial c live now c' (after_polls.Ended raced) → Replays live.recorder.recorded raced
  polled-ends c c' live now raced h = ended-gives c c' live (min now (live.recorder.recorded.settings.limit + 1)) raced live.recorder.turn h

  gone : (c c' : C) (live next : Live C Conn Run) (at tick : ℕ) (turn : Option ℕ) → IsLive connector trial live → PolledFrom connector trial turn c live at c' (after_polls.Waits next tick) → GoneOn connector trial Replays Replays live next
  gone c c' live next at tick None is h = record {
    kept = h.kept;
    later = λ raced g. replays-later live.recorder.recorded next.recorder.recorded raced (alike-later live.recorder.recorded _ next.recorder.recorded (slept-alike live.recorder.recorded live.recorder.due at) h.alike) g;
  }
  gone c c' live next at tick (Some turn) is h = by_test (nat_le at turn) h
    where
      by_test : (b : Bool) → MatchBool b ((c' ≡ c) × (after_polls.Waits next tick ≡ after_polls.Waits live (turn + 1))) (Turned connector trial c live at c' (after_polls.Waits next tick)) → GoneOn connector trial Replays Replays live next
      by_test true h =
          let same : next ≡ live = cc (h.1) in
          subst (GoneOn connector trial Replays Replays live) (sym same) (record { kept = is; later = λ raced g. g })
      by_test false h = record {
        kept = h.kept;
        later = λ raced g. replays-later live.recorder.recorded next.recorder.recorded raced (alike-later live.recorder.recorded _ next.recorder.recorded (slept-alike live.recorder.recorded live.recorder.due at) h.alike) g;
      }

  pub polled-goes : (c c' : C) (live next : Live C Conn Run) (now tick : ℕ) → IsLive connector trial live → PolledAt connector trial c live now c' (after_polls.Waits next tick) → GoneOn connector trial Replays Replays live next
  polled-goes c c' live next now tick is h = gone c c' live next (min now (live.recorder.recorded.settings.limit + 1)) tick live.recorder.turn is h

module _ {S C Conn Run : Type 0} (hears : Tells S) (connector : ConnectorOf C Conn Run) (trial : TrialOf Run Conn) where
  replays_given : (x y : Race) (raced : Raced Conn) → KeepsGiven x y → Replays y raced → ReplaysGiven x raced
  replays_given x y raced k h = record { kept = given-later x y raced.recorded k (given-alike y raced.recorded h.alike); transcript = h.transcript; winner = h.winner }

  given_later : (x y : Race) (raced : Raced Conn) → KeepsGiven x y → ReplaysGiven y raced → ReplaysGiven x raced
  given_later x y raced k h = record { kept = given-later x y raced.recorded k h.kept; transcript = h.transcript; winner = h.winner }

  slept_given : (live : Live C Conn Run) (now : ℕ) → KeepsGiven live.recorder.recorded (slept live.recorder.recorded live.recorder.due now)
  slept_given live now = given-alike live.recorder.recorded (slept live.recorder.recorded live.recorder.due now) (slept-alike live.recorder.recorded live.recorder.due now)

  -- what is recorded so far stays in a turn in which answers come
  heard_given : (s s' : S) (live : Live C Conn Run) (now : ℕ) (race : Race) → Hears hears s (slept live.recorder.recorded live.recorder.due now) now s' race → KeepsGiven live.recorder.recorded race
  heard_given s s' live now race h =
      given-later live.recorder.recorded (slept live.recorder.recorded live.recorder.due now) race (slept_given live now) (heard-same hears s s' (slept live.recorder.recorded live.recorder.due now) race now h).kept

  -- what is said of the end of a race with the source in this state
  abbrev Said : S → Race → Raced Conn → Type 0
  Said s = ReplaysHeard {S = S} {Conn = Conn} hears s

  heard_ends : (s s' : S) (c c' : C) (live : Live C Conn Run) (now : ℕ) (raced : Raced Conn) → HeardTurn hears connector trial s c live now s' c' (after_polls.Ended raced) → Said s live.recorder.recorded raced
  heard_ends s s' c c' live now raced (inl e) = record {
    replays = replays_given live.recorder.recorded _ raced (slept_given live now) e.1.replays;
    source = told-end hears s s live.recorder.recorded raced.recorded (told-alike hears s live.recorder.recorded raced.recorded (alike-later live.recorder.recorded _ raced.recorded (slept-alike live.recorder.recorded live.recorder.due now) e.1.replays.alike));
  }
  heard_ends s s' c c' live now raced (inr e) = record {
    replays = replays_given live.recorder.recorded e.race raced (heard_given s s' live now e.race e.heard) e.turns.replays;
    source = told-end hears s s' live.recorder.recorded raced.recorded (told-turn hears s s' live.recorder.recorded _ e.race raced.recorded now (slept-alike live.recorder.recorded live.recorder.due now) e.heard e.turns.replays.alike);
  }

  heard_goes : (s s' : S) (c c' : C) (live next : Live C Conn Run) (now tick : ℕ) → HeardTurn hears connector trial s c live now s' c' (after_polls.Waits next tick) → GoneOn connector trial (Said s) (Said s') live next
  heard_goes s s' c c' live next now tick (inl e) = absurd e
  heard_goes s s' c c' live next now tick (inr e) = record {
    kept = e.turns.kept;
    later = λ raced g. record {
      replays = given_later live.recorder.recorded next.recorder.recorded raced (given-later live.recorder.recorded e.race next.recorder.recorded (heard_given s s' live now e.race e.heard) (given-alike e.race next.recorder.recorded e.turns.alike)) g.replays;
      source = told-before hears s s' live.recorder.recorded next.recorder.recorded raced.recorded (told-turn hears s s' live.recorder.recorded _ e.race next.recorder.recorded now (slept-alike live.recorder.recorded live.recorder.due now) e.heard e.turns.alike) g.source;
    };
  }

  -- a poll takes a turn, or nothing changes
  by_turn : (P : AfterPoll C Conn Run → Type 0) (turn : Option ℕ) (s s' : S) (c c' : C) (live : Live C Conn Run) (at : ℕ) (step : AfterPoll C Conn Run) → ((n : ℕ) → s' ≡ s → step ≡ after_polls.Waits live (n + 1) → P step) → (HeardTurn hears connector trial s c live at s' c' step → P step) → HeardFrom hears connector trial turn s c live at s' c' step → P step
  by_turn P None s s' c c' live at step none some h = some h
  by_turn P (Some turn) s s' c c' live at step none some h = by_test (nat_le at turn) h
    where
      by_test : (b : Bool) → MatchBool b ((s' ≡ s) × (c' ≡ c) × (step ≡ after_polls.Waits live (turn + 1))) (HeardTurn hears connector trial s c live at s' c' step) → P step
      by_test true h = none turn h.0 h.2
      by_test false h = some h

  pub heard-ends : (s s' : S) (c c' : C) (live : Live C Conn Run) (now : ℕ) (raced : Raced Conn) → HeardAt hears connector trial s c live now s' c' (after_polls.Ended raced) → Said s live.recorder.recorded raced
  heard-ends s s' c c' live now raced h =
      by_turn (λ step. Said s live.recorder.recorded raced) live.recorder.turn s s' c c' live (min now (live.recorder.recorded.settings.limit + 1)) (after_polls.Ended raced) (λ n same e. cc) (heard_ends s s' c c' live (min now (live.recorder.recorded.settings.limit + 1)) raced) h

  pub heard-goes : (s s' : S) (c c' : C) (live next : Live C Conn Run) (now tick : ℕ) → IsLive connector trial live → HeardAt hears connector trial s c live now s' c' (after_polls.Waits next tick) → GoneOn connector trial (Said s) (Said s') live next
  heard-goes s s' c c' live next now tick is h =
      by_turn (λ step. GoneOn connector trial (Said s) (Said s') live next) live.recorder.turn s s' c c' live (min now (live.recorder.recorded.settings.limit + 1)) (after_polls.Waits next tick) (λ n same e. still next (same_next n e) same) (heard_goes s s' c c' live next (min now (live.recorder.recorded.settings.limit + 1)) tick) h
    where
      same_next : (n : ℕ) → after_polls.Waits next tick ≡ after_polls.Waits live (n + 1) → next ≡ live
      same_next n e = cc

      unmoved : (t : S) → t ≡ s → GoneOn connector trial (Said s) (Said t) live live
      unmoved t same = subst (λ (z : S). GoneOn connector trial (Said s) (Said z) live live) (sym same) (record { kept = is; later = λ raced g. g })

      still : (x : Live C Conn Run) → x ≡ live → s' ≡ s → GoneOn connector trial (Said s) (Said s') live x
      still x e same = subst (GoneOn connector trial (Said s) (Said s') live) (sym e) (unmoved s' same)

  -- over a source that tells nothing the race is the one of which all answers were given
  module _ (silent : (s : S) (family : Family) (now : ℕ) (told : Option AnswerLists) (s' : S) → hears s family now told s' → told ≡ None) where
    unheard_turn : (s s' : S) (c c' : C) (live : Live C Conn Run) (now : ℕ) (step : AfterPoll C Conn Run) → HeardTurn hears connector trial s c live now s' c' step → Turned connector trial c live now c' step
    unheard_turn s s' c c' live now (after_polls.Ended raced) (inl e) = inl e.1
    unheard_turn s s' c c' live now (after_polls.Waits next tick) (inl e) = absurd e
    unheard_turn s s' c c' live now (after_polls.Ended raced) (inr e) =
        inr (subst (λ (race : Race). TurnsFrom connector trial (record (begun c live now) { recorded = race }) live.unfinished.items now c' (after_polls.Ended raced)) (unheard-same hears silent s s' _ e.race now e.heard) e.turns)
    unheard_turn s s' c c' live now (after_polls.Waits next tick) (inr e) =
        subst (λ (race : Race). TurnsFrom connector trial (record (begun c live now) { recorded = race }) live.unfinished.items now c' (after_polls.Waits next tick)) (unheard-same hears silent s s' _ e.race now e.heard) e.turns

    unheard_from : (turn : Option ℕ) (s s' : S) (c c' : C) (live : Live C Conn Run) (at : ℕ) (step : AfterPoll C Conn Run) → HeardFrom hears connector trial turn s c live at s' c' step → PolledFrom connector trial turn c live at c' step
    unheard_from None s s' c c' live at step h = unheard_turn s s' c c' live at step h
    unheard_from (Some turn) s s' c c' live at step h = by_test (nat_le at turn) h
      where
        by_test : (b : Bool) → MatchBool b ((s' ≡ s) × (c' ≡ c) × (step ≡ after_polls.Waits live (turn + 1))) (HeardTurn hears connector trial s c live at s' c' step) → MatchBool b ((c' ≡ c) × (step ≡ after_polls.Waits live (turn + 1))) (Turned connector trial c live at c' step)
        by_test true h = (h.1, h.2)
        by_test false h = unheard_turn s s' c c' live at step h

    pub unheard-at : (s s' : S) (c c' : C) (live : Live C Conn Run) (now : ℕ) (step : AfterPoll C Conn Run) → HeardAt hears connector trial s c live now s' c' step → PolledAt connector trial c live now c' step
    unheard-at s s' c c' live now step h = unheard_from live.recorder.turn s s' c c' live (min now (live.recorder.recorded.settings.limit + 1)) step h

-- What a poll of a race that follows a script comes to, over a ticker that then jumps.
use Rattle.std.proofs.Common.{◌≡◌, ℕ, ◌+◌, ◌≤◌, ◌<◌, Bool, true, false, List, [], ◌∷◌, if◌then◌else◌, max, min, Option, Some, None, Result, Ok, Err, IfOk, IsOk, IsSomeAnd, refl, sym, ◌∙◌, ap, subst, arith, inl, inr}
use Rattle.std.specs.BTreeSet.{insert_key}
use Rattle.std.specs.List.{All, list_all}
use Rattle.std.specs.Ordering.{nat_cmp}
use Rattle.std.proofs.lemmas.List.Elements.{All-nil}
use Rattle.futures.specs.declared.task.Poll.{Poll}
use Rattle.futures.specs.declared.task.Poll.TheVariants.{Ready, Pending}
use Rattle.he_plan.specs.declared.attempts.Attempt.{Attempt}
use Rattle.he_plan.specs.Agreement.{AreAlike}
use Rattle.he_plan.specs.Attempts.{AreNextInTurn}
use Rattle.he_timeline.specs.Seen.{IsSeen, is_paused, seen}
use Rattle.he_plan.specs.Due.{IsAfterTurn}
use Rattle.he_timeline.specs.Race.{Race, Reply}
use Rattle.he_timeline.specs.Timeline.{IsRace}
use Rattle.he_plan.specs.Transcript.{IsTranscript}
use Rattle.he_timeline.proofs.Bools.{clash, lt_test, not_lt}
use Rattle.he_plan.proofs.InTurn.{in_turn-none}
use Rattle.he_timeline.proofs.Seen.{IsSeen-seen}
use Rattle.he_turns.specs.declared.connector.Connector.{Ghosts as ConnectorOf}
use Rattle.he_turns.specs.declared.faults.RaceFault.{RaceFault}
use Rattle.he_turns.specs.declared.faults.RaceFault.TheVariants as faults
use Rattle.he_turns.specs.declared.faults.TickFault.TheVariants as clocks
use Rattle.he_turns.specs.declared.live.Live.{Live}
use Rattle.he_turns.specs.declared.live.Raced.{Raced}
use Rattle.he_turns.specs.declared.live.Unfinished.{Unfinished}
use Rattle.he_turns.specs.declared.race.RaceFuture.{RaceFuture}
use Rattle.he_race.specs.declared.scripted.ScriptedTrial.{ScriptedTrial}
use Rattle.he_turns.specs.declared.ticker.Ticker.{Ghosts as TickerOf}
use Rattle.he_race.specs.Following.{Follows, GivesScripts, IsAsScripted, IsConnecting, IsScript, IsUnderWay, SeesAs, is_held}
use Rattle.he_turns.specs.Racing.{AsksFor, Ends, GoesOn, LivePolls, PollsFrom, RacePolls}
use Rattle.he_turns.specs.Kept.{first_after, IsLive}
use Rattle.he_race.specs.Running.{IsScripted, scripted_trial}
use Rattle.he_turns.specs.Turns.{Goes, IsNew, PolledAt, begun}
use Rattle.he_turns.specs.Winner.{MayPoll}
use Rattle.he_race.specs.Wheel.{Asks, Jumps, Wheel, counted, last_tick, moved}
use Rattle.he_race.proofs.Finished.{ended-late, ended-polled}
use Rattle.he_race.proofs.Onward.{follows-on}
use Rattle.he_race.proofs.Runs.{seen_from}
use Rattle.he_turns.proofs.Turned.{polled-turned}
use Rattle.he_turns.proofs.Turning.{same_limit}
use Rattle.he_turns.proofs.Winning.{polled-aims-on}

-- what a ticker that jumps does
abbrev pub wheel_ticker : TickerOf Wheel
wheel_ticker = record { tells = λ w tick left. (tick ≡ w.at) × (left ≡ w); wakes = Asks }

-- a ticker that was asked for a tick goes on
pub went-by : {E : Type 0} (old left : Wheel) (r : Result Bool E) → IsOk r → IfOk r (λ went. Jumps old went left) → (went : Bool) × Jumps old went left
went-by old left (Ok went) ok h = (went, h)
went-by old left (Err fault) ok h = absurd (clash false ok refl)

module _ {C : Type 0} (connector : ConnectorOf C (Unit {0}) ScriptedTrial) where
  abbrev Future : Type 0
  Future = RaceFuture C Wheel (Unit {0}) ScriptedTrial

  live_polls : (old new : Future) (live : Live C (Unit {0}) ScriptedTrial) (result : Poll (Result (Raced (Unit {0})) RaceFault)) → old.live ≡ Some live → RacePolls connector scripted_trial wheel_ticker old result new → LivePolls (PolledAt connector scripted_trial) wheel_ticker old live result new
  live_polls old new live result is h = subst (λ (x : Option (Live C (Unit {0}) ScriptedTrial)). PollsFrom (PolledAt connector scripted_trial) wheel_ticker x old result new) is h

  -- what a race that ends gives
  pub gives-script : (turns : ℕ) (old new : Future) (given : Result (Raced (Unit {0})) RaceFault) → IsUnderWay connector turns old → RacePolls connector scripted_trial wheel_ticker old (Ready given) new → GivesScripts old.ticker.race given
  gives-script turns old new given u h = by_given given (live_polls old new u.live (Ready given) u.is h)
    where
      ended : (raced : Raced (Unit {0})) → Ends (PolledAt connector scripted_trial) wheel_ticker old u.live new raced → IsTranscript old.ticker.race raced.transcript
      ended raced e =
          elim (polled-turned connector scripted_trial old.connector new.connector u.live old.ticker.at u.kept.kept u.follows.later e.now e.tells.0 _ e.polled) [
            | inl late ↦ ended-late connector old.ticker.race u.script old.connector u.scripted u.live old.ticker.at u.follows u.kept.kept (min old.ticker.at (u.live.recorder.recorded.settings.limit + 1)) new.connector raced refl late
            | inr swept ↦ ended-polled connector old.ticker.race u.script old.connector u.scripted u.live old.ticker.at u.follows u.kept.kept (min old.ticker.at (u.live.recorder.recorded.settings.limit + 1)) new.connector raced refl swept
          ]

      by_given : (given : Result (Raced (Unit {0})) RaceFault) → LivePolls (PolledAt connector scripted_trial) wheel_ticker old u.live (Ready given) new → GivesScripts old.ticker.race given
      by_given (Ok raced) e = ended raced e
      by_given (Err faults.Memory) e = refl
      by_given (Err faults.Clock) e = let lost : clocks.Lost ≡ clocks.Memory = e.asks.0 in cc
      by_given (Err faults.Over) e = absurd e

  -- where the ticker stands once it was asked for a tick and has gone on
  gone : (w asked left : Wheel) (went : Bool) (tick : ℕ) → IsRace w.race → w.asked ≡ [] → w.at < last_tick → asked ≡ record w { asked = insert_key nat_cmp w.asked (counted w.at tick) } → Jumps asked went left → left ≡ record w { at = seen w.race (max tick (w.at + 1)); asked = [] }
  gone w asked left went tick valid none early is jumps =
      let next : ℕ = max tick (w.at + 1) in
      let counts : counted w.at tick ≡ max tick (w.at + 1) = ap (λ (b : Bool). max tick (if b then w.at + 1 else w.at)) (lt_test w.at last_tick early) in
      let one : asked ≡ record w { asked = max tick (w.at + 1) ∷ [] } = is ∙ ap (λ (xs : List ℕ). record w { asked = insert_key nat_cmp xs (counted w.at tick) }) none ∙ ap (λ (n : ℕ). record w { asked = n ∷ [] }) counts in
      let jump : (went ≡ true) × (left ≡ moved (record w { asked = max tick (w.at + 1) ∷ [] }) (max tick (w.at + 1))) = subst (λ (v : Wheel). Jumps v went left) one jumps in
      jump.1 ∙ ap (λ (b : Bool). record w { at = seen w.race (max tick (w.at + 1)); asked = if b then max tick (w.at + 1) ∷ [] else [] }) (not_lt (seen w.race (max tick (w.at + 1))) (max tick (w.at + 1)) (seen_from w.race valid (max tick (w.at + 1))))

  -- a race that goes on, once its ticker has gone on to the tick asked for
  pub goes-further : (turns : ℕ) (old polled : Future) (left : Wheel) (went : Bool) → IsUnderWay connector turns old → RacePolls connector scripted_trial wheel_ticker old Pending polled → Jumps polled.ticker went left → IsUnderWay connector (turns + 1) (record polled { ticker = left }) × (left.race ≡ old.ticker.race)
  goes-further turns old polled left went u h jumps = by_asked (live_polls old polled u.live Pending u.is h)
    where
      limit : ℕ
      limit = u.live.recorder.recorded.settings.limit

      by_asked : GoesOn (PolledAt connector scripted_trial) wheel_ticker old u.live polled → IsUnderWay connector (turns + 1) (record polled { ticker = left }) × (left.race ≡ old.ticker.race)
      by_asked g =
          let a : AsksFor (PolledAt connector scripted_trial) wheel_ticker old u.live polled (Ok tt) = g.asked in
          let t : Goes connector scripted_trial (begun old.connector u.live (min old.ticker.at (limit + 1))) u.live.unfinished.items (min old.ticker.at (limit + 1)) polled.connector a.next a.tick = polled-turned connector scripted_trial old.connector polled.connector u.live old.ticker.at u.kept.kept u.follows.later a.now a.tells.0 _ a.polled in
          let on = follows-on connector old.ticker.race u.script old.connector u.scripted u.live old.ticker.at u.follows u.kept.kept (min old.ticker.at (limit + 1)) polled.connector a.next a.tick refl t in
          let early : old.ticker.at < last_tick = early_by a.next t.kept on.2 in
          let stands : left ≡ record old.ticker { at = seen old.ticker.race (max a.tick (old.ticker.at + 1)); asked = [] } = gone old.ticker polled.ticker left went a.tick u.script.valid u.asked early (a.asks ∙ ap (λ (w : Wheel). record w { asked = insert_key nat_cmp w.asked (counted w.at a.tick) }) a.tells.1) jumps in (
            rw stands (record {
              script = u.script;
              live = a.next;
              is = g.next;
              kept = record { kept = t.kept; aimed = (polled-aims-on connector scripted_trial old.connector polled.connector u.live a.next a.now a.tick u.kept a.polled).aimed };
              scripted = subst (IsScripted connector old.ticker.race) (sym on.1) u.scripted;
              follows = on.0;
              asked = refl;
              turns_by = let above : first_after a.next.recorder.turn ≡ old.ticker.at + 1 = ap first_after on.2 in omega (arith, u.turns_by, u.follows.later);
            }),
            ap (λ (w : Wheel). w.race) stands,
          )
        where
          early_by : (next : Live C (Unit {0}) ScriptedTrial) → IsLive connector scripted_trial next → next.recorder.turn ≡ Some old.ticker.at → old.ticker.at < last_tick
          early_by next kept turn =
              let after : IsAfterTurn next.recorder.recorded (Some old.ticker.at) next.recorder.underway.attempts = subst (λ (o : Option ℕ). IsAfterTurn next.recorder.recorded o next.recorder.underway.attempts) turn kept.recorder.rests.after in
              omega (arith, after.1, kept.recorder.rests.valid.settings.limit_most)

  -- a race that goes on has taken no more turns than there are ticks up to its limit
  pub few-turns : (turns : ℕ) (race : Future) → IsUnderWay connector turns race → turns ≤ race.ticker.race.settings.limit
  few-turns turns race u =
      let same : u.live.recorder.recorded.settings.limit ≡ race.ticker.race.settings.limit = same_limit race.ticker.race u.live.recorder.recorded u.follows.alike in
      let by : first_after u.live.recorder.turn ≤ u.live.recorder.recorded.settings.limit = by_turn u.live.recorder.turn u.kept.kept.recorder.rests.after in
      omega (arith, u.turns_by)
    where
      by_turn : (turn : Option ℕ) → IsAfterTurn u.live.recorder.recorded turn u.live.recorder.underway.attempts → first_after turn ≤ u.live.recorder.recorded.settings.limit
      by_turn None after = omega arith
      by_turn (Some n) after = omega (arith, after.1)

-- a race before its first poll
pub starts-under_way : {C : Type 0} (connector : ConnectorOf C (Unit {0}) ScriptedTrial) (script : Race) → IsScript script → (future : RaceFuture C Wheel (Unit {0}) ScriptedTrial) → IsScripted connector script future.connector → future.ticker ≡ record { race = script; at = seen script 0; asked = [] } → (x : Option (Live C (Unit {0}) ScriptedTrial)) → future.live ≡ x → IsSomeAnd x (MayPoll connector scripted_trial future.connector) → IsSomeAnd x (IsNew script) → IsUnderWay connector 0 future
starts-under_way connector script ss future scripted ticker None is kept new = absurd kept
starts-under_way {C} connector script ss future scripted ticker (Some live) is kept new =
    let race_is : future.ticker.race ≡ script = ap (λ (w : Wheel). w.race) ticker in
    let at_is : future.ticker.at ≡ seen script 0 = ap (λ (w : Wheel). w.at) ticker in
    record {
      script = subst IsScript (sym race_is) ss;
      live = live;
      is = is;
      kept = kept;
      scripted = subst (λ (z : Race). IsScripted connector z future.connector) (sym race_is) scripted;
      follows = rw (race_is, at_is) first;
      asked = ap (λ (w : Wheel). w.asked) ticker;
      turns_by = omega arith;
    }
  where
    s : IsSeen script 0 (seen script 0)
    s = IsSeen-seen script ss.valid 0

    none_yet : first_after live.recorder.turn ≡ 0
    none_yet = ap first_after new.turn

    none_taken : (o : Option Reply) → SeesAs script live.recorder.recorded (first_after live.recorder.turn) o
    none_taken None = tt
    none_taken (Some r) = λ early. absurd (let none : ⊥ = omega (arith, none_yet, early) in none)

    first : Follows script live (seen script 0)
    first = record {
      alike = subst (AreAlike script) (sym new.recorded) refl;
      free = λ t clear. ap (λ (z : Race). is_paused z.pauses t) new.recorded;
      in_turn = subst (AreNextInTurn script) (sym new.attempts) (in_turn-none script);
      told = subst (λ (z : Race). All (IsAsScripted script live.recorder.underway.attempts) z.outcomes) (sym new.recorded) (All-nil (IsAsScripted script live.recorder.underway.attempts));
      held = subst (λ (xs : List Attempt). list_all (is_held live.unfinished.items live.recorder.recorded) xs ≡ true) (sym new.attempts) refl;
      aaaa = none_taken script.aaaa;
      a = none_taken script.a;
      connecting = subst (λ (os : List (Unfinished C (Unit {0}) ScriptedTrial)). All (IsConnecting script live.recorder.underway.attempts (seen script 0)) os) (sym new.unfinished) (All-nil (IsConnecting script live.recorder.underway.attempts (seen script 0)));
      later = omega (arith, none_yet);
      awake = s.holds.1;
      due = λ t late clear. s.least t (omega arith, clear);
    }

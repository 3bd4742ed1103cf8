-- What a turn leaves of a race that follows a script, and what its ticker is asked for.
use Rattle.std.proofs.Common.{◌≡◌, ℕ, zero, suc, ◌+◌, ◌≤◌, ◌<◌, ◌↔◌, ◌||◌, ◌++◌, ◌⊎◌, Bool, true, false, List, [], ◌∷◌, if◌then◌else◌, length, get_or, find, Option, Some, None, Result, Ok, IfSome, is_some, max, min, nat_lt, refl, sym, ◌∙◌, ap, subst, arith, inl, inr, length-append}
use Rattle.std.specs.List.{All, Contains, list_all, list_any}
use Rattle.std.proofs.lemmas.Bool.{cases_lt}
use Rattle.std.proofs.lemmas.List.{append-nil, get_or_append_left}
use Rattle.std.proofs.lemmas.List.Elements.{All-contains, All-nil, All-push, All-weaker}
use Rattle.std.proofs.lemmas.List.Folds.{list_all-append, list_any-append}
use Rattle.he_addr.specs.Ip.{same_ip}
use Rattle.he_addr.specs.declared.ip.Ip.{Ip}
use Rattle.he_plan.specs.declared.attempts.Attempt.{Attempt}
use Rattle.he_timeline.specs.declared.outcome.Outcome.{Outcome}
use Rattle.he_timeline.specs.declared.outcome.Outcome.TheVariants as outcomes
use Rattle.he_plan.specs.Agreement.{AreAlike}
use Rattle.he_plan.specs.Attempts.{AreNextInTurn, IsNext, MayStart, has_failed, is_untried}
use Rattle.he_timeline.specs.Seen.{IsFree, IsSeen, is_paused, seen}
use Rattle.he_timeline.specs.Building.{with_pause}
use Rattle.he_plan.specs.Due.{IsAnswerDue}
use Rattle.he_timeline.specs.Race.{outcome_of, Race, Reply, has_outcome}
use Rattle.he_timeline.specs.Timeline.{IsRace, duration_of}
use Rattle.he_plan.proofs.Agreeing.{order-shared, starts-shared}
use Rattle.he_timeline.proofs.Bools.{and_both, not_lt, or_left, or_one, or_right}
use Rattle.he_plan.proofs.Dueness.{starts-free}
use Rattle.he_timeline.proofs.Lasting.{outcome_in-lasts}
use Rattle.he_plan.proofs.InTurn.{in_turn-more}
use Rattle.he_timeline.proofs.Ranges.{list_all-weaker}
use Rattle.he_timeline.proofs.Seen.{IsSeen-seen}
use Rattle.he_turns.specs.declared.attempt.AttemptFuture.{AttemptFuture}
use Rattle.he_turns.specs.declared.attempt.AttemptFuture.TheVariants.{Connecting}
use Rattle.he_turns.specs.declared.connector.Connector.{Ghosts as ConnectorOf}
use Rattle.he_turns.specs.declared.faults.AttemptFault.{AttemptFault}
use Rattle.he_turns.specs.declared.live.Live.{Live}
use Rattle.he_turns.specs.declared.live.Unfinished.{Unfinished}
use Rattle.he_race.specs.declared.scripted.ScriptedTrial.{ScriptedTrial}
use Rattle.he_turns.specs.declared.trial.Trial.{Ghosts as TrialOf}
use Rattle.he_turns.specs.Answered.{earliest}
use Rattle.he_turns.specs.Attempt.{due_of}
use Rattle.he_race.specs.Following.{EndsFrom, Follows, IsAsScripted, IsConnecting, IsScript, SeesAs, is_held}
use Rattle.he_turns.specs.Kept.{FailedBelow, first_after, IsLive}
use Rattle.he_turns.specs.Recording.{slept}
use Rattle.he_race.specs.Running.{IsScripted, scripted_trial}
use Rattle.he_race.specs.Scripted.{script, script_of, tick_of}
use Rattle.he_turns.specs.Turns.{ArePolled, BeginsNext, Goes, StaysAs, Sweep, asked_tick, begun, unpolled}
use Rattle.he_race.proofs.Awake.{free-slept, sees-by, sees-same}
use Rattle.he_turns.proofs.Failing.{all-same}
use Rattle.he_race.proofs.Held.{held-all}
use Rattle.he_turns.proofs.Recorded.{due_later, get_last, own_ip, take_all_of}
use Rattle.he_race.proofs.Replayed.{EndsAfter, fail-same, failed-script, told-as}
use Rattle.he_turns.proofs.Turned.{at_false}
use Rattle.he_race.proofs.Runs.{seen_from, seen_rises}
use Rattle.he_turns.proofs.Sweeps.{asked-early}
use Rattle.he_race.proofs.Swept.{IsPending, Sweeps, swept-all}
use Rattle.he_turns.proofs.Turning.{alike-later, contains-at, going-early, same_limit, slept-alike}

get_push : (xs : List Attempt) (x d : Attempt) → get_or (xs ++ x ∷ []) (length xs) d ≡ x
get_push [] x d = refl
get_push (y ∷ xs) x d = get_push xs x d

contains_last : (xs : List Attempt) (x : Attempt) → Contains (xs ++ x ∷ []) x
contains_last xs x = (length xs, let l : length (xs ++ x ∷ []) ≡ length xs + 1 = length-append xs (x ∷ []) in omega (arith, l), get_push xs x x)

contains_more : (xs : List Attempt) (x y : Attempt) → Contains xs y → Contains (xs ++ x ∷ []) y
contains_more xs x y h =
    (h.0, let l : length (xs ++ x ∷ []) ≡ length xs + 1 = length-append xs (x ∷ []) in omega (arith, h.1, l), get_or_append_left xs (x ∷ []) y h.0 h.1 ∙ h.2)

more_told : (race : Race) (xs : List Attempt) (x : Attempt) (told : List (Ip × Outcome)) → All (IsAsScripted race xs) told → All (IsAsScripted race (xs ++ x ∷ [])) told
more_told race xs x told h =
    All-weaker (IsAsScripted race xs) (IsAsScripted race (xs ++ x ∷ [])) (λ p k. record { x = k.x; made = contains_more xs x k.x k.made; at = k.at; outcome = k.outcome; is = k.is; ends = k.ends }) told h

-- an attempt that is the next one in the record is the next one in the script, where those before it have failed by
-- each tick up to its start in both or in neither
next_script : (race end : Race) → IsRace race → IsRace end → AreAlike race end → ((t : ℕ) → IsFree race t → IsFree end t) → (xs : List Attempt) (x : Attempt) → ((t : ℕ) → t ≤ x.tick → list_all (has_failed end t) xs ≡ list_all (has_failed race t) xs) → IsFree race x.tick → IsNext end xs x → IsNext race xs x
next_script race end rr re alike free xs x same clear is = record {
  place = is.place;
  tick = record { holds = (both x.tick (omega arith) clear).1 is.tick.holds; least = least };
  ip = subst (λ (ips : List Ip). find (is_untried xs) ips ≡ Some x.ip) (sym (order-shared race end rr re alike x.tick clear (free x.tick clear))) is.ip;
}
  where
    both : (t : ℕ) → t ≤ x.tick → IsFree race t → MayStart race xs t ↔ MayStart end xs t
    both t by open_then = starts-shared race end rr re alike xs t (λ h. same t by ∙ h, λ h. sym (same t by) ∙ h) open_then (free t open_then)

    least : (t : ℕ) → MayStart race xs t → x.tick ≤ t
    least t m = elim (cases_lt t x.tick) [
      | inl sooner ↦ is.tick.least t ((both t (omega arith) (starts-free race rr xs t m)).0 m)
      | inr by ↦ by
    ]

pub slept_outcomes : (race : Race) (due now : ℕ) → (slept race due now).outcomes ≡ race.outcomes
slept_outcomes race due now = by_test (nat_lt due now)
  where
    by_test : (b : Bool) → (if b then with_pause race due now else race).outcomes ≡ race.outcomes
    by_test true = refl
    by_test false = refl

-- the tick that is asked for is at most each at which an attempt is due
module _ {C Conn Run : Type 0} (connector : ConnectorOf C Conn Run) (trial : TrialOf Run Conn) where
  earliest_of : (due : ℕ) (o : Option ℕ) → IfSome o (λ d. earliest due o ≤ d)
  earliest_of due None = tt
  earliest_of due (Some d) = omega arith

  asked_each : (due : ℕ) (os : List (Unfinished C Conn Run)) (k : ℕ) (d : Unfinished C Conn Run) → k < length os → IfSome (due_of connector trial (get_or os k d).future) (λ t. asked_tick connector trial due os ≤ t)
  asked_each due [] k d lt = absurd (let none : ⊥ = omega arith in none)
  asked_each due (o ∷ os) zero d lt = by_due (due_of connector trial o.future) (earliest_of due (due_of connector trial o.future))
    where
      by_due : (x : Option ℕ) → IfSome x (λ t. earliest due (due_of connector trial o.future) ≤ t) → IfSome x (λ t. asked_tick connector trial (earliest due (due_of connector trial o.future)) os ≤ t)
      by_due None h = tt
      by_due (Some t) h = let low : asked_tick connector trial (earliest due (due_of connector trial o.future)) os ≤ earliest due (due_of connector trial o.future) = asked-early connector trial (earliest due (due_of connector trial o.future)) os in let by : earliest due (due_of connector trial o.future) ≤ t = h in omega arith
  asked_each due (o ∷ os) (suc k) d lt = asked_each (earliest due (due_of connector trial o.future)) os k d (omega arith)

  asked_joined : (due : ℕ) (os ps : List (Unfinished C Conn Run)) → asked_tick connector trial due (os ++ ps) ≡ asked_tick connector trial (asked_tick connector trial due os) ps
  asked_joined due [] ps = refl
  asked_joined due (o ∷ os) ps = asked_joined (earliest due (due_of connector trial o.future)) os ps

module _ {C : Type 0} (connector : ConnectorOf C (Unit {0}) ScriptedTrial) (race : Race) (ss : IsScript race) (c : C) (sc : IsScripted connector race c) (live : Live C (Unit {0}) ScriptedTrial) (at : ℕ) (f : Follows race live at) (kept : IsLive connector scripted_trial live) where
  abbrev Held : Type 0
  Held = Unfinished C (Unit {0}) ScriptedTrial

  abbrev made : List Attempt
  made = live.recorder.underway.attempts

  abbrev paused : List (ℕ × ℕ)
  paused = (slept live.recorder.recorded live.recorder.due at).pauses

  abbrev Polled : Sweep C (Unit {0}) ScriptedTrial → List Held → Type 0
  Polled to os = Sweeps connector race ss.valid c made at f.awake paused to os

  begun_at : (z : Race) → z.outcomes ≡ live.recorder.recorded.outcomes → AreAlike race z → Sweeps connector race ss.valid c made at f.awake z.pauses (unpolled c z made) live.unfinished.items
  begun_at z same alike = record {
    still = refl;
    attempts = refl;
    alike = alike;
    pauses = refl;
    told = subst (λ (told : List (Ip × Outcome)). All (IsAsScripted race made) told) (sym same) f.told;
    held = subst (λ (told : List (Ip × Outcome)). list_all (λ (x : Attempt). list_any (λ (o : Held). same_ip o.attempt.ip x.ip) live.unfinished.items || has_outcome x.ip told) made ≡ true) (sym same) f.held;
    pending = All-nil (IsPending connector race ss.valid c made at f.awake);
    rest = f.connecting;
  }

  -- after the polls of a turn at the tick
  pub polled-at : (to : Sweep C (Unit {0}) ScriptedTrial) → ArePolled connector scripted_trial at (begun c live at) live.unfinished.items to → Polled to []
  polled-at to p =
      swept-all connector race ss.valid c made at f.awake paused (begun c live at) to live.unfinished.items
      (begun_at (slept live.recorder.recorded live.recorder.due at) (slept_outcomes live.recorder.recorded live.recorder.due at) (alike-later race live.recorder.recorded (slept live.recorder.recorded live.recorder.due at) f.alike (slept-alike live.recorder.recorded live.recorder.due at))) p

  pub above-turn : first_after live.recorder.turn ≤ live.recorder.due
  above-turn = due_later live.recorder.recorded kept.recorder.rests.valid live.recorder.turn made live.recorder.due kept.recorder.rests.after kept.recorder.due.holds

  -- an answer that was not taken is due
  pub due-six : (d : ℕ) → IsAnswerDue live.recorder.turn race.aaaa d → live.recorder.due ≤ d
  due-six d h = kept.recorder.due.least d (inl (subst (λ (o : Option Reply). IsAnswerDue live.recorder.turn o d) (sym (ap (λ (z : Race). z.aaaa) f.alike)) h))

  pub due-four : (d : ℕ) → IsAnswerDue live.recorder.turn race.a d → live.recorder.due ≤ d
  due-four d h = kept.recorder.due.least d (inr (inl (subst (λ (o : Option Reply). IsAnswerDue live.recorder.turn o d) (sym (ap (λ (z : Race). z.a) f.alike)) h)))

  module _ (end : Race) (re : IsRace end) (alike : AreAlike race end) (pauses : end.pauses ≡ paused) where
    pub free-end : (t : ℕ) → IsFree race t → IsFree end t
    free-end t h = ap (λ (ps : List (ℕ × ℕ)). is_paused ps t) pauses ∙ free-slept race live.recorder.recorded live.recorder.due at at f.free f.due (omega arith) t h

    -- what came by the tick was seen as in the script
    pub sees-end : (o : Option Reply) → SeesAs race live.recorder.recorded (first_after live.recorder.turn) o → ((d : ℕ) → IsAnswerDue live.recorder.turn o d → live.recorder.due ≤ d) → SeesAs race end (at + 1) o
    sees-end None was due = tt
    sees-end (Some r) was due = λ by.
        sees-same race end ss.valid re at r.tick f.awake (free-end at f.awake)
        (sees-by race live.recorder.recorded end ss.valid kept.recorder.rests.valid re live.recorder.turn made live.recorder.due at at pauses kept.recorder.rests.after above-turn f.due (omega arith) r was (λ untaken. due r.tick (untaken, refl)))
        (omega arith)

  -- the tick to which the ticker goes, once it was asked for this one
  abbrev pub next_tick : ℕ → ℕ
  next_tick tick = seen race (max tick (at + 1))

  next_later : (tick : ℕ) → at + 1 ≤ next_tick tick
  next_later tick = let up : max tick (at + 1) ≤ seen race (max tick (at + 1)) = seen_from race ss.valid (max tick (at + 1)) in omega arith

  -- an attempt that ends after the tick doesn't end before the next one
  ends_from : (tick start : ℕ) (o : Option Outcome) → IfSome (tick_of (script o start)) (λ d. tick ≤ d) → IfSome o (λ outcome. at < start + duration_of outcome) → IfSome o (λ outcome. next_tick tick ≤ seen race (start + duration_of outcome))
  ends_from tick start None asked late = tt
  ends_from tick start (Some (outcomes.Ok d)) asked late = seen_rises race ss.valid (max tick (at + 1)) (start + d) (let by : tick ≤ start + d = asked in let after : at < start + d = late in omega arith)
  ends_from tick start (Some (outcomes.Fail d)) asked late = seen_rises race ss.valid (max tick (at + 1)) (start + d) (let by : tick ≤ start + d = asked in let after : at < start + d = late in omega arith)

  asked_by : (tick low : ℕ) (o : Option ℕ) → tick ≤ low → IfSome o (λ d. low ≤ d) → IfSome o (λ d. tick ≤ d)
  asked_by tick low None up h = tt
  asked_by tick low (Some d) up h = let by : low ≤ d = h in omega arith

  still_connecting : (ys : List Attempt) → ((y : Attempt) → Contains made y → Contains ys y) → (tick due : ℕ) (ps : List Held) → tick ≤ asked_tick connector scripted_trial due ps → All (IsPending connector race ss.valid c made at f.awake) ps → All (IsConnecting race ys (next_tick tick)) ps
  still_connecting ys among tick due ps up h k d lt =
      let o : Held = get_or ps k d in
      let p : IsPending connector race ss.valid c made at f.awake o = h k d lt in
      let asked : IfSome (due_of connector scripted_trial o.future) (λ t. tick ≤ t) = asked_by tick (asked_tick connector scripted_trial due ps) (due_of connector scripted_trial o.future) up (asked_each connector scripted_trial due ps k d lt) in
      let at_end : IfSome (tick_of (script_of race o.attempt.ip o.attempt.tick)) (λ t. tick ≤ t) = subst (λ (a : AttemptFuture C (Unit {0}) ScriptedTrial). IfSome (due_of connector scripted_trial a) (λ t. tick ≤ t)) p.future asked in
      record {
        made = among o.attempt p.made;
        is_fresh = false;
        future = p.future;
        started = omega (arith, p.started, next_later tick);
        ends = ends_from tick o.attempt.tick (outcome_of race o.attempt.ip) at_end p.late;
      }

  -- what is kept after a turn, but for what depends on whether an attempt began
  record Kept (new : Live C (Unit {0}) ScriptedTrial) (tick : ℕ) : Type 0 where
    alike : AreAlike race new.recorder.recorded
    free : (t : ℕ) → IsFree race t → IsFree new.recorder.recorded t
    turn : new.recorder.turn ≡ Some at
    aaaa : SeesAs race new.recorder.recorded (at + 1) race.aaaa
    a : SeesAs race new.recorder.recorded (at + 1) race.a
    due : (t : ℕ) → new.recorder.due ≤ t → IsFree race t → next_tick tick ≤ t

  -- what the attempts are after it
  record Goes_on (new : Live C (Unit {0}) ScriptedTrial) (tick : ℕ) (c' : C) : Type 0 where
    still : c' ≡ c
    in_turn : AreNextInTurn race new.recorder.underway.attempts
    told : All (IsAsScripted race new.recorder.underway.attempts) new.recorder.recorded.outcomes
    held : list_all (is_held new.unfinished.items new.recorder.recorded) new.recorder.underway.attempts ≡ true
    connecting : All (IsConnecting race new.recorder.underway.attempts (next_tick tick)) new.unfinished.items

  follows : (new : Live C (Unit {0}) ScriptedTrial) (tick : ℕ) (c' : C) → Kept new tick → Goes_on new tick c' → Follows race new (next_tick tick)
  follows new tick c' k g = record {
    alike = k.alike;
    free = k.free;
    in_turn = g.in_turn;
    told = g.told;
    held = g.held;
    aaaa = subst (λ (turn : Option ℕ). SeesAs race new.recorder.recorded (first_after turn) race.aaaa) (sym k.turn) k.aaaa;
    a = subst (λ (turn : Option ℕ). SeesAs race new.recorder.recorded (first_after turn) race.a) (sym k.turn) k.a;
    connecting = g.connecting;
    later = subst (λ (turn : Option ℕ). first_after turn ≤ next_tick tick) (sym k.turn) (next_later tick);
    awake = let s : IsSeen race (max tick (at + 1)) (next_tick tick) = IsSeen-seen race ss.valid (max tick (at + 1)) in s.holds.1;
    due = k.due;
  }

  module _ (to : Sweep C (Unit {0}) ScriptedTrial) (w : Polled to []) (new : Live C (Unit {0}) ScriptedTrial) (recorded : new.recorder.recorded ≡ to.recorded) (live_on : IsLive connector scripted_trial new) (turned : new.recorder.turn ≡ Some at) (tick : ℕ) (asked : tick ≡ asked_tick connector scripted_trial new.recorder.due new.unfinished.items) (c' : C) where
    alike_on : AreAlike race new.recorder.recorded
    alike_on = subst (AreAlike race) (sym recorded) w.alike

    pauses_on : new.recorder.recorded.pauses ≡ paused
    pauses_on = ap (λ (z : Race). z.pauses) recorded ∙ w.pauses

    is_race : IsRace new.recorder.recorded
    is_race = live_on.recorder.rests.valid

    kept_on : Kept new tick
    kept_on = record {
      alike = alike_on;
      free = free-end new.recorder.recorded is_race alike_on pauses_on;
      turn = turned;
      aaaa = sees-end new.recorder.recorded is_race alike_on pauses_on race.aaaa f.aaaa due-six;
      a = sees-end new.recorder.recorded is_race alike_on pauses_on race.a f.a due-four;
      due = λ t late clear. (let s : IsSeen race (max tick (at + 1)) (next_tick tick) = IsSeen-seen race ss.valid (max tick (at + 1)) in s.least t (due_by t late, clear));
    }
      where
        due_by : (t : ℕ) → new.recorder.due ≤ t → max tick (at + 1) ≤ t
        due_by t late =
            let after : first_after new.recorder.turn ≤ new.recorder.due = due_later new.recorder.recorded is_race new.recorder.turn new.recorder.underway.attempts new.recorder.due live_on.recorder.rests.after live_on.recorder.due.holds in
            let above : first_after new.recorder.turn ≡ at + 1 = ap first_after turned in
            let by : asked_tick connector scripted_trial new.recorder.due new.unfinished.items ≤ new.recorder.due = asked-early connector scripted_trial new.recorder.due new.unfinished.items in
            omega arith

    none_began : StaysAs connector scripted_trial to.connector to.attempts new.recorder.underway.attempts to.pending c' new.unfinished.items → Goes_on new tick c'
    none_began s =
        let same : new.recorder.underway.attempts ≡ made = s.none ∙ w.attempts in
        let held : list_all (is_held to.pending to.recorded) made ≡ true = subst (λ (os : List Held). list_all (is_held os to.recorded) made ≡ true) (append-nil to.pending) w.held in
        let up : tick ≤ asked_tick connector scripted_trial new.recorder.due to.pending = omega (arith, asked, ap (asked_tick connector scripted_trial new.recorder.due) s.same) in
        let connecting : All (IsConnecting race made (next_tick tick)) to.pending = still_connecting made (λ y h. h) tick new.recorder.due to.pending up w.pending in
        record {
          still = s.still ∙ w.still;
          in_turn = subst (AreNextInTurn race) (sym same) f.in_turn;
          told = rw (same, recorded) w.told;
          held = rw (same, recorded, s.same) held;
          connecting = rw (same, s.same) connecting;
        }

    held_more : (ps : List Held) (o : Held) (x : Attempt) (end : Race) → o.attempt ≡ x → list_all (is_held ps end) made ≡ true → list_all (is_held (ps ++ o ∷ []) end) (made ++ x ∷ []) ≡ true
    held_more ps o x end same h =
        list_all-append (is_held (ps ++ o ∷ []) end) made (x ∷ [])
        ∙ and_both (list_all (is_held (ps ++ o ∷ []) end) made) (list_all (is_held (ps ++ o ∷ []) end) (x ∷ [])) (list_all-weaker (is_held ps end) (is_held (ps ++ o ∷ []) end) made one h) (and_both (is_held (ps ++ o ∷ []) end x) true own refl)
      where
        own : is_held (ps ++ o ∷ []) end x ≡ true
        own =
            or_left (list_any (λ (p : Held). same_ip p.attempt.ip x.ip) (ps ++ o ∷ [])) (has_outcome x.ip end.outcomes)
            (list_any-append (λ (p : Held). same_ip p.attempt.ip x.ip) ps (o ∷ [])
            ∙ or_right (list_any (λ (p : Held). same_ip p.attempt.ip x.ip) ps) (same_ip o.attempt.ip x.ip || false) (or_left (same_ip o.attempt.ip x.ip) false (ap (λ (y : Attempt). same_ip y.ip x.ip) same ∙ own_ip x.ip)))

        one : (y : Attempt) → is_held ps end y ≡ true → is_held (ps ++ o ∷ []) end y ≡ true
        one y k = elim (or_one (list_any (λ (p : Held). same_ip p.attempt.ip y.ip) ps) (has_outcome y.ip end.outcomes) k) [
          | inl held ↦ or_left (list_any (λ (p : Held). same_ip p.attempt.ip y.ip) (ps ++ o ∷ [])) (has_outcome y.ip end.outcomes) (list_any-append (λ (p : Held). same_ip p.attempt.ip y.ip) ps (o ∷ []) ∙ or_left (list_any (λ (p : Held). same_ip p.attempt.ip y.ip) ps) (same_ip o.attempt.ip y.ip || false) held)
          | inr told ↦ or_right (list_any (λ (p : Held). same_ip p.attempt.ip y.ip) (ps ++ o ∷ [])) (has_outcome y.ip end.outcomes) told
        ]

    -- the attempt that begins connects as the script says
    began_future : (n : BeginsNext connector scripted_trial to.connector at to.attempts new.recorder.underway.attempts to.pending c' new.unfinished.items) → (c' ≡ c) × (n.o.future ≡ Connecting (Ok (script_of race n.x.ip n.x.tick)) (n.x.tick + 1) true)
    began_future n =
        let b = at_false _ _ (nat_lt n.x.tick n.x.tick) (not_lt n.x.tick n.x.tick (omega arith)) n.begins.polls.1 in
        let own : IsScripted connector race to.connector = subst (IsScripted connector race) (sym w.still) sc in
        let is : (b.0 ≡ Ok (script_of race n.x.ip n.x.tick)) × (c' ≡ to.connector) = own.begins n.x.place n.x.ip n.x.tick b.0 c' b.1 in
        (is.1 ∙ w.still, b.2 ∙ ap (λ (y : Result ScriptedTrial AttemptFault). Connecting y (n.x.tick + 1) true) is.0)

    began_connecting : (o : Held) (x : Attempt) → o.attempt ≡ x → x.tick ≡ at → o.future ≡ Connecting (Ok (script_of race x.ip x.tick)) (x.tick + 1) true → tick ≤ x.tick + 1 → IsConnecting race (made ++ x ∷ []) (next_tick tick) o
    began_connecting o x same begun future by =
        subst (λ (y : Attempt). (o.future ≡ Connecting (Ok (script_of race y.ip y.tick)) (y.tick + 1) true) → Contains (made ++ x ∷ []) y → y.tick < next_tick tick → EndsFrom race (next_tick tick) y → IsConnecting race (made ++ x ∷ []) (next_tick tick) o) same
        (λ is among started ends. record { made = among; is_fresh = true; future = is; started = started; ends = ends })
        future (contains_last made x) (omega (arith, next_later tick)) (by_outcome (outcome_of race x.ip) (outcome_in-lasts race race.outcomes x.ip ss.valid.outcomes))
      where
        by_outcome : (o : Option Outcome) → IfSome o (λ out. (1 ≤ duration_of out) × (duration_of out ≤ 3600000)) → IfSome o (λ outcome. next_tick tick ≤ seen race (x.tick + duration_of outcome))
        by_outcome None lasts = tt
        by_outcome (Some out) lasts = seen_rises race ss.valid (max tick (at + 1)) (x.tick + duration_of out) (omega (arith, lasts.0))

    pending_left : (t : ℕ) → t ≤ at → (o : Held) → IsPending connector race ss.valid c made at f.awake o → Contains made o.attempt × EndsAfter race t o.attempt
    pending_left t by o p = (p.made, by_outcome (outcome_of race o.attempt.ip) p.late)
      where
        by_outcome : (x : Option Outcome) → IfSome x (λ outcome. at < o.attempt.tick + duration_of outcome) → IfSome x (λ outcome. t < seen race (o.attempt.tick + duration_of outcome))
        by_outcome None h = tt
        by_outcome (Some outcome) h = let k : at < o.attempt.tick + duration_of outcome = h in let up : o.attempt.tick + duration_of outcome ≤ seen race (o.attempt.tick + duration_of outcome) = seen_from race ss.valid (o.attempt.tick + duration_of outcome) in omega arith

    -- after the polls of a turn each attempt has failed by a tick, up to the turn's, in the record and in the script
    -- or in neither
    same_failed : (x : Attempt) → new.recorder.underway.attempts ≡ to.attempts ++ x ∷ [] → (t : ℕ) → t ≤ at → list_all (has_failed new.recorder.recorded t) made ≡ list_all (has_failed race t) made
    same_failed x more t by = all-same (has_failed new.recorder.recorded t) (has_failed race t) made (λ k d lt. one (get_or made k d) (contains-at made k d lt))
      where
        told : All (IsAsScripted race made) new.recorder.recorded.outcomes
        told = subst (λ (z : Race). All (IsAsScripted race made) z.outcomes) (sym recorded) w.told

        held : list_all (is_held to.pending new.recorder.recorded) made ≡ true
        held = rw recorded (subst (λ (os : List Held). list_all (is_held os to.recorded) made ≡ true) (append-nil to.pending) w.held)

        late : (y : Attempt) → Contains made y → outcome_of new.recorder.recorded y.ip ≡ None → EndsAfter race t y
        late = held-all race new.recorder.recorded made f.in_turn (EndsAfter race t) to.pending (All-weaker (IsPending connector race ss.valid c made at f.awake) (λ (o : Held). Contains made o.attempt × EndsAfter race t o.attempt) (pending_left t by) to.pending w.pending) held

        free_fail : (y : Attempt) (o : Option Outcome) → IfSome o (FailedBelow new.recorder.recorded (first_after new.recorder.turn) y) → IfSome o (λ out. (d : ℕ) → out ≡ outcomes.Fail d → IsFree new.recorder.recorded (y.tick + d))
        free_fail y None h = tt
        free_fail y (Some (outcomes.Ok d)) h = absurd h
        free_fail y (Some (outcomes.Fail d)) h = λ n same. subst (λ (k : ℕ). IsFree new.recorder.recorded (y.tick + k)) (fail-same d n same) h.0

        among : (y : Attempt) → Contains made y → Contains new.recorder.underway.attempts y
        among y h = subst (λ (xs : List Attempt). Contains xs y) (sym (more ∙ ap (λ (xs : List Attempt). xs ++ x ∷ []) w.attempts)) (contains_more made x y h)

        one : (y : Attempt) → Contains made y → has_failed new.recorder.recorded t y ≡ has_failed race t y
        one y h =
            failed-script race new.recorder.recorded is_race t y (outcome_of new.recorder.recorded y.ip)
            (free_fail y (outcome_of new.recorder.recorded y.ip) (All-contains (λ (z : Attempt). IfSome (outcome_of new.recorder.recorded z.ip) (FailedBelow new.recorder.recorded (first_after new.recorder.turn) z)) new.recorder.underway.attempts y live_on.recorder.rests.failed (among y h)))
            (told-as race made f.in_turn y h new.recorder.recorded.outcomes told)
            (λ none. late y h none)

    one_began : BeginsNext connector scripted_trial to.connector at to.attempts new.recorder.underway.attempts to.pending c' new.unfinished.items → Goes_on new tick c'
    one_began n =
        let same : new.recorder.underway.attempts ≡ made ++ n.x ∷ [] = n.more ∙ ap (λ (xs : List Attempt). xs ++ n.x ∷ []) w.attempts in
        let held : list_all (is_held to.pending to.recorded) made ≡ true = subst (λ (os : List Held). list_all (is_held os to.recorded) made ≡ true) (append-nil to.pending) w.held in
        let next : IsNext new.recorder.recorded made n.x = is_next in
        let clear : IsFree race n.x.tick = subst (IsFree race) (sym n.at) f.awake in
        let begins : IsNext race made n.x = next_script race new.recorder.recorded ss.valid is_race alike_on (free-end new.recorder.recorded is_race alike_on pauses_on) made n.x (λ t by. same_failed n.x n.more t (omega (arith, n.at, by))) clear next in
        let b = began_future n in
        let whole : asked_tick connector scripted_trial new.recorder.due new.unfinished.items ≡ earliest (asked_tick connector scripted_trial new.recorder.due to.pending) (due_of connector scripted_trial n.o.future) = ap (asked_tick connector scripted_trial new.recorder.due) n.next ∙ asked_joined connector scripted_trial new.recorder.due to.pending (n.o ∷ []) in
        let due : due_of connector scripted_trial n.o.future ≡ Some (n.x.tick + 1) = ap (due_of connector scripted_trial) b.1 in
        let least : tick ≡ earliest (asked_tick connector scripted_trial new.recorder.due to.pending) (Some (n.x.tick + 1)) = asked ∙ whole ∙ ap (earliest (asked_tick connector scripted_trial new.recorder.due to.pending)) due in
        let connecting : All (IsConnecting race (made ++ n.x ∷ []) (next_tick tick)) to.pending = still_connecting (made ++ n.x ∷ []) (contains_more made n.x) tick new.recorder.due to.pending (omega arith) w.pending in
        record {
          still = b.0;
          in_turn = subst (AreNextInTurn race) (sym same) (in_turn-more race made n.x f.in_turn begins);
          told = rw (same, recorded) (more_told race made n.x to.recorded.outcomes w.told);
          held = rw (same, recorded, n.next) (held_more to.pending n.o n.x to.recorded n.begins.attempt held);
          connecting = rw (same, n.next) (All-push (IsConnecting race (made ++ n.x ∷ []) (next_tick tick)) to.pending n.o connecting (began_connecting n.o n.x n.begins.attempt n.at b.1 (omega arith)));
        }
      where
        is_next : IsNext new.recorder.recorded made n.x
        is_next =
            let same : new.recorder.underway.attempts ≡ made ++ n.x ∷ [] = n.more ∙ ap (λ (xs : List Attempt). xs ++ n.x ∷ []) w.attempts in
            let turn : AreNextInTurn new.recorder.recorded (made ++ n.x ∷ []) = subst (AreNextInTurn new.recorder.recorded) same live_on.recorder.rests.made.in_turn in
            subst (λ (xs : List Attempt). IsNext new.recorder.recorded xs n.x) (take_all_of made n.x) (turn (length made) n.x (get_last made n.x))

    pub goes-on : StaysAs connector scripted_trial to.connector to.attempts new.recorder.underway.attempts to.pending c' new.unfinished.items ⊎ BeginsNext connector scripted_trial to.connector at to.attempts new.recorder.underway.attempts to.pending c' new.unfinished.items → Follows race new (next_tick tick) × (c' ≡ c)
    goes-on (inl s) = let g : Goes_on new tick c' = none_began s in (follows new tick c' kept_on g, g.still)
    goes-on (inr n) = let g : Goes_on new tick c' = one_began n in (follows new tick c' kept_on g, g.still)

  -- a turn that goes on is at the tick at which the ticker stands
  turn_at : (now : ℕ) (c' : C) (new : Live C (Unit {0}) ScriptedTrial) (tick : ℕ) → now ≡ min at (live.recorder.recorded.settings.limit + 1) → Goes connector scripted_trial (begun c live now) live.unfinished.items now c' new tick → now ≡ at
  turn_at now c' new tick is g =
      let early : now < g.swept.recorded.settings.limit = going-early g.swept.recorded g.swept.attempts now g.swept.pending (is_some g.swept.first) g.going in
      let one : new.recorder.recorded.settings.limit ≡ (begun c live now).recorded.settings.limit = same_limit (begun c live now).recorded new.recorder.recorded g.alike in
      let two : (begun c live now).recorded.settings.limit ≡ live.recorder.recorded.settings.limit = same_limit live.recorder.recorded (slept live.recorder.recorded live.recorder.due now) (slept-alike live.recorder.recorded live.recorder.due now) in
      let three : new.recorder.recorded.settings.limit ≡ g.swept.recorded.settings.limit = ap (λ (z : Race). z.settings.limit) g.recorded in
      omega arith

  pub follows-on : (now : ℕ) (c' : C) (new : Live C (Unit {0}) ScriptedTrial) (tick : ℕ) → now ≡ min at (live.recorder.recorded.settings.limit + 1) → Goes connector scripted_trial (begun c live now) live.unfinished.items now c' new tick → Follows race new (next_tick tick) × (c' ≡ c) × (new.recorder.turn ≡ Some at)
  follows-on now c' new tick is h =
      let g : Goes connector scripted_trial (begun c live at) live.unfinished.items at c' new tick = subst (λ (n : ℕ). Goes connector scripted_trial (begun c live n) live.unfinished.items n c' new tick) (turn_at now c' new tick is h) h in
      let on : Follows race new (next_tick tick) × (c' ≡ c) = goes-on g.swept (polled-at g.swept g.polled) new g.recorded g.kept g.turn tick g.asked c' g.starts in
      (on.0, on.1, g.turn)

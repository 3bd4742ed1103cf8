-- What the record of a race is after a turn in which its attempts were polled, where each connects as a script says.
use Rattle.std.proofs.Common.{◌≡◌, ℕ, ◌+◌, ◌-◌, ◌≤◌, ◌<◌, ◌⊎◌, ◌&&◌, ◌||◌, ◌++◌, Bool, true, false, List, [], ◌∷◌, if◌then◌else◌, Option, Some, None, Result, Ok, Err, IfSome, nat_lt, refl, sym, ◌∙◌, ap, subst, arith, inl, inr}
use Rattle.std.specs.List.{All, Contains, list_all, list_any}
use Rattle.std.proofs.lemmas.Bool.{cases_lt}
use Rattle.std.proofs.lemmas.List.Elements.{All-head, All-push, All-tail}
use Rattle.std.proofs.lemmas.List.Folds.{list_any-append}
use Rattle.futures.specs.declared.task.Poll.{Poll}
use Rattle.futures.specs.declared.task.Poll.TheVariants.{Ready, Pending}
use Rattle.he_addr.specs.Ip.{same_ip}
use Rattle.he_addr.specs.declared.ip.Ip.{Ip}
use Rattle.he_plan.specs.declared.attempts.Attempt.{Attempt}
use Rattle.he_timeline.specs.declared.outcome.Outcome.{Outcome}
use Rattle.he_timeline.specs.declared.outcome.Outcome.TheVariants as outcomes
use Rattle.he_plan.specs.Agreement.{AreAlike}
use Rattle.he_timeline.specs.Seen.{IsFree, seen}
use Rattle.he_timeline.specs.Building.{with_outcome}
use Rattle.he_timeline.specs.Race.{outcome_of, Race, has_outcome}
use Rattle.he_timeline.specs.Timeline.{IsRace, duration_of}
use Rattle.he_timeline.proofs.Bools.{not_lt, or_left, or_one, or_right}
use Rattle.he_timeline.proofs.Ranges.{list_all-weaker}
use Rattle.he_plan.proofs.Starting.{SeesOwn, SeesOwn-free}
use Rattle.he_turns.specs.declared.attempt.AttemptFuture.{AttemptFuture}
use Rattle.he_turns.specs.declared.attempt.AttemptFuture.TheVariants.{Connecting}
use Rattle.he_turns.specs.declared.attempt.Finish.{Finish}
use Rattle.he_turns.specs.declared.connector.Connector.{Ghosts as ConnectorOf}
use Rattle.he_turns.specs.declared.faults.AttemptFault.{AttemptFault}
use Rattle.he_turns.specs.declared.faults.AttemptFault.TheVariants.{Failed as Refused}
use Rattle.he_turns.specs.declared.live.Unfinished.{Unfinished}
use Rattle.he_race.specs.declared.scripted.ScriptedTrial.{ScriptedTrial}
use Rattle.he_turns.specs.Attempt.{AttemptPolls, RunAnswers}
use Rattle.he_race.specs.Following.{IsAsScripted, IsConnecting, is_held}
use Rattle.he_turns.specs.Recording.{ended_by}
use Rattle.he_race.specs.Running.{scripted_trial}
use Rattle.he_race.specs.Scripted.{answer_of, script, script_of}
use Rattle.he_turns.specs.Turns.{ArePolled, Sweep, after_poll, is_connection}
use Rattle.he_turns.proofs.Turned.{at_false}
use Rattle.he_race.proofs.Runs.{le_of, pending_over, ready_is}
use Rattle.he_turns.proofs.Turning.{alike-later}
use Rattle.he_turns.proofs.Waits.{not_pending}

-- an element that is put in the place of another changes nothing where both are alike
any_moved : {X : Type 0} (f : X → Bool) (ps os : List X) (o o' : X) → f o' ≡ f o → list_any f ((ps ++ o' ∷ []) ++ os) ≡ list_any f (ps ++ o ∷ os)
any_moved f [] os o o' e = ap (λ (b : Bool). b || list_any f os) e
any_moved f (p ∷ ps) os o o' e = ap (λ (b : Bool). f p || b) (any_moved f ps os o o' e)

-- without one element it is that one or another
any_dropped : {X : Type 0} (f : X → Bool) (ps os : List X) (o : X) → list_any f (ps ++ o ∷ os) ≡ true → (f o ≡ true) ⊎ (list_any f (ps ++ os) ≡ true)
any_dropped f [] os o h = or_one (f o) (list_any f os) h
any_dropped f (p ∷ ps) os o h = elim (or_one (f p) (list_any f (ps ++ o ∷ os)) h) [
  | inl here ↦ inr (or_left (f p) (list_any f (ps ++ os)) here)
  | inr there ↦ elim (any_dropped f ps os o there) [ inl own ↦ inl own | inr other ↦ inr (or_right (f p) (list_any f (ps ++ os)) other) ]
]

and_none : (a b : Bool) → b ≡ false → (a && b) ≡ false
and_none true b e = e
and_none false b e = refl

-- a trial that is pending ends after the tick
pending_late : (o : Option Outcome) (start now : ℕ) → ◌≡◌ {A = Poll (Result (Unit {0}) AttemptFault)} Pending (answer_of (script o start) now) → IfSome o (λ outcome. now < start + duration_of outcome)
pending_late None start now h = tt
pending_late (Some (outcomes.Ok d)) start now h = elim (cases_lt now (start + d)) [ inl early ↦ early | inr over ↦ absurd (pending_over (Some (outcomes.Ok d)) start now (start + d) refl over h) ]
pending_late (Some (outcomes.Fail d)) start now h = elim (cases_lt now (start + d)) [ inl early ↦ early | inr over ↦ absurd (pending_over (Some (outcomes.Fail d)) start now (start + d) refl over h) ]

abbrev Answer : Type 0
Answer = Result (Unit {0}) AttemptFault

module _ {C : Type 0} (connector : ConnectorOf C (Unit {0}) ScriptedTrial) (race : Race) (r : IsRace race) (c : C) (xs : List Attempt) (now : ℕ) (free : IsFree race now) where
  abbrev Held : Type 0
  Held = Unfinished C (Unit {0}) ScriptedTrial

  -- an attempt that is pending after a poll at the tick
  pub record IsPending (o : Held) : Type 0 where
    pub made : Contains xs o.attempt
    pub future : o.future ≡ Connecting (Ok (script_of race o.attempt.ip o.attempt.tick)) (o.attempt.tick + 1) false
    pub started : o.attempt.tick < now
    pub late : IfSome (outcome_of race o.attempt.ip) (λ outcome. now < o.attempt.tick + duration_of outcome)

  -- a turn in which some attempts were polled, and these were not yet
  pub record Sweeps (paused : List (ℕ × ℕ)) (s : Sweep C (Unit {0}) ScriptedTrial) (os : List Held) : Type 0 where
    pub still : s.connector ≡ c
    pub attempts : s.attempts ≡ xs
    pub alike : AreAlike race s.recorded
    pub pauses : s.recorded.pauses ≡ paused
    pub told : All (IsAsScripted race xs) s.recorded.outcomes
    pub held : list_all (is_held (s.pending ++ os) s.recorded) xs ≡ true
    pub pending : All IsPending s.pending
    pub rest : All (IsConnecting race xs now) os

  -- an outcome of the script that ends at the tick
  ends_now : (x : Attempt) (d : ℕ) → now ≤ seen race (x.tick + d) → x.tick < now → x.tick + d ≤ now → x.tick + (now - x.tick) ≡ seen race (x.tick + d)
  ends_now x d from started over =
      let own : SeesOwn race now = SeesOwn-free race r now free in
      omega (arith, own.back (x.tick + d) over)

  ended_as : (x : Attempt) → Contains xs x → x.tick < now → (o : Option Outcome) → outcome_of race x.ip ≡ o → IfSome o (λ outcome. now ≤ seen race (x.tick + duration_of outcome)) → (answer : Answer) → ◌≡◌ {A = Poll Answer} (Ready answer) (answer_of (script o x.tick) now)
      → IsAsScripted race xs (x.ip, ended_by (is_connection answer) (now - x.tick))
  ended_as x made started None is from answer said = absurd (not_pending answer said)
  ended_as x made started (Some (outcomes.Ok d)) is from answer said = by_tick (nat_lt now (x.tick + d)) refl said
    where
      by_tick : (b : Bool) → nat_lt now (x.tick + d) ≡ b → ◌≡◌ {A = Poll Answer} (Ready answer) (if b then Pending else Ready (Ok tt)) → IsAsScripted race xs (x.ip, ended_by (is_connection answer) (now - x.tick))
      by_tick true t said = absurd (not_pending answer said)
      by_tick false t said =
          rw (ready_is answer (Ok tt) said) (record { x = x; made = made; at = refl; outcome = outcomes.Ok d; is = is; ends = ends_now x d from started (le_of now (x.tick + d) t) })
  ended_as x made started (Some (outcomes.Fail d)) is from answer said = by_tick (nat_lt now (x.tick + d)) refl said
    where
      by_tick : (b : Bool) → nat_lt now (x.tick + d) ≡ b → ◌≡◌ {A = Poll Answer} (Ready answer) (if b then Pending else Ready (Err Refused)) → IsAsScripted race xs (x.ip, ended_by (is_connection answer) (now - x.tick))
      by_tick true t said = absurd (not_pending answer said)
      by_tick false t said =
          rw (ready_is answer (Err Refused) said) (record { x = x; made = made; at = refl; outcome = outcomes.Fail d; is = is; ends = ends_now x d from started (le_of now (x.tick + d) t) })

  -- the attempt that is polled is held after the poll, or its address has an outcome
  held_moved : (recorded : Race) (ps os : List Held) (o o' : Held) → o'.attempt ≡ o.attempt → list_all (is_held (ps ++ o ∷ os) recorded) xs ≡ true → list_all (is_held ((ps ++ o' ∷ []) ++ os) recorded) xs ≡ true
  held_moved recorded ps os o o' same h =
      list_all-weaker (is_held (ps ++ o ∷ os) recorded) (is_held ((ps ++ o' ∷ []) ++ os) recorded) xs (λ x k.
      ap (λ (b : Bool). b || has_outcome x.ip recorded.outcomes) (any_moved (λ (p : Held). same_ip p.attempt.ip x.ip) ps os o o' (ap (λ (y : Attempt). same_ip y.ip x.ip) same)) ∙ k) h

  held_told : (recorded : Race) (ps os : List Held) (o : Held) (outcome : Outcome) → list_all (is_held (ps ++ o ∷ os) recorded) xs ≡ true → list_all (is_held (ps ++ os) (with_outcome recorded o.attempt.ip outcome)) xs ≡ true
  held_told recorded ps os o outcome h =
      list_all-weaker (is_held (ps ++ o ∷ os) recorded) (is_held (ps ++ os) (with_outcome recorded o.attempt.ip outcome)) xs (λ x k. one x (or_one (list_any (λ (p : Held). same_ip p.attempt.ip x.ip) (ps ++ o ∷ os)) (has_outcome x.ip recorded.outcomes) k)) h
    where
      told : (x : Attempt) → (has_outcome x.ip recorded.outcomes || (same_ip o.attempt.ip x.ip || false)) ≡ true → is_held (ps ++ os) (with_outcome recorded o.attempt.ip outcome) x ≡ true
      told x k = or_right (list_any (λ (p : Held). same_ip p.attempt.ip x.ip) (ps ++ os)) (has_outcome x.ip (with_outcome recorded o.attempt.ip outcome).outcomes) (list_any-append (λ (p : Ip × Outcome). same_ip p.0 x.ip) recorded.outcomes ((o.attempt.ip, outcome) ∷ []) ∙ k)

      one : (x : Attempt) → (list_any (λ (p : Held). same_ip p.attempt.ip x.ip) (ps ++ o ∷ os) ≡ true) ⊎ (has_outcome x.ip recorded.outcomes ≡ true) → is_held (ps ++ os) (with_outcome recorded o.attempt.ip outcome) x ≡ true
      one x (inl k) = elim (any_dropped (λ (p : Held). same_ip p.attempt.ip x.ip) ps os o k) [
        | inl own ↦ told x (or_right (has_outcome x.ip recorded.outcomes) (same_ip o.attempt.ip x.ip || false) (or_left (same_ip o.attempt.ip x.ip) false own))
        | inr other ↦ or_left (list_any (λ (p : Held). same_ip p.attempt.ip x.ip) (ps ++ os)) (has_outcome x.ip (with_outcome recorded o.attempt.ip outcome).outcomes) other
      ]
      one x (inr k) = told x (or_left (has_outcome x.ip recorded.outcomes) (same_ip o.attempt.ip x.ip || false) k)

  -- what the trial of an attempt that has begun answers
  answers : (s : Sweep C (Unit {0}) ScriptedTrial) (o : Held) → IsConnecting race xs now o → (answer : Poll (Finish (Unit {0}))) (c' : C) (future : AttemptFuture C (Unit {0}) ScriptedTrial) → AttemptPolls connector scripted_trial s.connector o.future now answer c' future
      → (c' ≡ s.connector) × RunAnswers connector scripted_trial (Ok (script_of race o.attempt.ip o.attempt.tick)) (o.attempt.tick + 1) now answer future
  answers s o is answer c' future polls =
      let at : AttemptPolls connector scripted_trial s.connector (Connecting (Ok (script_of race o.attempt.ip o.attempt.tick)) (o.attempt.tick + 1) is.is_fresh) now answer c' future = subst (λ (a : AttemptFuture C (Unit {0}) ScriptedTrial). AttemptPolls connector scripted_trial s.connector a now answer c' future) is.future polls in
      (at.0, at_false _ _ (is.is_fresh && nat_lt now (o.attempt.tick + 1)) (and_none is.is_fresh _ (not_lt now (o.attempt.tick + 1) (omega (arith, is.started)))) at.1)

  swept_one : (paused : List (ℕ × ℕ)) (s : Sweep C (Unit {0}) ScriptedTrial) (o : Held) (os : List Held) → Sweeps paused s (o ∷ os) → (answer : Poll (Finish (Unit {0}))) (c' : C) (future : AttemptFuture C (Unit {0}) ScriptedTrial) → AttemptPolls connector scripted_trial s.connector o.future now answer c' future → Sweeps paused (after_poll connector scripted_trial s o now answer c' future) os
  swept_one paused s o os w Pending c' future polls =
      let is : IsConnecting race xs now o = All-head (IsConnecting race xs now) o os w.rest in
      let a = answers s o is Pending c' future polls in
      record {
        still = a.0 ∙ w.still;
        attempts = w.attempts;
        alike = w.alike;
        pauses = w.pauses;
        told = w.told;
        held = held_moved s.recorded s.pending os o (record o { future = future }) refl w.held;
        pending = All-push IsPending s.pending (record o { future = future }) w.pending (record {
          made = is.made;
          future = a.1.2 ∙ ap (λ (t : ScriptedTrial). Connecting (Ok t) (o.attempt.tick + 1) false) a.1.1.1;
          started = is.started;
          late = pending_late (outcome_of race o.attempt.ip) o.attempt.tick now a.1.1.0;
        });
        rest = All-tail (IsConnecting race xs now) o os w.rest;
      }
  swept_one paused s o os w (Ready f) c' future polls =
      let is : IsConnecting race xs now o = All-head (IsConnecting race xs now) o os w.rest in
      let a = answers s o is (Ready f) c' future polls in
      let outcome : Outcome = ended_by (is_connection f.result) (now - o.attempt.tick) in
      record {
        still = a.0 ∙ w.still;
        attempts = w.attempts;
        alike = alike-later race s.recorded (with_outcome s.recorded o.attempt.ip outcome) w.alike refl;
        pauses = w.pauses;
        told = All-push (IsAsScripted race xs) s.recorded.outcomes (o.attempt.ip, outcome) w.told (ended_as o.attempt is.made is.started (outcome_of race o.attempt.ip) refl is.ends f.result a.1.1.0);
        held = held_told s.recorded s.pending os o outcome w.held;
        pending = w.pending;
        rest = All-tail (IsConnecting race xs now) o os w.rest;
      }

  pub swept-all : (paused : List (ℕ × ℕ)) (s to : Sweep C (Unit {0}) ScriptedTrial) (os : List Held) → Sweeps paused s os → ArePolled connector scripted_trial now s os to → Sweeps paused to []
  swept-all paused s to [] w p = subst (λ (z : Sweep C (Unit {0}) ScriptedTrial). Sweeps paused z []) (sym p) w
  swept-all paused s to (o ∷ os) w p =
      swept-all paused (after_poll connector scripted_trial s o now p.0 p.1 p.2) to os (swept_one paused s o os w p.0 p.1 p.2 p.3) p.4

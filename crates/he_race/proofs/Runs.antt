-- How an attempt of a recorded race that runs by itself comes to its fate.
use Rattle.std.proofs.Common.{◌≡◌, ℕ, zero, suc, ◌+◌, ◌≤◌, ◌<◌, Bool, true, false, if◌then◌else◌, Option, Some, None, Result, Ok, Err, IfSome, nat_le, nat_lt, refl, sym, ◌∙◌, ap, subst, arith, inl, inr}
use Rattle.std.proofs.lemmas.Bool.{cases_lt}
use Rattle.futures.specs.declared.task.Poll.{Poll}
use Rattle.futures.specs.declared.task.Poll.TheVariants.{Ready, Pending}
use Rattle.he_plan.specs.declared.attempts.Attempt.{Attempt}
use Rattle.he_plan.specs.declared.finish.Fate.TheVariants.{Running}
use Rattle.he_timeline.specs.declared.limits.TheConstants.{MIN_DURATION, MAX_DURATION}
use Rattle.he_timeline.specs.declared.outcome.Outcome.{Outcome}
use Rattle.he_timeline.specs.declared.outcome.Outcome.TheVariants as outcomes
use Rattle.he_timeline.specs.Seen.{IsSeen, seen}
use Rattle.he_plan.specs.Finish.{fate_by, fate_of, finish_of}
use Rattle.he_timeline.specs.Race.{outcome_of, Race}
use Rattle.he_timeline.specs.Timeline.{IsRace, duration_of}
use Rattle.he_timeline.proofs.Bools.{clash, le_test, lt_test, not_le, not_lt}
use Rattle.he_timeline.proofs.Lasting.{outcome_in-lasts}
use Rattle.he_timeline.proofs.Seen.{IsSeen-seen}
use Rattle.he_turns.specs.declared.attempt.AttemptFuture.{AttemptFuture}
use Rattle.he_turns.specs.declared.attempt.AttemptFuture.TheVariants.{Sleeping, Connecting}
use Rattle.he_turns.specs.declared.attempt.Finish.{Finish}
use Rattle.he_turns.specs.declared.connector.Connector.{Ghosts as ConnectorOf}
use Rattle.he_turns.specs.declared.faults.AttemptFault.{AttemptFault}
use Rattle.he_turns.specs.declared.faults.AttemptFault.TheVariants.{Failed as Refused}
use Rattle.he_race.specs.declared.scripted.ScriptedTrial.{ScriptedTrial}
use Rattle.he_turns.specs.Attempt.{AttemptPolls, CanPoll, RunAnswers, due_of}
use Rattle.he_race.specs.Running.{IsScripted, fate_at, result_at, scripted_trial}
use Rattle.he_race.specs.Scripted.{answer_of, script, script_of, tick_of}
use Rattle.he_turns.proofs.Turned.{at_false}
use Rattle.he_turns.proofs.Waits.{not_pending}

pub le_of : (m n : ℕ) → nat_lt m n ≡ false → n ≤ m
le_of m n e = elim (cases_lt m n) [ inl h ↦ absurd (clash (nat_lt m n) (lt_test m n h) e) | inr k ↦ k ]

abbrev Answer : Type 0
Answer = Result (Unit {0}) AttemptFault

pub seen_rises : (race : Race) → IsRace race → (x y : ℕ) → x ≤ y → seen race x ≤ seen race y
seen_rises race r x y h =
    let sx : IsSeen race x (seen race x) = IsSeen-seen race r x in
    let sy : IsSeen race y (seen race y) = IsSeen-seen race r y in
    sx.least (seen race y) (omega (arith, sy.holds.0), sy.holds.1)

pub seen_from : (race : Race) → IsRace race → (x : ℕ) → x ≤ seen race x
seen_from race r x = let s : IsSeen race x (seen race x) = IsSeen-seen race r x in s.holds.0

-- a tick that was seen from an earlier one on is the one that is seen
seen_again : (race : Race) → IsRace race → (x y : ℕ) → x ≤ y → y ≤ seen race x → seen race y ≡ seen race x
seen_again race r x y h k =
    let sx : IsSeen race x (seen race x) = IsSeen-seen race r x in
    let sy : IsSeen race y (seen race y) = IsSeen-seen race r y in
    omega (arith, sy.least (seen race x) (k, sx.holds.1), seen_rises race r x y h)

-- the tick is at most the finish
abbrev IsByFinish : Race → ℕ → Option Outcome → ℕ → Type 0
IsByFinish race s o tick = IfSome o (λ out. tick ≤ seen race (s + duration_of out))

late_by : (race : Race) (s tick : ℕ) (o : Option Outcome) → race.settings.limit < tick → IsByFinish race s o tick → fate_by race s o ≡ Running
late_by race s tick None late by = refl
late_by race s tick (Some (outcomes.Ok d)) late by = let no : nat_le (finish_of race s d) race.settings.limit ≡ false = not_le _ _ (omega (arith, by)) in rw no
late_by race s tick (Some (outcomes.Fail d)) late by = let no : nat_le (finish_of race s d) race.settings.limit ≡ false = not_le _ _ (omega (arith, by)) in rw no

-- once the duration is over the tick is the finish
abbrev IsFinish : Race → ℕ → Option Outcome → ℕ → Type 0
IsFinish race s o now = IfSome o (λ out. s + duration_of out ≤ now → seen race (s + duration_of out) ≡ now)

pub ready_is : (x y : Answer) → ◌≡◌ {A = Poll Answer} (Ready x) (Ready y) → x ≡ y
ready_is x y h = cc

fate_ready : (race : Race) (s now : ℕ) (o : Option Outcome) (r : Answer) → now ≤ race.settings.limit → IsFinish race s o now
    → Ready r ≡ answer_of (script o s) now → result_at now r ≡ fate_by race s o
fate_ready race s now None r h fin e = absurd (not_pending r e)
fate_ready race s now (Some (outcomes.Ok d)) r h fin e = by_tick (nat_lt now (s + d)) refl e
  where
    by_tick : (b : Bool) → nat_lt now (s + d) ≡ b → Ready r ≡ (if b then Pending else Ready (Ok tt)) → result_at now r ≡ fate_by race s (Some (outcomes.Ok d))
    by_tick true t e = absurd (not_pending r e)
    by_tick false t e =
        let over : s + d ≤ now = le_of now (s + d) t in
        let same : seen race (s + d) ≡ now = fin over in
        let in_time : nat_le (finish_of race s d) race.settings.limit ≡ true = le_test _ _ (omega (arith, same)) in
        rw (in_time, same, ready_is r (Ok tt) e)
fate_ready race s now (Some (outcomes.Fail d)) r h fin e = by_tick (nat_lt now (s + d)) refl e
  where
    by_tick : (b : Bool) → nat_lt now (s + d) ≡ b → Ready r ≡ (if b then Pending else Ready (Err Refused)) → result_at now r ≡ fate_by race s (Some (outcomes.Fail d))
    by_tick true t e = absurd (not_pending r e)
    by_tick false t e =
        let over : s + d ≤ now = le_of now (s + d) t in
        let same : seen race (s + d) ≡ now = fin over in
        let in_time : nat_le (finish_of race s d) race.settings.limit ≡ true = le_test _ _ (omega (arith, same)) in
        rw (in_time, same, ready_is r (Err Refused) e)

pub pending_over : (o : Option Outcome) (s now d : ℕ) → tick_of (script o s) ≡ Some d → d ≤ now → ◌≡◌ {A = Poll Answer} Pending (answer_of (script o s) now) → ⊥
pending_over None s now d e over p = cc
pending_over (Some (outcomes.Ok k)) s now d e over p =
    let due : s + k ≡ d = cc in
    let no : nat_lt now (s + k) ≡ false = not_lt now (s + k) (omega arith) in
    not_pending (Ok tt) (sym (rw no at p))
pending_over (Some (outcomes.Fail k)) s now d e over p =
    let due : s + k ≡ d = cc in
    let no : nat_lt now (s + k) ≡ false = not_lt now (s + k) (omega arith) in
    not_pending (Err Refused) (sym (rw no at p))

silent_runs : (race : Race) (s : ℕ) (o : Option Outcome) → tick_of (script o s) ≡ None → fate_by race s o ≡ Running
silent_runs race s None e = refl
silent_runs race s (Some (outcomes.Ok k)) e = cc
silent_runs race s (Some (outcomes.Fail k)) e = cc

tick_is : (o : Option Outcome) (s d : ℕ) → tick_of (script o s) ≡ Some d → IfSome o (λ out. s + duration_of out ≡ d)
tick_is None s d e = tt
tick_is (Some (outcomes.Ok k)) s d e = cc
tick_is (Some (outcomes.Fail k)) s d e = cc

-- what is true of an outcome's duration
if_some : (P Q : Outcome → Type 0) (o : Option Outcome) → ((x : Outcome) → P x → Q x) → IfSome o P → IfSome o Q
if_some P Q None f h = tt
if_some P Q (Some x) f h = f x h

if_any : (Q : Outcome → Type 0) (o : Option Outcome) → ((x : Outcome) → Q x) → IfSome o Q
if_any Q None f = tt
if_any Q (Some x) f = f x

abbrev IsLong : Option Outcome → Type 0
IsLong o = IfSome o (λ out. (MIN_DURATION ≤ duration_of out) × (duration_of out ≤ MAX_DURATION))

abbrev pub Trial : Race → Attempt → ScriptedTrial
Trial race x = script_of race x.ip x.tick

module _ {C : Type 0} where
  -- after this many polls, the attempt as it is and the tick of the next poll
  abbrev pub Stands : Race → Attempt → ℕ → AttemptFuture C (Unit {0}) ScriptedTrial → ℕ → Type 0
  Stands race x zero future tick = (future ≡ Sleeping x.place x.ip x.tick) × (tick ≡ x.tick)
  Stands race x (suc zero) future tick =
      (future ≡ Connecting (Ok (Trial race x)) (x.tick + 1) true) × (tick ≡ seen race (x.tick + 1))
  Stands race x (suc (suc zero)) future tick =
      (future ≡ Connecting (Ok (Trial race x)) (x.tick + 1) false)
      × ((d : ℕ) × (tick_of (Trial race x) ≡ Some d) × (tick ≡ seen race d))
  Stands race x (suc (suc (suc n))) future tick = ⊥

  by_finish : (race : Race) → IsRace race → (x : Attempt) (o : Option Outcome) → IsLong o → outcome_of race x.ip ≡ o → (n : ℕ) (future : AttemptFuture C (Unit {0}) ScriptedTrial) (tick : ℕ)
      → Stands race x n future tick → IsByFinish race x.tick o tick
  by_finish race r x o long e zero future tick h =
      if_any _ o (λ out. let up : x.tick + duration_of out ≤ seen race (x.tick + duration_of out) = seen_from race r (x.tick + duration_of out) in omega (arith, h.1))
  by_finish race r x o long e (suc zero) future tick h =
      if_some _ _ o (λ out d. let up : seen race (x.tick + 1) ≤ seen race (x.tick + duration_of out) = seen_rises race r _ _ (omega (arith, d.0)) in omega (arith, h.1)) long
  by_finish race r x o long e (suc (suc zero)) future tick h =
      let same : IfSome o (λ out. x.tick + duration_of out ≡ h.1.0) = tick_is o x.tick h.1.0 (subst (λ (v : Option Outcome). tick_of (script v x.tick) ≡ Some h.1.0) e h.1.1) in
      if_some _ _ o (λ out d. rw d (omega (arith, h.1.2))) same
  by_finish race r x o long e (suc (suc (suc n))) future tick h = absurd h

  -- past the limit the attempt still runs
  pub past_limit : (race : Race) → IsRace race → (x : Attempt) (n : ℕ) (future : AttemptFuture C (Unit {0}) ScriptedTrial) (tick : ℕ)
      → Stands race x n future tick → race.settings.limit < tick → fate_of race x ≡ Running
  past_limit race r x n future tick h late =
      late_by race x.tick tick (outcome_of race x.ip) late (by_finish race r x (outcome_of race x.ip) (outcome_in-lasts race race.outcomes x.ip r.outcomes) refl n future tick h)

abbrev pub Future : Type 0 → Type 0
Future C = AttemptFuture C (Unit {0}) ScriptedTrial

module _ {C : Type 0} (connector : ConnectorOf C (Unit {0}) ScriptedTrial) (race : Race) (r : IsRace race) (x : Attempt) (c : C) (sc : IsScripted connector race c) where
  abbrev Answers : ℕ → Poll (Finish (Unit {0})) → Future C → Type 0
  Answers tick answer new = RunAnswers connector scripted_trial (Ok (Trial race x)) (x.tick + 1) tick answer new

  ended : (tick : ℕ) (f : Finish (Unit {0})) (new : Future C) → IsFinish race x.tick (outcome_of race x.ip) tick → tick ≤ race.settings.limit
      → Answers tick (Ready f) new → fate_at f ≡ fate_of race x
  ended tick f new fin in_time a =
      let said : Ready f.result ≡ answer_of (Trial race x) tick = a.1.0 in
      rw a.2 (fate_ready race x.tick tick (outcome_of race x.ip) f.result in_time fin said)

  finish_one : (tick : ℕ) → tick ≡ seen race (x.tick + 1) → IsFinish race x.tick (outcome_of race x.ip) tick
  finish_one tick e =
      if_some _ _ (outcome_of race x.ip) (λ out d over. seen_again race r (x.tick + 1) (x.tick + duration_of out) (omega (arith, d.0)) (omega arith) ∙ sym e)
      (outcome_in-lasts race race.outcomes x.ip r.outcomes)

  finish_two : (tick d : ℕ) → tick_of (Trial race x) ≡ Some d → tick ≡ seen race d → IsFinish race x.tick (outcome_of race x.ip) tick
  finish_two tick d due e =
      if_some _ _ (outcome_of race x.ip) (λ out same over. rw same (sym e)) (tick_is (outcome_of race x.ip) x.tick d due)

  begun : (tick : ℕ) → tick ≡ seen race (x.tick + 1) → nat_lt tick (x.tick + 1) ≡ false
  begun tick e = not_lt tick (x.tick + 1) (let up : x.tick + 1 ≤ seen race (x.tick + 1) = seen_from race r (x.tick + 1) in omega arith)

  pub ready_fate : (n tick : ℕ) (future new : Future C) (f : Finish (Unit {0})) (c' : C) → Stands race x n future tick → tick ≤ race.settings.limit
      → AttemptPolls connector scripted_trial c future tick (Ready f) c' new → fate_at f ≡ fate_of race x
  ready_fate zero tick future new f c' s in_time p =
      let q : AttemptPolls connector scripted_trial c (Sleeping x.place x.ip x.tick) tick (Ready f) c' new = subst (λ (a : Future C). AttemptPolls connector scripted_trial c a tick (Ready f) c' new) s.0 p in
      absurd (not_pending f q.0)
  ready_fate (suc zero) tick future new f c' s in_time p =
      let q : AttemptPolls connector scripted_trial c (Connecting (Ok (Trial race x)) (x.tick + 1) true) tick (Ready f) c' new = subst (λ (a : Future C). AttemptPolls connector scripted_trial c a tick (Ready f) c' new) s.0 p in
      ended tick f new (finish_one tick s.1) in_time (at_false _ _ (nat_lt tick (x.tick + 1)) (begun tick s.1) q.1)
  ready_fate (suc (suc zero)) tick future new f c' s in_time p =
      let q : AttemptPolls connector scripted_trial c (Connecting (Ok (Trial race x)) (x.tick + 1) false) tick (Ready f) c' new = subst (λ (a : Future C). AttemptPolls connector scripted_trial c a tick (Ready f) c' new) s.0 p in
      ended tick f new (finish_two tick s.1.0 s.1.1 s.1.2) in_time q.1
  ready_fate (suc (suc (suc n))) tick future new f c' s in_time p = absurd s

  -- what a pending poll leaves
  pub record Waits (n : ℕ) (c' : C) (new : Future C) : Type 0 where
    pub same : c' ≡ c
    pub none : due_of connector scripted_trial new ≡ None → fate_of race x ≡ Running
    pub some : (d : ℕ) → due_of connector scripted_trial new ≡ Some d → Stands race x (n + 1) new (seen race d)

  waits_zero : (c' : C) (run : Result ScriptedTrial AttemptFault) (new : Future C) → connector.begins c x.place x.ip x.tick run c' → new ≡ Connecting run (x.tick + 1) true → Waits zero c' new
  waits_zero c' run new b e =
      let script : (run ≡ Ok (Trial race x)) × (c' ≡ c) = sc.begins x.place x.ip x.tick run c' b in
      let is : new ≡ Connecting (Ok (Trial race x)) (x.tick + 1) true = e ∙ ap (λ (y : Result ScriptedTrial AttemptFault). Connecting y (x.tick + 1) true) script.0 in
      record {
        same = script.1;
        none = λ due. let at : Some (x.tick + 1) ≡ None = rw is at due in cc;
        some = λ d due. let at : Some (x.tick + 1) ≡ Some d = rw is at due in let same : x.tick + 1 ≡ d = cc in (is, ap (seen race) (sym same));
      }

  still_due : (tick : ℕ) (new : Future C) → (a : Answers tick Pending new) → (new ≡ Connecting (Ok (Trial race x)) (x.tick + 1) false) × (due_of connector scripted_trial new ≡ tick_of (Trial race x))
  still_due tick new a =
      let same : a.0 ≡ Trial race x = a.1.1 in
      let is : new ≡ Connecting (Ok (Trial race x)) (x.tick + 1) false = a.2 ∙ ap (λ (y : ScriptedTrial). Connecting (Ok y) (x.tick + 1) false) same in
      (is, ap (due_of connector scripted_trial) is)

  pub pending_waits : (n tick : ℕ) (future new : Future C) (c' : C) → Stands race x n future tick
      → AttemptPolls connector scripted_trial c future tick Pending c' new → Waits n c' new
  pending_waits zero tick future new c' s p =
      let q : AttemptPolls connector scripted_trial c (Sleeping x.place x.ip x.tick) x.tick Pending c' new = subst (λ (t : ℕ). AttemptPolls connector scripted_trial c (Sleeping x.place x.ip x.tick) t Pending c' new) s.1 (subst (λ (a : Future C). AttemptPolls connector scripted_trial c a tick Pending c' new) s.0 p) in
      let b = at_false _ _ (nat_lt x.tick x.tick) (not_lt x.tick x.tick (omega arith)) q.1 in
      waits_zero c' b.0 new b.1 b.2
  pending_waits (suc zero) tick future new c' s p =
      let q : AttemptPolls connector scripted_trial c (Connecting (Ok (Trial race x)) (x.tick + 1) true) tick Pending c' new = subst (λ (a : Future C). AttemptPolls connector scripted_trial c a tick Pending c' new) s.0 p in
      let a : Answers tick Pending new = at_false _ _ (nat_lt tick (x.tick + 1)) (begun tick s.1) q.1 in
      let w = still_due tick new a in
      record {
        same = q.0;
        none = λ due. silent_runs race x.tick (outcome_of race x.ip) (sym w.1 ∙ due);
        some = λ d due. (w.0, (d, sym w.1 ∙ due, refl));
      }
  pending_waits (suc (suc zero)) tick future new c' s p =
      let q : AttemptPolls connector scripted_trial c (Connecting (Ok (Trial race x)) (x.tick + 1) false) tick Pending c' new = subst (λ (a : Future C). AttemptPolls connector scripted_trial c a tick Pending c' new) s.0 p in
      let up : s.1.0 ≤ tick = let h : s.1.0 ≤ seen race s.1.0 = seen_from race r s.1.0 in omega (arith, s.1.2) in
      absurd (pending_over (outcome_of race x.ip) x.tick tick s.1.0 s.1.1 up q.1.1.0)
  pending_waits (suc (suc (suc n))) tick future new c' s p = absurd s

  pub can_stand : (n tick : ℕ) (future : Future C) → Stands race x n future tick → CanPoll connector scripted_trial future
  can_stand zero tick future s = subst (CanPoll connector scripted_trial) (sym s.0) tt
  can_stand (suc zero) tick future s = subst (CanPoll connector scripted_trial) (sym s.0) tt
  can_stand (suc (suc zero)) tick future s = subst (CanPoll connector scripted_trial) (sym s.0) tt
  can_stand (suc (suc (suc n))) tick future s = absurd s

pub few_polls : {C : Type 0} (race : Race) (x : Attempt) (n : ℕ) (future : Future C) (tick : ℕ) → Stands race x n future tick → n < 3
few_polls race x zero future tick s = omega arith
few_polls race x (suc zero) future tick s = omega arith
few_polls race x (suc (suc zero)) future tick s = omega arith
few_polls race x (suc (suc (suc n))) future tick s = absurd s

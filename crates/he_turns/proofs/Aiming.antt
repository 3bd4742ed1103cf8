-- That polls of a race leave each unfinished attempt leading to its own address, and that the connection that comes
-- first is the one of the first attempt that succeeds.
use Rattle.std.proofs.Common.{◌≡◌, ℕ, ◌+◌, ◌-◌, ◌≤◌, ◌<◌, ◌⊎◌, ◌&&◌, ◌++◌, Bool, true, false, List, [], ◌∷◌, Option, Some, None, Result, Ok, Err, IfOk, nat_lt, refl, sym, ◌∙◌, ap, subst, arith, inl, inr, MatchBool}
use Rattle.std.specs.List.{All, Contains}
use Rattle.std.proofs.lemmas.List.Elements.{All-cons, All-head, All-nil, All-tail, All-weaker}
use Rattle.futures.specs.declared.task.Poll.{Poll}
use Rattle.futures.specs.declared.task.Poll.TheVariants.{Ready, Pending}
use Rattle.he_addr.specs.Ip.{same_ip}
use Rattle.he_addr.specs.declared.ip.Ip.{Ip}
use Rattle.he_plan.specs.declared.attempts.Attempt.{Attempt}
use Rattle.he_plan.specs.Attempts.{AreNextInTurn}
use Rattle.he_plan.proofs.Growing.{outcome-others, outcome-own}
use Rattle.he_timeline.specs.declared.outcome.Outcome.TheVariants as outcomes
use Rattle.he_timeline.specs.Building.{with_outcome}
use Rattle.he_timeline.specs.Race.{Race, has_outcome, outcome_of}
use Rattle.he_timeline.proofs.Ranges.{same_ip-sym}
use Rattle.he_turns.specs.declared.attempt.AttemptFuture.{AttemptFuture}
use Rattle.he_turns.specs.declared.attempt.AttemptFuture.TheVariants.{Sleeping, Connecting, Done}
use Rattle.he_turns.specs.declared.attempt.Finish.{Finish}
use Rattle.he_turns.specs.declared.connector.Connector.{Ghosts as ConnectorOf}
use Rattle.he_turns.specs.declared.faults.AttemptFault.{AttemptFault}
use Rattle.he_turns.specs.declared.live.Unfinished.{Unfinished}
use Rattle.he_turns.specs.declared.trial.Trial.{Ghosts as TrialOf}
use Rattle.he_turns.specs.Attempt.{AttemptPolls, Begins, LeadsTo, RunAnswers}
use Rattle.he_turns.specs.Kept.{are_untold}
use Rattle.he_turns.specs.Reach.{AreAmong, ReachAlike}
use Rattle.he_turns.specs.Recording.{ended_by}
use Rattle.he_turns.specs.Turns.{ArePolled, Sweep, after_poll, first_of, is_connection}
use Rattle.he_turns.specs.Winner.{AreInOrder, IsAhead}
use Rattle.he_turns.proofs.Recorded.{same-attempt}
use Rattle.he_turns.proofs.Untold.{untold-at, untold-left, untold-rest}

-- an element that is put in the place of another
All-moved : {X : Type 0} (P : X → Type 0) (ps os : List X) (o new : X) → P new → All P (ps ++ o ∷ os) → All P ((ps ++ new ∷ []) ++ os)
All-moved P [] os o new is all = All-cons P new os is (All-tail P o os all)
All-moved P (p ∷ ps) os o new is all =
    All-cons P p ((ps ++ new ∷ []) ++ os) (All-head P p (ps ++ o ∷ os) all) (All-moved P ps os o new is (All-tail P p (ps ++ o ∷ os) all))

All-dropped : {X : Type 0} (P : X → Type 0) (ps os : List X) (o : X) → All P (ps ++ o ∷ os) → All P (ps ++ os)
All-dropped P [] os o all = All-tail P o os all
All-dropped P (p ∷ ps) os o all =
    All-cons P p (ps ++ os) (All-head P p (ps ++ o ∷ os) all) (All-dropped P ps os o (All-tail P p (ps ++ o ∷ os) all))

All-inner : {X : Type 0} (P : X → Type 0) (ps os : List X) (o : X) → All P (ps ++ o ∷ os) → P o
All-inner P [] os o all = All-head P o os all
All-inner P (p ∷ ps) os o all = All-inner P ps os o (All-tail P p (ps ++ o ∷ os) all)

pub alike-itself : {Conn : Type 0} (reaches : Ip → Conn → Type 0) → ReachAlike reaches reaches
alike-itself reaches = λ ip. (λ conn h. h, λ conn h. h)

pub alike-on : {Conn : Type 0} (first second third : Ip → Conn → Type 0) → ReachAlike first second → ReachAlike second third → ReachAlike first third
alike-on first second third e f = λ ip. (λ conn h. (f ip).0 conn ((e ip).0 conn h), λ conn h. (e ip).1 conn ((f ip).1 conn h))

some_is : {A : Type 0} (x y : A) → Some x ≡ Some y → x ≡ y
some_is x y e = cc

failed_is_none : (d e : ℕ) → Some (outcomes.Fail d) ≡ Some (outcomes.Ok e) → ⊥
failed_is_none d e h = cc

module _ {C Conn Run : Type 0} (connector : ConnectorOf C Conn Run) (trial : TrialOf Run Conn) where
  abbrev Held : Type 0
  Held = Unfinished C Conn Run

  abbrev pub Leads : (Ip → Conn → Type 0) → Held → Type 0
  Leads reaches o = LeadsTo connector trial reaches o.attempt.ip o.future

  -- where the same connections go to the same addresses
  leads-as : (first second : Ip → Conn → Type 0) (ip : Ip) (a : AttemptFuture C Conn Run) → ReachAlike first second → LeadsTo connector trial first ip a → LeadsTo connector trial second ip a
  leads-as first second ip (Sleeping place own start) e h = h
  leads-as first second ip (Connecting (Ok run) next is_fresh) e h = λ conn may. (e ip).0 conn (h conn may)
  leads-as first second ip (Connecting (Err fault) next is_fresh) e h = tt
  leads-as first second ip (Done started) e h = tt

  pub all-lead-as : (first second : Ip → Conn → Type 0) (os : List Held) → ReachAlike first second → All (Leads first) os → All (Leads second) os
  all-lead-as first second os e h = All-weaker (Leads first) (Leads second) (λ o l. leads-as first second o.attempt.ip o.future e l) os h

  -- what a poll leaves of an attempt that leads to an address, or the connection that it gives
  abbrev LeadsAfter : (Ip → Conn → Type 0) → Ip → Poll (Finish Conn) → AttemptFuture C Conn Run → Type 0
  LeadsAfter reaches ip Pending new = LeadsTo connector trial reaches ip new
  LeadsAfter reaches ip (Ready f) new = IfOk f.result (reaches ip)

  pub record Led (c c' : C) (ip : Ip) (answer : Poll (Finish Conn)) (new : AttemptFuture C Conn Run) : Type 0 where
    pub still : ReachAlike (connector.reaches c) (connector.reaches c')
    pub after : LeadsAfter (connector.reaches c) ip answer new

  unmoved : (c c' : C) → c' ≡ c → ReachAlike (connector.reaches c) (connector.reaches c')
  unmoved c c' e = subst (λ (x : C). ReachAlike (connector.reaches c) (connector.reaches x)) (sym e) (alike-itself (connector.reaches c))

  waited : (c c' : C) (ip : Ip) (answer : Poll (Finish Conn)) (old new : AttemptFuture C Conn Run) → ReachAlike (connector.reaches c) (connector.reaches c') → answer ≡ Pending → new ≡ old → LeadsTo connector trial (connector.reaches c) ip old → Led c c' ip answer new
  waited c c' ip answer old new still e f h =
      let pending : Led c c' ip Pending old = record { still = still; after = h } in
      subst (λ (a : Poll (Finish Conn)). Led c c' ip a new) (sym e) (subst (Led c c' ip Pending) (sym f) pending)

  pub leads-poll : (c c' : C) (old new : AttemptFuture C Conn Run) (now : ℕ) (answer : Poll (Finish Conn)) (ip : Ip) → LeadsTo connector trial (connector.reaches c) ip old → AttemptPolls connector trial c old now answer c' new → Led c c' ip answer new
  leads-poll c c' (Done started) new now answer ip h p = absurd p
  leads-poll c c' (Sleeping place own start) new now answer ip h p = by_start (nat_lt now start) p.1
    where
      begun : (run : Result Run AttemptFault) → IfOk run (λ r. AreAmong (trial.may_give r) (connector.reaches c own)) → LeadsTo connector trial (connector.reaches c) ip (Connecting run (now + 1) true)
      begun (Ok run) among = λ conn may. subst (λ (x : Ip). connector.reaches c x conn) h (among conn may)
      begun (Err fault) among = tt

      by_start : (b : Bool) → MatchBool b ((c' ≡ c) × (new ≡ Sleeping place own start)) (Begins connector trial place own c now c' new) → Led c c' ip answer new
      by_start true q = waited c c' ip answer (Sleeping place own start) new (unmoved c c' q.0) p.0 q.1 h
      by_start false q = waited c c' ip answer (Connecting q.0 (now + 1) true) new q.4 p.0 q.2 (begun q.0 q.3)
  leads-poll c c' (Connecting run next is_fresh) new now answer ip h p = by_fresh (is_fresh && nat_lt now next) p.1
    where
      still : ReachAlike (connector.reaches c) (connector.reaches c')
      still = unmoved c c' p.0

      given : (r : Result Conn AttemptFault) (may : Conn → Type 0) → IfOk r may → AreAmong may (connector.reaches c ip) → IfOk r (connector.reaches c ip)
      given (Ok conn) may is among = among conn is
      given (Err fault) may is among = tt

      answered : (x : Result Run AttemptFault) → LeadsTo connector trial (connector.reaches c) ip (Connecting x next is_fresh) → (a : Poll (Finish Conn)) → RunAnswers connector trial x next now a new → Led c c' ip a new
      answered (Ok r) l Pending q = waited c c' ip Pending (Connecting (Ok q.0) next false) new still refl q.2 (λ conn may. l conn (q.3 conn may))
      answered (Ok r) l (Ready f) q = record { still = still; after = given f.result (trial.may_give r) q.4 l }
      answered (Err fault) l Pending q = absurd q
      answered (Err fault) l (Ready f) q = record { still = still; after = subst (λ (z : Finish Conn). IfOk z.result (connector.reaches c ip)) (sym q.0) tt }

      by_fresh : (b : Bool) → MatchBool b ((answer ≡ Pending) × (new ≡ Connecting run next is_fresh)) (RunAnswers connector trial run next now answer new) → Led c c' ip answer new
      by_fresh true q = waited c c' ip answer (Connecting run next is_fresh) new still q.0 q.1 h
      by_fresh false q = answered run h answer q

  -- the order of those that stay
  order-moved : (ps os : List Held) (o new : Held) → new.attempt ≡ o.attempt → AreInOrder (ps ++ o ∷ os) → AreInOrder ((ps ++ new ∷ []) ++ os)
  order-moved [] os o new same h = (subst (λ (x : Attempt). All (λ (p : Held). x.place < p.attempt.place) os) (sym same) h.0, h.1)
  order-moved (p ∷ ps) os o new same h = (
    All-moved (IsAhead p) ps os o new (subst (λ (x : Attempt). p.attempt.place < x.place) (sym same) (All-inner (IsAhead p) ps os o h.0)) h.0,
    order-moved ps os o new same h.1,
  )

  order-dropped : (ps os : List Held) (o : Held) → AreInOrder (ps ++ o ∷ os) → AreInOrder (ps ++ os)
  order-dropped [] os o h = h.1
  order-dropped (p ∷ ps) os o h = (All-dropped (IsAhead p) ps os o h.0, order-dropped ps os o h.1)

  order-after : (ps os : List Held) (o : Held) → AreInOrder (ps ++ o ∷ os) → All (IsAhead o) os
  order-after [] os o h = h.0
  order-after (p ∷ ps) os o h = order-after ps os o h.1

  pub order-more : (os : List Held) (o : Held) → AreInOrder os → All (λ (p : Held). p.attempt.place < o.attempt.place) os → AreInOrder (os ++ o ∷ [])
  order-more [] o h later = (All-nil (IsAhead o), tt)
  order-more (p ∷ os) o h later =
      let P : Held → Type 0 = λ q. q.attempt.place < o.attempt.place in (
        All-joined (IsAhead p) os o h.0 (All-head P p os later),
        order-more os o h.1 (All-tail P p os later),
      )
    where
      All-joined : (Q : Held → Type 0) (xs : List Held) (x : Held) → All Q xs → Q x → All Q (xs ++ x ∷ [])
      All-joined Q [] x all is = All-cons Q x [] is (All-nil Q)
      All-joined Q (y ∷ xs) x all is = All-cons Q y (xs ++ x ∷ []) (All-head Q y xs all) (All-joined Q xs x (All-tail Q y xs all) is)

  -- an attempt of these has succeeded
  abbrev pub HasWon : Race → Attempt → ℕ → Type 0
  HasWon race y d = outcome_of race y.ip ≡ Some (outcomes.Ok d)

  abbrev pub NoneWon : Race → List Attempt → Type 0
  NoneWon race xs = (y : Attempt) (d : ℕ) → Contains xs y → HasWon race y d → ⊥

  -- the connection goes to the address of the first attempt that has succeeded, and the attempts that are not polled
  -- yet come after it
  pub record FirstWon (c : C) (race : Race) (xs : List Attempt) (conn : Conn) (os : List Held) : Type 0 where
    pub x : Attempt
    pub made : Contains xs x
    pub duration : ℕ
    pub success : HasWon race x duration
    pub goes : connector.reaches c x.ip conn
    pub first : (y : Attempt) (d : ℕ) → Contains xs y → HasWon race y d → x.place ≤ y.place
    pub later : All (λ (o : Held). x.place < o.attempt.place) os

  -- what is known of the first connection, if there is one
  abbrev pub IsFirst : C → Race → List Attempt → Option Conn → List Held → Type 0
  IsFirst c race xs None os = NoneWon race xs
  IsFirst c race xs (Some conn) os = FirstWon c race xs conn os

  module _ (c : C) (given : Race) (xs : List Attempt) (in_turn : AreNextInTurn given xs) where
    -- a turn in which some attempts were polled, and these were not yet
    pub record Aiming (s : Sweep C Conn Run) (os : List Held) : Type 0 where
      pub still : ReachAlike (connector.reaches c) (connector.reaches s.connector)
      pub attempts : s.attempts ≡ xs
      pub leads : All (Leads (connector.reaches c)) (s.pending ++ os)
      pub order : AreInOrder (s.pending ++ os)
      pub made : All (λ (o : Held). Contains xs o.attempt) (s.pending ++ os)
      pub untold : are_untold s.recorded.outcomes os ≡ true
      pub first : IsFirst c s.recorded xs s.first os

    -- how the attempt that is polled ended is told
    module _ (race : Race) (x : Attempt) (made : Contains xs x) (silent : has_outcome x.ip race.outcomes ≡ false) (ok : Bool) (duration : ℕ) where
      abbrev later_race : Race
      later_race = with_outcome race x.ip (ended_by ok duration)

      -- one that has succeeded then is it, or had succeeded before
      which : (y : Attempt) (d : ℕ) → Contains xs y → HasWon later_race y d → (y ≡ x) ⊎ HasWon race y d
      which y d at won = by_ip (same_ip x.ip y.ip) refl
        where
          by_ip : (b : Bool) → same_ip x.ip y.ip ≡ b → (y ≡ x) ⊎ HasWon race y d
          by_ip true e = inl (same-attempt given xs in_turn x y made at (same_ip-sym y.ip x.ip ∙ e))
          by_ip false e = inr (sym (outcome-others race x.ip y.ip (ended_by ok duration) e) ∙ won)

      stays : (y : Attempt) (d : ℕ) → Contains xs y → (y ≡ x → ⊥) → HasWon race y d → HasWon later_race y d
      stays y d at other won = by_ip (same_ip x.ip y.ip) refl
        where
          by_ip : (b : Bool) → same_ip x.ip y.ip ≡ b → HasWon later_race y d
          by_ip true e = absurd (other (same-attempt given xs in_turn x y made at (same_ip-sym y.ip x.ip ∙ e)))
          by_ip false e = outcome-others race x.ip y.ip (ended_by ok duration) e ∙ won

      -- the first that had succeeded stays the first
      pub first-stays : (conn : Conn) (os : List Held) (o : Held) → o.attempt ≡ x → FirstWon c race xs conn (o ∷ os) → FirstWon c later_race xs conn os
      first-stays conn os o is w =
          let P : Held → Type 0 = λ p. w.x.place < p.attempt.place in
          let before : w.x.place < x.place = subst (λ (y : Attempt). w.x.place < y.place) is (All-head P o os w.later) in
          record {
            x = w.x;
            made = w.made;
            duration = w.duration;
            success = stays w.x w.duration w.made (λ e. (let same : w.x.place ≡ x.place = ap (λ (y : Attempt). y.place) e in omega (arith, before))) w.success;
            goes = w.goes;
            first = λ y d at won. elim (which y d at won) [
              | inl e ↦ let same : y.place ≡ x.place = ap (λ (z : Attempt). z.place) e in omega (arith, before)
              | inr had ↦ w.first y d at had
            ];
            later = All-tail P o os w.later;
          }

      none-stays : ok ≡ false → NoneWon race xs → NoneWon later_race xs
      none-stays lost none = λ y d at won. elim (which y d at won) [
        | inl e ↦
            let own : outcome_of later_race x.ip ≡ Some (ended_by ok duration) = outcome-own race x.ip (ended_by ok duration) silent in
            let here : HasWon later_race x d = subst (λ (z : Attempt). HasWon later_race z d) e won in
            failed_is_none duration d (ap (λ (b : Bool). Some (ended_by b duration)) (sym lost) ∙ sym own ∙ here)
        | inr had ↦ none y d at had
      ]

      -- it is the first where none had
      first-now : ok ≡ true → (conn : Conn) (os : List Held) → connector.reaches c x.ip conn → All (λ (o : Held). x.place < o.attempt.place) os → NoneWon race xs → FirstWon c later_race xs conn os
      first-now won conn os goes later none = record {
        x = x;
        made = made;
        duration = duration;
        success = outcome-own race x.ip (ended_by ok duration) silent ∙ ap (λ (b : Bool). Some (ended_by b duration)) won;
        goes = goes;
        first = λ y d at has. elim (which y d at has) [
          | inl e ↦ let same : y.place ≡ x.place = ap (λ (z : Attempt). z.place) e in omega arith
          | inr had ↦ absurd (none y d at had)
        ];
        later = later;
      }

    tail-first : (race : Race) (first : Option Conn) (o : Held) (os : List Held) → IsFirst c race xs first (o ∷ os) → IsFirst c race xs first os
    tail-first race None o os h = h
    tail-first race (Some conn) o os h = record {
      x = h.x;
      made = h.made;
      duration = h.duration;
      success = h.success;
      goes = h.goes;
      first = h.first;
      later = All-tail (λ (p : Held). h.x.place < p.attempt.place) o os h.later;
    }

    told-first : (race : Race) (first : Option Conn) (o : Held) (os : List Held) (now : ℕ) (answer : Result Conn AttemptFault) → Contains xs o.attempt → has_outcome o.attempt.ip race.outcomes ≡ false → All (IsAhead o) os → IfOk answer (connector.reaches c o.attempt.ip) → IsFirst c race xs first (o ∷ os)
        → IsFirst c (with_outcome race o.attempt.ip (ended_by (is_connection answer) (now - o.attempt.tick))) xs (first_of first answer) os
    told-first race (Some conn) o os now answer made silent ahead goes h = first-stays race o.attempt made silent (is_connection answer) (now - o.attempt.tick) conn os o refl h
    told-first race None o os now (Ok conn) made silent ahead goes h = first-now race o.attempt made silent true (now - o.attempt.tick) refl conn os goes ahead h
    told-first race None o os now (Err fault) made silent ahead goes h = none-stays race o.attempt made silent false (now - o.attempt.tick) refl h

    aiming-one : (s : Sweep C Conn Run) (o : Held) (os : List Held) (now : ℕ) → Aiming s (o ∷ os) → (answer : Poll (Finish Conn)) (c' : C) (future : AttemptFuture C Conn Run) → AttemptPolls connector trial s.connector o.future now answer c' future → Aiming (after_poll connector trial s o now answer c' future) os
    aiming-one s o os now a answer c' future polls = by_answer answer led
      where
        made : Contains xs o.attempt
        made = All-inner (λ (p : Held). Contains xs p.attempt) s.pending os o a.made

        silent : has_outcome o.attempt.ip s.recorded.outcomes ≡ false
        silent = untold-at s.recorded.outcomes (o ∷ os) a.untold 0 o (omega arith)

        led : Led s.connector c' o.attempt.ip answer future
        led = leads-poll s.connector c' o.future future now answer o.attempt.ip
            (leads-as (connector.reaches c) (connector.reaches s.connector) o.attempt.ip o.future a.still (All-inner (Leads (connector.reaches c)) s.pending os o a.leads)) polls

        back : ReachAlike (connector.reaches s.connector) (connector.reaches c)
        back = λ ip. ((a.still ip).1, (a.still ip).0)

        goes : (r : Result Conn AttemptFault) → IfOk r (connector.reaches s.connector o.attempt.ip) → IfOk r (connector.reaches c o.attempt.ip)
        goes (Ok conn) h = (back o.attempt.ip).0 conn h
        goes (Err fault) h = tt

        by_answer : (x : Poll (Finish Conn)) → Led s.connector c' o.attempt.ip x future → Aiming (after_poll connector trial s o now x c' future) os
        by_answer Pending l = record {
          still = alike-on (connector.reaches c) (connector.reaches s.connector) (connector.reaches c') a.still l.still;
          attempts = a.attempts;
          leads = All-moved (Leads (connector.reaches c)) s.pending os o (record o { future = future }) (leads-as (connector.reaches s.connector) (connector.reaches c) o.attempt.ip future back l.after) a.leads;
          order = order-moved s.pending os o (record o { future = future }) refl a.order;
          made = All-moved (λ (p : Held). Contains xs p.attempt) s.pending os o (record o { future = future }) made a.made;
          untold = untold-rest s.recorded.outcomes o os a.untold;
          first = tail-first s.recorded s.first o os a.first;
        }
        by_answer (Ready f) l = record {
          still = alike-on (connector.reaches c) (connector.reaches s.connector) (connector.reaches c') a.still l.still;
          attempts = a.attempts;
          leads = All-dropped (Leads (connector.reaches c)) s.pending os o a.leads;
          order = order-dropped s.pending os o a.order;
          made = All-dropped (λ (p : Held). Contains xs p.attempt) s.pending os o a.made;
          untold = untold-left s.recorded.outcomes (o ∷ os) a.untold 0 o (omega arith) (ended_by (is_connection f.result) (now - o.attempt.tick));
          first = told-first s.recorded s.first o os now f.result made silent (order-after s.pending os o a.order) (goes f.result l.after) a.first;
        }

    pub aiming-all : (s to : Sweep C Conn Run) (os : List Held) (now : ℕ) → Aiming s os → ArePolled connector trial now s os to → Aiming to []
    aiming-all s to [] now a p = subst (λ (z : Sweep C Conn Run). Aiming z []) (sym p) a
    aiming-all s to (o ∷ os) now a p =
        aiming-all (after_poll connector trial s o now p.0 p.1 p.2) to os now (aiming-one s o os now a p.0 p.1 p.2 p.3) p.4

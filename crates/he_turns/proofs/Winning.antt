-- That the connection that a race gives goes to the address of the line that won.
use Rattle.std.proofs.Common.{◌≡◌, ℕ, zero, suc, ◌+◌, ◌≤◌, ◌<◌, ◌⊎◌, ◌++◌, Bool, true, false, if◌then◌else◌, List, [], ◌∷◌, length, take, map, filter, nat_le, nat_lt, min, MatchBool, Option, Some, None, IfSome, IsSomeAnd, is_some, refl, sym, ◌∙◌, ap, subst, arith, inl, inr}
use Rattle.std.specs.List.{All, Contains, list_all, slice_get}
use Rattle.std.proofs.lemmas.List.{append-nil, length-take}
use Rattle.std.proofs.lemmas.List.Elements.{All-append, All-cons, All-nil, All-weaker}
use Rattle.std.proofs.lemmas.Option.{slice_get-get_or, slice_get_within, get_or_from_slice_get}
use Rattle.he_addr.specs.declared.ip.Ip.{Ip}
use Rattle.he_plan.specs.declared.attempts.Attempt.{Attempt}
use Rattle.he_plan.specs.declared.finish.Fate.{Fate}
use Rattle.he_plan.specs.declared.finish.Fate.TheVariants.{Succeeded, Failed, Running}
use Rattle.he_plan.specs.declared.transcript.Line.{Line}
use Rattle.he_plan.specs.declared.transcript.Outcome3.{Outcome3}
use Rattle.he_plan.specs.Attempts.{AreAttempts, AreNextInTurn, IsNext}
use Rattle.he_plan.specs.Finish.{ComesFirst, IsWinner, fate_by, fate_of, finish_of}
use Rattle.he_plan.specs.Transcript.{IsTranscript, Report, line_of, lines_of, result_of}
use Rattle.he_plan.proofs.Lawful.{attempts-below, attempts-prefix}
use Rattle.he_plan.proofs.Stopping.{late_success}
use Rattle.he_timeline.specs.declared.outcome.Outcome.{Outcome}
use Rattle.he_timeline.specs.declared.outcome.Outcome.TheVariants as outcomes
use Rattle.he_timeline.specs.Race.{Race, outcome_in, outcome_of}
use Rattle.futures.specs.declared.task.Poll.TheVariants.{Pending}
use Rattle.he_turns.specs.declared.attempt.AttemptFuture.TheVariants.{Sleeping}
use Rattle.he_turns.specs.declared.connector.Connector.{Ghosts as ConnectorOf}
use Rattle.he_turns.specs.declared.live.AfterPoll.TheVariants as after_polls
use Rattle.he_turns.specs.declared.live.Live.{Live}
use Rattle.he_turns.specs.declared.live.Raced.{Raced}
use Rattle.he_turns.specs.declared.live.Unfinished.{Unfinished}
use Rattle.he_turns.specs.declared.trial.Trial.{Ghosts as TrialOf}
use Rattle.he_turns.specs.Attempt.{LeadsTo}
use Rattle.he_turns.specs.Heard.{Hears, Tells}
use Rattle.he_turns.specs.Kept.{FailedBelow, IsLive, IsUnfinished, are_untold, first_after}
use Rattle.he_turns.specs.Reach.{ReachAlike}
use Rattle.he_turns.specs.Recording.{EndsRace, slept}
use Rattle.he_turns.specs.Resolving.{HeardAt, HeardFrom, HeardTurn}
use Rattle.he_turns.specs.Turns.{ArePolled, BeginsNext, EndsPolled, Goes, PolledAt, PolledFrom, StartsOne, Sweep, Turned, unpolled}
use Rattle.he_turns.specs.Winner.{AreInOrder, GoesAt, IsAimed, MayPoll, WinnerGoes}
use Rattle.he_turns.proofs.Aiming.{Aiming, FirstWon, IsFirst, Leads, Led, NoneWon, aiming-all, alike-itself, alike-on, all-lead-as, leads-poll, order-more}
use Rattle.he_turns.proofs.Ending.{success-stop, won-stop}
use Rattle.he_turns.proofs.Heard.{heard-same}
use Rattle.he_turns.proofs.Recorded.{all_before, get_last, take_all_of}
use Rattle.he_turns.proofs.Untold.{slept-outcomes}

-- an attempt that has succeeded has a success as its outcome
succeeded_ok : (race : Race) (start finish : ℕ) (o : Option Outcome) → fate_by race start o ≡ Succeeded finish → (d : ℕ) × (o ≡ Some (outcomes.Ok d))
succeeded_ok race start finish None h = cc
succeeded_ok race start finish (Some (outcomes.Ok d)) h = (d, refl)
succeeded_ok race start finish (Some (outcomes.Fail d)) h = absurd (by_limit (nat_le (finish_of race start d) race.settings.limit) h)
  where
    by_limit : (b : Bool) → (if b then Failed (finish_of race start d) else Running) ≡ Succeeded finish → ⊥
    by_limit true e = cc
    by_limit false e = cc

some_fate : (x y : Fate) → Some x ≡ Some y → x ≡ y
some_fate x y e = cc

-- the attempt whose fate stands at i
fate-at : (race : Race) (xs : List Attempt) (i : ℕ) (fate : Fate) → slice_get (map (fate_of race) xs) i ≡ Some fate → (y : Attempt) × (slice_get xs i ≡ Some y) × (fate_of race y ≡ fate)
fate-at race [] i fate h = cc
fate-at race (x ∷ xs) zero fate h = (x, refl, some_fate _ _ h)
fate-at race (x ∷ xs) (suc i) fate h = fate-at race xs i fate h

map-at : {X Y : Type 0} (f : X → Y) (xs : List X) (i : ℕ) (x : X) → slice_get xs i ≡ Some x → slice_get (map f xs) i ≡ Some (f x)
map-at f [] i x h = cc
map-at f (y ∷ xs) zero x h = let same : y ≡ x = cc in ap (λ z. Some (f z)) same
map-at f (y ∷ xs) (suc i) x h = map-at f xs i x h

-- a fate of those before, or of those after
split-at : (race : Race) (xs later : List Attempt) (i : ℕ) (fate : Fate) → slice_get (map (fate_of race) (xs ++ later)) i ≡ Some fate → (slice_get (map (fate_of race) xs) i ≡ Some fate) ⊎ ((j : ℕ) × (slice_get (map (fate_of race) later) j ≡ Some fate))
split-at race [] later i fate h = inr (i, h)
split-at race (x ∷ xs) later zero fate h = inl h
split-at race (x ∷ xs) later (suc i) fate h = split-at race xs later i fate h

joined-at : (race : Race) (xs later : List Attempt) (i : ℕ) (fate : Fate) → slice_get (map (fate_of race) xs) i ≡ Some fate → slice_get (map (fate_of race) (xs ++ later)) i ≡ Some fate
joined-at race [] later i fate h = cc
joined-at race (x ∷ xs) later zero fate h = h
joined-at race (x ∷ xs) later (suc i) fate h = joined-at race xs later i fate h

-- an attempt's place is where it stands
place-at : (race : Race) (xs : List Attempt) → AreNextInTurn race xs → (i : ℕ) (x : Attempt) → slice_get xs i ≡ Some x → x.place ≡ i
place-at race xs in_turn i x at =
    let within : i < length xs = slice_get_within xs i x at in
    let place : x.place ≡ length (take i xs) = (in_turn i x at).place in
    omega (arith, length-take i xs)

contained-at : (xs : List Attempt) (x : Attempt) → (at : Contains xs x) → slice_get xs at.0 ≡ Some x
contained-at xs x at = slice_get-get_or xs at.0 x at.1 ∙ ap Some at.2

contains-from : (xs : List Attempt) (i : ℕ) (x : Attempt) → slice_get xs i ≡ Some x → Contains xs x
contains-from xs i x at = (i, slice_get_within xs i x at, get_or_from_slice_get xs i x x at)

-- each attempt of a race comes before the next one
places-below : (race : Race) (xs : List Attempt) → AreNextInTurn race xs → (x : Attempt) → Contains xs x → x.place < length xs
places-below race xs in_turn x at = let place : x.place ≡ at.0 = place-at race xs in_turn at.0 x (contained-at xs x at) in omega (arith, at.1)

-- without a connection nothing is said of where it goes
late-winner : {Conn : Type 0} (reaches : Ip → Conn → Type 0) (raced : Raced Conn) → raced.winner ≡ None → WinnerGoes reaches raced
late-winner {Conn} reaches raced none = subst (λ (x : Option Conn). IfSome x (GoesAt reaches raced.transcript.lines raced.transcript.result)) (sym none) tt

module _ {C Conn Run : Type 0} (connector : ConnectorOf C Conn Run) (trial : TrialOf Run Conn) where
  -- what is kept of a race that goes on
  pub record AimedOn (c c' : C) (next : Live C Conn Run) : Type 0 where
    pub aimed : IsAimed connector trial c' next
    pub still : ReachAlike (connector.reaches c) (connector.reaches c')

  -- the line of the first attempt that has succeeded is the one at the winning place
  module _ (c : C) (race : Race) (stop : ℕ) (xs : List Attempt) (e : EndsRace race stop xs true) (conn : Conn) (w : FirstWon connector trial c race xs conn []) where
    abbrev place : ℕ
    place = w.made.0

    here : slice_get xs w.made.0 ≡ Some w.x
    here = contained-at xs w.x w.made

    own_place : w.x.place ≡ w.made.0
    own_place = place-at race xs e.in_turn w.made.0 w.x here

    own_success : slice_get (map (fate_of race) xs) w.made.0 ≡ Some (Succeeded stop)
    own_success = map-at (fate_of race) xs w.made.0 w.x here ∙ ap Some (won-stop race stop xs true e (record { x = w.x; made = w.made; duration = w.duration; success = w.success }))

    -- no other success comes before it
    first_place : (i : ℕ) → slice_get (map (fate_of race) xs) i ≡ Some (Succeeded stop) → w.made.0 ≤ i
    first_place i h =
        let y : (y : Attempt) × (slice_get xs i ≡ Some y) × (fate_of race y ≡ Succeeded stop) = fate-at race xs i (Succeeded stop) h in
        let d : (d : ℕ) × (outcome_of race y.0.ip ≡ Some (outcomes.Ok d)) = succeeded_ok race y.0.tick stop (outcome_of race y.0.ip) y.2 in
        let before : w.x.place ≤ y.0.place = w.first y.0 d.0 (contains-from xs i y.0 y.1) d.1 in
        let place_of : y.0.place ≡ i = place-at race xs e.in_turn i y.0 y.1 in
        omega (arith, before, place_of, own_place)

    module _ (all : List Attempt) (are : AreAttempts race all) where
      rest : (later : List Attempt) × (all ≡ xs ++ later) × (list_all (λ (x : Attempt). nat_le stop x.tick) later ≡ true)
      rest = attempts-prefix race stop xs all e.in_turn e.stops are

      success_of_all : slice_get (map (fate_of race) all) w.made.0 ≡ Some (Succeeded stop)
      success_of_all = subst (λ (ys : List Attempt). slice_get (map (fate_of race) ys) w.made.0 ≡ Some (Succeeded stop)) (sym rest.1) (joined-at race xs rest.0 w.made.0 (Succeeded stop) own_success)

      -- the winner is it
      winner-is : (winner : ℕ × ℕ) → IsWinner (map (fate_of race) all) (Some winner) → (winner.0 ≡ stop) × (winner.1 ≡ w.made.0)
      winner-is winner wins = by_part (split-at race xs rest.0 winner.1 (Succeeded winner.0) (subst (λ (ys : List Attempt). slice_get (map (fate_of race) ys) winner.1 ≡ Some (Succeeded winner.0)) rest.1 wins.0)) (wins.1 (stop, w.made.0) success_of_all)
        where
          among : slice_get (map (fate_of race) xs) winner.1 ≡ Some (Succeeded winner.0) → (winner.0 ≡ stop) → winner.1 ≤ w.made.0 → (winner.0 ≡ stop) × (winner.1 ≡ w.made.0)
          among h same le =
              let at_stop : slice_get (map (fate_of race) xs) winner.1 ≡ Some (Succeeded stop) = h ∙ ap (λ (n : ℕ). Some (Succeeded n)) same in
              let before : w.made.0 ≤ winner.1 = first_place winner.1 at_stop in
              (same, omega arith)

          by_part : (slice_get (map (fate_of race) xs) winner.1 ≡ Some (Succeeded winner.0)) ⊎ ((j : ℕ) × (slice_get (map (fate_of race) rest.0) j ≡ Some (Succeeded winner.0))) → ComesFirst winner (stop, w.made.0) → (winner.0 ≡ stop) × (winner.1 ≡ w.made.0)
          by_part (inl h) (inl sooner) = let same : winner.0 ≡ stop = success-stop race stop xs true e winner.1 winner.0 h in absurd (let no : ⊥ = omega (arith, sooner) in no)
          by_part (inl h) (inr equal) = among h equal.0 equal.1
          by_part (inr h) (inl sooner) = let late : stop < winner.0 = late_success race e.valid stop winner.0 rest.0 h.0 rest.2 h.1 in absurd (let no : ⊥ = omega (arith, sooner) in no)
          by_part (inr h) (inr equal) = let late : stop < winner.0 = late_success race e.valid stop winner.0 rest.0 h.0 rest.2 h.1 in absurd (let no : ⊥ = omega (arith, equal.0) in no)

      below : filter (λ (x : Attempt). nat_lt x.tick stop) all ≡ xs
      below = attempts-below race stop xs all e.in_turn (all_before stop xs (e.before refl)) e.stops are

      lines-are : (winner : ℕ × ℕ) → winner.0 ≡ stop → lines_of race (Some winner) all ≡ map (line_of race (Some winner)) xs
      lines-are winner same = ap (λ (ys : List Attempt). map (line_of race (Some winner)) ys) (ap (λ (n : ℕ). filter (λ (x : Attempt). nat_lt x.tick n) all) same ∙ below)

    pub winner-line : (report : Report) → IsTranscript race report → GoesAt (connector.reaches c) report.lines report.result conn
    winner-line report t = by_winner t.winner t.wins t.lines t.result
      where
        by_winner : (winner : Option (ℕ × ℕ)) → IsWinner (map (fate_of race) t.attempts) winner → report.lines ≡ lines_of race winner t.attempts → report.result ≡ result_of race t.attempts (map (fate_of race) t.attempts) winner → GoesAt (connector.reaches c) report.lines report.result conn
        by_winner None wins lines result = absurd (wins (stop, w.made.0) (success_of_all t.attempts t.are))
        by_winner (Some winner) wins lines result =
            let is : (winner.0 ≡ stop) × (winner.1 ≡ w.made.0) = winner-is t.attempts t.are winner wins in
            let line : slice_get report.lines winner.1 ≡ Some (line_of race (Some winner) w.x) =
            ap (λ (ls : List Line). slice_get ls winner.1) (lines ∙ lines-are t.attempts t.are winner is.0)
            ∙ ap (λ (n : ℕ). slice_get (map (line_of race (Some winner)) xs) n) is.1
            ∙ map-at (line_of race (Some winner)) xs w.made.0 w.x here in
            subst (λ (r : Outcome3). GoesAt (connector.reaches c) report.lines r conn) (sym result)
            (subst (λ (l : Option Line). IsSomeAnd l (λ (x : Line). connector.reaches c x.ip conn)) (sym line) w.goes)

  -- a turn of a race that may be polled, once what was slept and what was heard is recorded
  module _ (c : C) (live : Live C Conn Run) (may : MayPoll connector trial c live) (race : Race) (same : race.outcomes ≡ live.recorder.recorded.outcomes) where
    abbrev made : List Attempt
    made = live.recorder.underway.attempts

    none-won : NoneWon connector trial race live.recorder.underway.attempts
    none-won y d at won =
        let P : Attempt → Type 0 = λ x. IfSome (outcome_of live.recorder.recorded x.ip) (FailedBelow live.recorder.recorded (first_after live.recorder.turn) x) in
        let failed : P y = subst P at.2 (may.kept.recorder.rests.failed at.0 y at.1) in
        let was : outcome_of live.recorder.recorded y.ip ≡ Some (outcomes.Ok d) = subst (λ (told : List (Ip × Outcome)). outcome_in told y.ip ≡ Some (outcomes.Ok d)) same won in
        subst (λ (o : Option Outcome). IfSome o (FailedBelow live.recorder.recorded (first_after live.recorder.turn) y)) was failed

    aiming-begins : Aiming connector trial c live.recorder.recorded live.recorder.underway.attempts may.kept.recorder.rests.made.in_turn (unpolled c race live.recorder.underway.attempts) live.unfinished.items
    aiming-begins = record {
      still = alike-itself (connector.reaches c);
      attempts = refl;
      leads = may.aimed.leads;
      order = may.aimed.order;
      made = All-weaker (IsUnfinished connector trial live.recorder.underway.attempts) (λ (o : Unfinished C Conn Run). Contains live.recorder.underway.attempts o.attempt) (λ o u. u.made) live.unfinished.items may.kept.unfinished;
      untold = subst (λ (told : List (Ip × Outcome)). are_untold told live.unfinished.items ≡ true) (sym same) may.kept.untold;
      first = none-won;
    }

    aimed-to : (now : ℕ) (to : Sweep C Conn Run) → ArePolled connector trial now (unpolled c race live.recorder.underway.attempts) live.unfinished.items to → Aiming connector trial c live.recorder.recorded live.recorder.underway.attempts may.kept.recorder.rests.made.in_turn to []
    aimed-to now to polled =
        aiming-all connector trial c live.recorder.recorded live.recorder.underway.attempts may.kept.recorder.rests.made.in_turn (unpolled c race live.recorder.underway.attempts) to live.unfinished.items now aiming-begins polled

    pub winner-goes : (now : ℕ) (c' : C) (raced : Raced Conn) → EndsPolled connector trial (unpolled c race live.recorder.underway.attempts) live.unfinished.items now c' raced → WinnerGoes (connector.reaches c) raced
    winner-goes now c' raced e = by_first e.swept.first refl
      where
        a : Aiming connector trial c live.recorder.recorded live.recorder.underway.attempts may.kept.recorder.rests.made.in_turn e.swept []
        a = aimed-to now e.swept e.polled

        by_first : (first : Option Conn) → e.swept.first ≡ first → WinnerGoes (connector.reaches c) raced
        by_first None is = subst (λ (x : Option Conn). IfSome x (GoesAt (connector.reaches c) raced.transcript.lines raced.transcript.result)) (sym (e.winner ∙ is)) tt
        by_first (Some conn) is =
            let ends : EndsRace e.swept.recorded now live.recorder.underway.attempts true =
            subst (λ (xs : List Attempt). EndsRace e.swept.recorded now xs true) a.attempts (subst (λ (x : Option Conn). EndsRace e.swept.recorded now e.swept.attempts (is_some x)) is e.ended) in
            let won : FirstWon connector trial c e.swept.recorded live.recorder.underway.attempts conn [] =
            subst (λ (x : Option Conn). IsFirst connector trial c e.swept.recorded live.recorder.underway.attempts x []) is a.first in
            let t : IsTranscript e.swept.recorded raced.transcript = subst (λ (r : Race). IsTranscript r raced.transcript) e.recorded e.replays.transcript in
            subst (λ (x : Option Conn). IfSome x (GoesAt (connector.reaches c) raced.transcript.lines raced.transcript.result)) (sym (e.winner ∙ is))
            (winner-line c e.swept.recorded now live.recorder.underway.attempts ends conn won raced.transcript t)

    pub aims-on : (now tick : ℕ) (c' : C) (next : Live C Conn Run) → Goes connector trial (unpolled c race live.recorder.underway.attempts) live.unfinished.items now c' next tick → AimedOn c c' next
    aims-on now tick c' next g = by_start g.starts
      where
        a : Aiming connector trial c live.recorder.recorded live.recorder.underway.attempts may.kept.recorder.rests.made.in_turn g.swept []
        a = aimed-to now g.swept g.polled

        leads : All (Leads connector trial (connector.reaches c)) g.swept.pending
        leads = subst (λ (os : List (Unfinished C Conn Run)). All (Leads connector trial (connector.reaches c)) os) (append-nil g.swept.pending) a.leads

        order : AreInOrder g.swept.pending
        order = subst (λ (os : List (Unfinished C Conn Run)). AreInOrder os) (append-nil g.swept.pending) a.order

        held : All (λ (o : Unfinished C Conn Run). Contains g.swept.attempts o.attempt) g.swept.pending
        held = subst (λ (os : List (Unfinished C Conn Run)). All (λ (o : Unfinished C Conn Run). Contains g.swept.attempts o.attempt) os) (append-nil g.swept.pending)
            (subst (λ (xs : List Attempt). All (λ (o : Unfinished C Conn Run). Contains xs o.attempt) (g.swept.pending ++ [])) (sym a.attempts) a.made)

        finish : (still : ReachAlike (connector.reaches c) (connector.reaches c')) → All (Leads connector trial (connector.reaches c)) next.unfinished.items → AreInOrder next.unfinished.items → AimedOn c c' next
        finish still all in_order = record {
          aimed = record { leads = all-lead-as connector trial (connector.reaches c) (connector.reaches c') next.unfinished.items still all; order = in_order };
          still = still;
        }

        begins : BeginsNext connector trial g.swept.connector now g.swept.attempts next.recorder.underway.attempts g.swept.pending c' next.unfinished.items → AimedOn c c' next
        begins n =
            let led : Led connector trial g.swept.connector c' n.x.ip Pending n.o.future = leads-poll connector trial g.swept.connector c' (Sleeping n.x.place n.x.ip n.x.tick) n.o.future n.x.tick Pending n.x.ip refl n.begins.polls in
            let turn : AreNextInTurn next.recorder.recorded (g.swept.attempts ++ n.x ∷ []) = subst (AreNextInTurn next.recorder.recorded) n.more g.kept.recorder.rests.made.in_turn in
            let last : IsNext next.recorder.recorded g.swept.attempts n.x = subst (λ (ys : List Attempt). IsNext next.recorder.recorded ys n.x) (take_all_of g.swept.attempts n.x) (turn (length g.swept.attempts) n.x (get_last g.swept.attempts n.x)) in
            let later : All (λ (o : Unfinished C Conn Run). o.attempt.place < n.o.attempt.place) g.swept.pending =
            All-weaker (λ (o : Unfinished C Conn Run). Contains g.swept.attempts o.attempt) (λ (o : Unfinished C Conn Run). o.attempt.place < n.o.attempt.place)
            (λ o at.
            let below : o.attempt.place < length g.swept.attempts = swept-below o.attempt at in
            let same : n.o.attempt.place ≡ n.x.place = ap (λ (x : Attempt). x.place) n.begins.attempt in
            omega (arith, last.place)) g.swept.pending held in
            let own : Leads connector trial (connector.reaches g.swept.connector) n.o = subst (λ (x : Attempt). LeadsTo connector trial (connector.reaches g.swept.connector) x.ip n.o.future) (sym n.begins.attempt) led.after in
            finish (alike-on (connector.reaches c) (connector.reaches g.swept.connector) (connector.reaches c') a.still led.still)
            (subst (λ (xs : List (Unfinished C Conn Run)). All (Leads connector trial (connector.reaches c)) xs) (sym n.next) (All-append (Leads connector trial (connector.reaches c)) g.swept.pending (n.o ∷ []) leads
            (all-lead-as connector trial (connector.reaches g.swept.connector) (connector.reaches c) (n.o ∷ []) (λ ip. ((a.still ip).1, (a.still ip).0)) (All-cons (Leads connector trial (connector.reaches g.swept.connector)) n.o [] own (All-nil (Leads connector trial (connector.reaches g.swept.connector)))))))
            (subst (λ (xs : List (Unfinished C Conn Run)). AreInOrder xs) (sym n.next) (order-more connector trial g.swept.pending n.o order later))
          where
            swept-below : (x : Attempt) → Contains g.swept.attempts x → x.place < length g.swept.attempts
            swept-below x at =
                subst (λ (ys : List Attempt). x.place < length ys) (sym a.attempts) (places-below live.recorder.recorded live.recorder.underway.attempts may.kept.recorder.rests.made.in_turn x (subst (λ (ys : List Attempt). Contains ys x) a.attempts at))

        by_start : StartsOne connector trial g.swept.connector now g.swept.attempts next.recorder.underway.attempts g.swept.pending c' next.unfinished.items → AimedOn c c' next
        by_start (inl s) =
            finish (subst (λ (x : C). ReachAlike (connector.reaches c) (connector.reaches x)) (sym s.still) a.still)
            (subst (λ (os : List (Unfinished C Conn Run)). All (Leads connector trial (connector.reaches c)) os) (sym s.same) leads)
            (subst (λ (os : List (Unfinished C Conn Run)). AreInOrder os) (sym s.same) order)
        by_start (inr n) = begins n

  -- the end of a turn, and a turn that goes on
  turned-winner : (c c' : C) (live : Live C Conn Run) (now : ℕ) (raced : Raced Conn) → MayPoll connector trial c live → Turned connector trial c live now c' (after_polls.Ended raced) → WinnerGoes (connector.reaches c) raced
  turned-winner c c' live now raced may (inl e) = late-winner (connector.reaches c) raced e.winner
  turned-winner c c' live now raced may (inr e) = winner-goes c live may (slept live.recorder.recorded live.recorder.due now) (slept-outcomes live.recorder.recorded live.recorder.due now) now c' raced e

  unturned : (c c' : C) (live next : Live C Conn Run) → MayPoll connector trial c live → c' ≡ c → next ≡ live → AimedOn c c' next
  unturned c c' live next may e f =
      let here : AimedOn c c live = record { aimed = may.aimed; still = alike-itself (connector.reaches c) } in
      subst (λ (x : C). AimedOn c x next) (sym e) (subst (AimedOn c c) (sym f) here)

  same-next : (next live : Live C Conn Run) (tick n : ℕ) → after_polls.Waits next tick ≡ after_polls.Waits live n → next ≡ live
  same-next next live tick n e = cc

  polled-winner : (turn : Option ℕ) (c c' : C) (live : Live C Conn Run) (at : ℕ) (raced : Raced Conn) → MayPoll connector trial c live → PolledFrom connector trial turn c live at c' (after_polls.Ended raced) → WinnerGoes (connector.reaches c) raced
  polled-winner None c c' live at raced may h = turned-winner c c' live at raced may h
  polled-winner (Some turn) c c' live at raced may h = by_test (nat_le at turn) h
    where
      by_test : (b : Bool) → MatchBool b ((c' ≡ c) × (after_polls.Ended raced ≡ after_polls.Waits live (turn + 1))) (Turned connector trial c live at c' (after_polls.Ended raced)) → WinnerGoes (connector.reaches c) raced
      by_test true h = cc (h.1)
      by_test false h = turned-winner c c' live at raced may h

  pub polled-winner-goes : (c c' : C) (live : Live C Conn Run) (now : ℕ) (raced : Raced Conn) → MayPoll connector trial c live → PolledAt connector trial c live now c' (after_polls.Ended raced) → WinnerGoes (connector.reaches c) raced
  polled-winner-goes c c' live now raced may h = polled-winner live.recorder.turn c c' live (min now (live.recorder.recorded.settings.limit + 1)) raced may h

  polled-aims : (turn : Option ℕ) (c c' : C) (live next : Live C Conn Run) (at tick : ℕ) → MayPoll connector trial c live → PolledFrom connector trial turn c live at c' (after_polls.Waits next tick) → AimedOn c c' next
  polled-aims None c c' live next at tick may h = aims-on c live may (slept live.recorder.recorded live.recorder.due at) (slept-outcomes live.recorder.recorded live.recorder.due at) at tick c' next h
  polled-aims (Some turn) c c' live next at tick may h = by_test (nat_le at turn) h
    where
      by_test : (b : Bool) → MatchBool b ((c' ≡ c) × (after_polls.Waits next tick ≡ after_polls.Waits live (turn + 1))) (Turned connector trial c live at c' (after_polls.Waits next tick)) → AimedOn c c' next
      by_test true h = unturned c c' live next may h.0 (same-next next live tick (turn + 1) h.1)
      by_test false h = aims-on c live may (slept live.recorder.recorded live.recorder.due at) (slept-outcomes live.recorder.recorded live.recorder.due at) at tick c' next h

  pub polled-aims-on : (c c' : C) (live next : Live C Conn Run) (now tick : ℕ) → MayPoll connector trial c live → PolledAt connector trial c live now c' (after_polls.Waits next tick) → AimedOn c c' next
  polled-aims-on c c' live next now tick may h = polled-aims live.recorder.turn c c' live next (min now (live.recorder.recorded.settings.limit + 1)) tick may h

  -- a race before its first poll
  pub new-may : (c : C) (live : Live C Conn Run) → IsLive connector trial live → live.unfinished.items ≡ [] → MayPoll connector trial c live
  new-may c live kept none = record {
    kept = kept;
    aimed = record {
      leads = subst (λ (os : List (Unfinished C Conn Run)). All (Leads connector trial (connector.reaches c)) os) (sym none) (All-nil (Leads connector trial (connector.reaches c)));
      order = subst (λ (os : List (Unfinished C Conn Run)). AreInOrder os) (sym none) tt;
    };
  }

  pub kept-of : (c : C) (x : Option (Live C Conn Run)) → IfSome x (MayPoll connector trial c) → IfSome x (IsLive connector trial)
  kept-of c None h = tt
  kept-of c (Some live) h = h.kept

module _ {S C Conn Run : Type 0} (hears : Tells S) (connector : ConnectorOf C Conn Run) (trial : TrialOf Run Conn) where
  heard-outcomes : (s s' : S) (live : Live C Conn Run) (now : ℕ) (race : Race) → Hears hears s (slept live.recorder.recorded live.recorder.due now) now s' race → race.outcomes ≡ live.recorder.recorded.outcomes
  heard-outcomes s s' live now race h =
      (heard-same hears s s' (slept live.recorder.recorded live.recorder.due now) race now h).outcomes ∙ slept-outcomes live.recorder.recorded live.recorder.due now

  heard-turn-winner : (s s' : S) (c c' : C) (live : Live C Conn Run) (now : ℕ) (raced : Raced Conn) → MayPoll connector trial c live → HeardTurn hears connector trial s c live now s' c' (after_polls.Ended raced) → WinnerGoes (connector.reaches c) raced
  heard-turn-winner s s' c c' live now raced may (inl e) = late-winner (connector.reaches c) raced e.1.winner
  heard-turn-winner s s' c c' live now raced may (inr e) = winner-goes connector trial c live may e.race (heard-outcomes s s' live now e.race e.heard) now c' raced e.turns

  heard-turn-aims : (s s' : S) (c c' : C) (live next : Live C Conn Run) (now tick : ℕ) → MayPoll connector trial c live → HeardTurn hears connector trial s c live now s' c' (after_polls.Waits next tick) → AimedOn connector trial c c' next
  heard-turn-aims s s' c c' live next now tick may (inl e) = absurd e
  heard-turn-aims s s' c c' live next now tick may (inr e) = aims-on connector trial c live may e.race (heard-outcomes s s' live now e.race e.heard) now tick c' next e.turns

  heard-winner : (turn : Option ℕ) (s s' : S) (c c' : C) (live : Live C Conn Run) (at : ℕ) (raced : Raced Conn) → MayPoll connector trial c live → HeardFrom hears connector trial turn s c live at s' c' (after_polls.Ended raced) → WinnerGoes (connector.reaches c) raced
  heard-winner None s s' c c' live at raced may h = heard-turn-winner s s' c c' live at raced may h
  heard-winner (Some turn) s s' c c' live at raced may h = by_test (nat_le at turn) h
    where
      by_test : (b : Bool) → MatchBool b ((s' ≡ s) × (c' ≡ c) × (after_polls.Ended raced ≡ after_polls.Waits live (turn + 1))) (HeardTurn hears connector trial s c live at s' c' (after_polls.Ended raced)) → WinnerGoes (connector.reaches c) raced
      by_test true h = cc (h.2)
      by_test false h = heard-turn-winner s s' c c' live at raced may h

  pub heard-winner-goes : (s s' : S) (c c' : C) (live : Live C Conn Run) (now : ℕ) (raced : Raced Conn) → MayPoll connector trial c live → HeardAt hears connector trial s c live now s' c' (after_polls.Ended raced) → WinnerGoes (connector.reaches c) raced
  heard-winner-goes s s' c c' live now raced may h = heard-winner live.recorder.turn s s' c c' live (min now (live.recorder.recorded.settings.limit + 1)) raced may h

  heard-aims : (turn : Option ℕ) (s s' : S) (c c' : C) (live next : Live C Conn Run) (at tick : ℕ) → MayPoll connector trial c live → HeardFrom hears connector trial turn s c live at s' c' (after_polls.Waits next tick) → AimedOn connector trial c c' next
  heard-aims None s s' c c' live next at tick may h = heard-turn-aims s s' c c' live next at tick may h
  heard-aims (Some turn) s s' c c' live next at tick may h = by_test (nat_le at turn) h
    where
      by_test : (b : Bool) → MatchBool b ((s' ≡ s) × (c' ≡ c) × (after_polls.Waits next tick ≡ after_polls.Waits live (turn + 1))) (HeardTurn hears connector trial s c live at s' c' (after_polls.Waits next tick)) → AimedOn connector trial c c' next
      by_test true h = unturned connector trial c c' live next may h.1 (same-next connector trial next live tick (turn + 1) h.2)
      by_test false h = heard-turn-aims s s' c c' live next at tick may h

  pub heard-aims-on : (s s' : S) (c c' : C) (live next : Live C Conn Run) (now tick : ℕ) → MayPoll connector trial c live → HeardAt hears connector trial s c live now s' c' (after_polls.Waits next tick) → AimedOn connector trial c c' next
  heard-aims-on s s' c c' live next now tick may h = heard-aims live.recorder.turn s s' c c' live next (min now (live.recorder.recorded.settings.limit + 1)) tick may h

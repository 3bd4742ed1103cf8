-- What a turn is of which each unfinished attempt was polled once, and what the race asks for after it.
use Rattle.std.proofs.Common.{◌≡◌, ℕ, zero, suc, ◌+◌, ◌≤◌, ◌<◌, ◌++◌, true, false, List, [], ◌∷◌, length, take, drop, Option, Some, None, Result, IfOk, Ok, Err, is_some, refl, sym, ◌∙◌, ap, subst, arith, inl, inr, min}
use Rattle.std.specs.List.{remove, slice_get, slice_set}
use Rattle.std.proofs.Math.Seq.{take-length}
use Rattle.std.proofs.Math.ListN.{drop_of_length-le}
use Rattle.futures.specs.declared.task.Poll.{Poll}
use Rattle.futures.specs.declared.task.Poll.TheVariants.{Ready, Pending}
use Rattle.he_plan.specs.declared.attempts.Attempt.{Attempt}
use Rattle.he_plan.specs.Agreement.{AreAlike}
use Rattle.he_plan.specs.Due.{IsAfterTurn}
use Rattle.he_timeline.specs.Race.{Race}
use Rattle.he_timeline.proofs.Bools.{le_test, not_le}
use Rattle.he_turns.specs.declared.attempt.Finish.{Finish}
use Rattle.he_turns.specs.declared.connector.Connector.{Ghosts as ConnectorOf}
use Rattle.he_turns.specs.declared.recorder.Recorder.{Recorder}
use Rattle.he_turns.specs.declared.faults.AttemptFault.{AttemptFault}
use Rattle.he_turns.specs.declared.limits.TheConstants.{MAX_POLL_TICK}
use Rattle.he_turns.specs.declared.live.Live.{Live}
use Rattle.he_turns.specs.declared.live.AfterPoll.{AfterPoll}
use Rattle.he_turns.specs.declared.live.AfterPoll.TheVariants as after_polls
use Rattle.he_turns.specs.declared.live.Unfinished.{Unfinished}
use Rattle.he_turns.specs.declared.trial.Trial.{Ghosts as TrialOf}
use Rattle.he_turns.specs.Answered.{earliest}
use Rattle.he_turns.specs.Attempt.{AttemptPolls, due_of}
use Rattle.he_turns.specs.Kept.{MakesOne, first_after, IsLive}
use Rattle.he_turns.specs.Recording.{EndsRace, slept}
use Rattle.he_turns.specs.Polling.{AsksInTime, BeginsFrom, BeginsOne, EndsWith, GoesOn, LeftBy, PollsAt, TurnsFrom}
use Rattle.he_turns.specs.Heard.{Hears, Tells}
use Rattle.he_turns.specs.Resolving.{HeardAt, HeardFrom, HeardTurn, HearsAndTurns}
use Rattle.he_turns.specs.Turns.{ArePolled, BeginsAt, Replays, StartsOne, Sweep, asked_tick, first_of, is_over, told, unpolled}
use Rattle.he_turns.proofs.Turning.{alike-later, drop-set, take-set}

-- an element that stands at i is the first of those from i on
from-at : {X : Type 0} (xs : List X) (i : ℕ) (x : X) → slice_get xs i ≡ Some x → drop i xs ≡ x ∷ drop (suc i) xs
from-at [] i x e = cc
from-at (y ∷ xs) zero x e = let same : y ≡ x = cc in ap (λ z. z ∷ xs) same
from-at (y ∷ xs) (suc i) x e = from-at xs i x e

pub one-more : (i : ℕ) → i + 1 ≡ suc i
one-more i = omega arith

-- with the one at i set, one more is taken
pub take-one : {X : Type 0} (xs : List X) (i : ℕ) (a : X) → i < length xs → take (suc i) (slice_set xs i a) ≡ take i xs ++ a ∷ []
take-one [] i a lt = absurd (let no : ⊥ = omega arith in no)
take-one (x ∷ xs) zero a lt = refl
take-one (x ∷ xs) (suc i) a lt = ap (λ ys. x ∷ ys) (take-one xs i a (omega arith))

take-joined : {X : Type 0} (xs ys : List X) (i : ℕ) → i ≤ length xs → take i (take i xs ++ ys) ≡ take i xs
take-joined xs ys zero le = refl
take-joined [] ys (suc i) le = absurd (let no : ⊥ = omega arith in no)
take-joined (x ∷ xs) ys (suc i) le = ap (λ zs. x ∷ zs) (take-joined xs ys i (omega arith))

drop-joined : {X : Type 0} (xs ys : List X) (i : ℕ) → i ≤ length xs → drop i (take i xs ++ ys) ≡ ys
drop-joined xs ys zero le = refl
drop-joined [] ys (suc i) le = absurd (let no : ⊥ = omega arith in no)
drop-joined (x ∷ xs) ys (suc i) le = drop-joined xs ys i (omega arith)

-- where the one at i is set and then removed, those before it and those after it are left
pub take-removed : {X : Type 0} (xs : List X) (i : ℕ) (a : X) → i < length xs → take i (remove (slice_set xs i a) i) ≡ take i xs
take-removed xs i a lt = rw (take-set xs i a, drop-set xs i a) (take-joined xs (drop (suc i) xs) i (omega arith))

drop-removed : {X : Type 0} (xs : List X) (i : ℕ) (a : X) → i < length xs → drop i (remove (slice_set xs i a) i) ≡ drop (suc i) xs
drop-removed xs i a lt = rw (take-set xs i a, drop-set xs i a) (drop-joined xs (drop (suc i) xs) i (omega arith))

module _ {C Conn Run : Type 0} (connector : ConnectorOf C Conn Run) (trial : TrialOf Run Conn) where
  -- those before i were polled; where the polls of the others end, so do the polls of all
  pub record Sweeping (from : Sweep C Conn Run) (os : List (Unfinished C Conn Run)) (now : ℕ) (c : C) (race : Race) (made : List Attempt) (xs : List (Unfinished C Conn Run)) (i : ℕ) (first : Option Conn) : Type 0 where
    pub rest : (to : Sweep C Conn Run) → ArePolled connector trial now (record { connector = c; recorded = race; attempts = made; pending = take i xs; first = first }) (drop i xs) to → ArePolled connector trial now from os to

  pub sweeping-none : (c : C) (race : Race) (made : List Attempt) (os : List (Unfinished C Conn Run)) (now : ℕ) → Sweeping (unpolled c race made) os now c race made os 0 None
  sweeping-none c race made os now = record { rest = λ to h. h }

  -- polls that begin at the same state, of the same attempts
  same-polls : (now : ℕ) (s t to : Sweep C Conn Run) (xs ys : List (Unfinished C Conn Run)) → s ≡ t → xs ≡ ys → ArePolled connector trial now s xs to → ArePolled connector trial now t ys to
  same-polls now s t to xs ys e f h = subst (λ (z : Sweep C Conn Run). ArePolled connector trial now z ys to) e (subst (λ (zs : List (Unfinished C Conn Run)). ArePolled connector trial now s zs to) f h)

  -- a sweep by its parts
  abbrev swept_by : C → Race → List Attempt → List (Unfinished C Conn Run) → Option Conn → Sweep C Conn Run
  swept_by c race made xs first = record { connector = c; recorded = race; attempts = made; pending = xs; first = first }

  pub sweeping-pending : (from : Sweep C Conn Run) (os : List (Unfinished C Conn Run)) (now : ℕ) (c c' : C) (old new : Live C Conn Run) (i : ℕ) (first : Option Conn) (answer : Option (Result Conn AttemptFault)) → Sweeping from os now c old.recorder.recorded old.recorder.underway.attempts old.unfinished.items i first → i < length old.unfinished.items → answer ≡ None → PollsAt connector trial c old i now answer c' new → Sweeping from os now c' new.recorder.recorded new.recorder.underway.attempts new.unfinished.items (i + 1) first
  sweeping-pending from os now c c' old new i first answer s lt e p = by_poll p.polled p.polls p.left
    where
      by_poll : (polled : Poll (Finish Conn)) → AttemptPolls connector trial c p.o.future now polled c' p.future → LeftBy connector trial old i now p.o polled p.future answer new → Sweeping from os now c' new.recorder.recorded new.recorder.underway.attempts new.unfinished.items (i + 1) first
      by_poll (Ready f) polls left = cc (e, left.0)
      by_poll Pending polls left = record {
        rest = λ to h.
            let pending : take (i + 1) new.unfinished.items ≡ take i old.unfinished.items ++ record p.o { future = p.future } ∷ [] = ap (λ (k : ℕ). take k new.unfinished.items) (one-more i) ∙ ap (take (suc i)) left.2 ∙ take-one old.unfinished.items i (record p.o { future = p.future }) lt in
            let others : drop (i + 1) new.unfinished.items ≡ drop (suc i) old.unfinished.items = ap (λ (k : ℕ). drop k new.unfinished.items) (one-more i) ∙ ap (drop (suc i)) left.2 ∙ drop-set old.unfinished.items i (record p.o { future = p.future }) in
            let recorded : new.recorder.recorded ≡ old.recorder.recorded = ap (λ (x : Recorder). x.recorded) left.1 in
            let made : new.recorder.underway.attempts ≡ old.recorder.underway.attempts = ap (λ (x : Recorder). x.underway.attempts) left.1 in
            let state : record { connector = c'; recorded = new.recorder.recorded; attempts = new.recorder.underway.attempts; pending = take (i + 1) new.unfinished.items; first = first } ≡ record { connector = c'; recorded = old.recorder.recorded; attempts = old.recorder.underway.attempts; pending = take i old.unfinished.items ++ record p.o { future = p.future } ∷ []; first = first } = cc (pending, recorded, made) in
            let more = same-polls now _ _ to _ _ state others h in
            s.rest to (subst (λ (zs : List (Unfinished C Conn Run)). ArePolled connector trial now (record { connector = c; recorded = old.recorder.recorded; attempts = old.recorder.underway.attempts; pending = take i old.unfinished.items; first = first }) zs to) (sym (from-at old.unfinished.items i p.o p.at)) (Pending, c', p.future, polls, more));
      }

  pub sweeping-ready : (from : Sweep C Conn Run) (os : List (Unfinished C Conn Run)) (now : ℕ) (c c' : C) (old new : Live C Conn Run) (i : ℕ) (first more : Option Conn) (answer : Option (Result Conn AttemptFault)) (a : Result Conn AttemptFault) → Sweeping from os now c old.recorder.recorded old.recorder.underway.attempts old.unfinished.items i first → i < length old.unfinished.items → answer ≡ Some a → more ≡ first_of first a → PollsAt connector trial c old i now answer c' new → Sweeping from os now c' new.recorder.recorded new.recorder.underway.attempts new.unfinished.items i more
  sweeping-ready from os now c c' old new i first more answer a s lt e m p = by_poll p.polled p.polls p.left
    where
      by_poll : (polled : Poll (Finish Conn)) → AttemptPolls connector trial c p.o.future now polled c' p.future → LeftBy connector trial old i now p.o polled p.future answer new → Sweeping from os now c' new.recorder.recorded new.recorder.underway.attempts new.unfinished.items i more
      by_poll Pending polls left = cc (e, left.0)
      by_poll (Ready f) polls left = record {
        rest = λ to h.
            let same : f.result ≡ a = cc (e, left.0) in
            let pending : take i new.unfinished.items ≡ take i old.unfinished.items = ap (take i) left.3 ∙ take-removed old.unfinished.items i (record p.o { future = p.future }) lt in
            let others : drop i new.unfinished.items ≡ drop (suc i) old.unfinished.items = ap (drop i) left.3 ∙ drop-removed old.unfinished.items i (record p.o { future = p.future }) lt in
            let won : more ≡ first_of first f.result = m ∙ ap (first_of first) (sym same) in
            let state : record { connector = c'; recorded = new.recorder.recorded; attempts = new.recorder.underway.attempts; pending = take i new.unfinished.items; first = more } ≡ record { connector = c'; recorded = told old.recorder.recorded p.o.attempt now f.result; attempts = old.recorder.underway.attempts; pending = take i old.unfinished.items; first = first_of first f.result } = cc (pending, left.1, left.2, won) in
            let rest = same-polls now _ _ to _ _ state others h in
            s.rest to (subst (λ (zs : List (Unfinished C Conn Run)). ArePolled connector trial now (record { connector = c; recorded = old.recorder.recorded; attempts = old.recorder.underway.attempts; pending = take i old.unfinished.items; first = first }) zs to) (sym (from-at old.unfinished.items i p.o p.at)) (Ready f, c', p.future, polls, rest));
      }

  pub sweeping-over : (from : Sweep C Conn Run) (os : List (Unfinished C Conn Run)) (now : ℕ) (c : C) (race : Race) (made : List Attempt) (xs : List (Unfinished C Conn Run)) (i : ℕ) (first : Option Conn) → Sweeping from os now c race made xs i first → i ≡ length xs → ArePolled connector trial now from os (record { connector = c; recorded = race; attempts = made; pending = xs; first = first })
  sweeping-over from os now c race made xs i first s e =
      let pending : take i xs ≡ xs = ap (λ k. take k xs) e ∙ take-length xs in
      let none : drop i xs ≡ [] = drop_of_length-le xs (omega (arith, e)) in
      let to : Sweep C Conn Run = record { connector = c; recorded = race; attempts = made; pending = xs; first = first } in
      s.rest to (subst (λ (zs : List (Unfinished C Conn Run)). ArePolled connector trial now (record { connector = c; recorded = race; attempts = made; pending = take i xs; first = first }) zs to) (sym none) (ap (λ (ys : List (Unfinished C Conn Run)). swept_by c race made ys first) (sym pending)))

  get-past : (xs : List Attempt) → slice_get xs (length xs) ≡ None
  get-past [] = refl
  get-past (x ∷ xs) = get-past xs

  get-last : (xs : List Attempt) (x : Attempt) → slice_get (xs ++ x ∷ []) (length xs) ≡ Some x
  get-last [] x = refl
  get-last (y ∷ xs) x = get-last xs x

  -- an attempt that was made is the one that begins
  pub starts-one : (race : Race) (now : ℕ) (c c' : C) (xs all : List Attempt) (os new : List (Unfinished C Conn Run)) → MakesOne race xs all now → BeginsFrom connector trial c all (length xs) os c' new → StartsOne connector trial c now xs all os c' new
  starts-one race now c c' xs all os new (inl same) h =
      let none : slice_get all (length xs) ≡ None = ap (λ (ys : List Attempt). slice_get ys (length xs)) same ∙ get-past xs in
      let k : (c' ≡ c) × (new ≡ os) = subst (λ (x : Option Attempt). BeginsOne connector trial c x os c' new) none h in
      inl (record { none = same; still = k.0; same = k.1 })
  starts-one race now c c' xs all os new (inr p) h =
      let some : slice_get all (length xs) ≡ Some p.next = ap (λ (ys : List Attempt). slice_get ys (length xs)) p.more ∙ get-last xs p.next in
      let k : (o : Unfinished C Conn Run) × BeginsAt connector trial c p.next c' o × (new ≡ os ++ o ∷ []) = subst (λ (x : Option Attempt). BeginsOne connector trial c x os c' new) some h in
      inr (record { x = p.next; o = k.0; more = p.more; at = p.at; begins = k.1; next = k.2 })

  pub asked-early : (due : ℕ) (os : List (Unfinished C Conn Run)) → asked_tick connector trial due os ≤ due
  asked-early due [] = omega arith
  asked-early due (o ∷ os) =
      let least : asked_tick connector trial (earliest due (due_of connector trial o.future)) os ≤ earliest due (due_of connector trial o.future) = asked-early (earliest due (due_of connector trial o.future)) os in
      let lower : earliest due (due_of connector trial o.future) ≤ due = lower_than (due_of connector trial o.future) in
      omega (arith, least, lower)
    where
      lower_than : (x : Option ℕ) → earliest due x ≤ due
      lower_than None = omega arith
      lower_than (Some tick) = omega arith

  -- the tick that is asked for is at most the limit
  pub asked-by : (live : Live C Conn Run) → IsLive connector trial live → asked_tick connector trial live.recorder.due live.unfinished.items ≤ MAX_POLL_TICK
  asked-by live h =
      let early : live.recorder.due ≤ live.recorder.recorded.settings.limit = h.recorder.due.least live.recorder.recorded.settings.limit (inr (inr (inr (inr refl)))) in
      omega (arith, early, asked-early live.recorder.due live.unfinished.items, h.recorder.rests.valid.settings.limit_most)

  -- a turn that ends the race
  pub ended-swept : {E : Type 0} (from : Sweep C Conn Run) (os : List (Unfinished C Conn Run)) (now : ℕ) (to : Sweep C Conn Run) (r : Result (AfterPoll C Conn Run) E) → ArePolled connector trial now from os to → is_over to.recorded to.attempts now to.pending (is_some to.first) ≡ true → EndsRace to.recorded now to.attempts (is_some to.first) → AreAlike from.recorded to.recorded → to.recorded.pauses ≡ from.recorded.pauses → IfOk r (EndsWith to.recorded to.first) → IfOk r (TurnsFrom connector trial from os now to.connector)
  ended-swept from os now to (Err e) polled over ended alike pauses h = tt
  ended-swept from os now to (Ok (after_polls.Waits new tick)) polled over ended alike pauses h = absurd h
  ended-swept from os now to (Ok (after_polls.Ended raced)) polled over ended alike pauses h = record {
    swept = to;
    polled = polled;
    over = over;
    ended = ended;
    still = refl;
    recorded = h.1;
    winner = h.2;
    replays = record {
      alike = alike-later from.recorded to.recorded raced.recorded alike h.0.alike;
      transcript = h.0.transcript;
      winner = h.0.winner;
    };
    pauses = ap (λ (race : Race). race.pauses) h.1 ∙ pauses;
  }

  -- a turn that goes on
  pub gone-on : {E : Type 0} (from : Sweep C Conn Run) (os : List (Unfinished C Conn Run)) (now : ℕ) (c c' : C) (first : Option Conn) (old : Live C Conn Run) (r : Result (AfterPoll C Conn Run) E) → ArePolled connector trial now from os (record { connector = c; recorded = old.recorder.recorded; attempts = old.recorder.underway.attempts; pending = old.unfinished.items; first = first }) → is_over old.recorder.recorded old.recorder.underway.attempts now old.unfinished.items (is_some first) ≡ false → AreAlike from.recorded old.recorder.recorded → old.recorder.recorded.pauses ≡ from.recorded.pauses → IfOk r (GoesOn connector trial c old now c') → IfOk r (TurnsFrom connector trial from os now c')
  gone-on from os now c c' first old (Err e) polled going alike pauses h = tt
  gone-on from os now c c' first old (Ok (after_polls.Ended raced)) polled going alike pauses h = absurd h
  gone-on from os now c c' first old (Ok (after_polls.Waits new tick)) polled going alike pauses h = record {
    swept = record { connector = c; recorded = old.recorder.recorded; attempts = old.recorder.underway.attempts; pending = old.unfinished.items; first = first };
    polled = polled;
    going = going;
    recorded = h.recorded;
    starts = h.starts;
    kept = h.kept;
    alike = subst (AreAlike from.recorded) (sym h.recorded) alike;
    pauses = ap (λ (race : Race). race.pauses) h.recorded ∙ pauses;
    turn = h.turn;
    asked = h.asked;
  }

  pub again-in_time : (live : Live C Conn Run) (turn : ℕ) → IsLive connector trial live → live.recorder.turn ≡ Some turn → turn + 1 ≤ MAX_POLL_TICK
  again-in_time live turn h was =
      let after = subst (λ (x : Option ℕ). IsAfterTurn live.recorder.recorded x live.recorder.underway.attempts) was h.recorder.rests.after in
      omega (arith, after.1, h.recorder.rests.valid.settings.limit_most)

module _ {S C Conn Run : Type 0} (hears : Tells S) (connector : ConnectorOf C Conn Run) (trial : TrialOf Run Conn) where
  -- a turn of a race to which answers came
  pub heard-run : {E : Type 0} (s s' : S) (c c' : C) (race heard : Race) (xs all : List Attempt) (os : List (Unfinished C Conn Run)) (now : ℕ) (r : Result (AfterPoll C Conn Run) E) → Hears hears s race now s' heard → all ≡ xs → IfOk r (TurnsFrom connector trial (unpolled c heard all) os now c') → IfOk r (HearsAndTurns hears connector trial s (unpolled c race xs) os now s' c')
  heard-run s s' c c' race heard xs all os now (Err e) h same t = tt
  heard-run s s' c c' race heard xs all os now (Ok step) h same t = record {
    race = heard;
    heard = h;
    turns = subst (λ (ys : List Attempt). TurnsFrom connector trial (unpolled c heard ys) os now c' step) same t;
  }

  -- the recorder once what was slept is recorded
  abbrev pub slept_from : Live C Conn Run → ℕ → Recorder
  slept_from live now = record live.recorder { recorded = slept live.recorder.recorded live.recorder.due now }

  -- a turn past the limit
  pub turned-late : {E : Type 0} (s : S) (c : C) (live : Live C Conn Run) (now : ℕ) (recorder : Recorder) (r : Result (AfterPoll C Conn Run) E) → recorder ≡ slept_from live now → recorder.recorded.settings.limit < now → EndsRace recorder.recorded recorder.recorded.settings.limit recorder.underway.attempts false → IfOk r (EndsWith recorder.recorded None) → IfOk r (HeardTurn hears connector trial s c live now s c)
  turned-late s c live now recorder (Err e) same late ended h = tt
  turned-late s c live now recorder (Ok (after_polls.Waits new tick)) same late ended h = absurd h
  turned-late s c live now recorder (Ok (after_polls.Ended raced)) same late ended h =
      let recorded : recorder.recorded ≡ slept live.recorder.recorded live.recorder.due now = ap (λ (x : Recorder). x.recorded) same in
      inl (
        refl,
        record {
          late = subst (λ (race : Race). race.settings.limit < now) recorded late;
          ended = subst (λ (x : Recorder). EndsRace x.recorded x.recorded.settings.limit x.underway.attempts false) same ended;
          still = refl;
          recorded = h.1 ∙ recorded;
          winner = h.2;
          replays = subst (λ (race : Race). Replays race raced) recorded h.0;
        },
      )

  -- a turn at or before the limit
  pub turned-run : {E : Type 0} (s s' : S) (c c' : C) (live : Live C Conn Run) (now : ℕ) (recorder : Recorder) (r : Result (AfterPoll C Conn Run) E) → recorder ≡ slept_from live now → IfOk r (HearsAndTurns hears connector trial s (unpolled c recorder.recorded recorder.underway.attempts) live.unfinished.items now s' c') → IfOk r (HeardTurn hears connector trial s c live now s' c')
  turned-run s s' c c' live now recorder (Err e) same h = tt
  turned-run s s' c c' live now recorder (Ok step) same h =
      inr (subst (λ (x : Recorder). HearsAndTurns hears connector trial s (unpolled c x.recorded x.underway.attempts) live.unfinished.items now s' c' step) same h)

  -- a turn asks for a tick that may be asked for
  pub turn-in_time : {E : Type 0} (s s' : S) (c c' : C) (live : Live C Conn Run) (now : ℕ) (r : Result (AfterPoll C Conn Run) E) → IfOk r (HeardTurn hears connector trial s c live now s' c') → IfOk r AsksInTime
  turn-in_time s s' c c' live now (Err e) h = tt
  turn-in_time s s' c c' live now (Ok (after_polls.Ended raced)) h = tt
  turn-in_time s s' c c' live now (Ok (after_polls.Waits new tick)) (inl h) = absurd h
  turn-in_time s s' c c' live now (Ok (after_polls.Waits new tick)) (inr h) = let by : asked_tick connector trial new.recorder.due new.unfinished.items ≤ MAX_POLL_TICK = asked-by connector trial new h.turns.kept in omega (arith, by, h.turns.asked)

  -- a poll that takes a turn
  pub polled-turn : {E : Type 0} (s s' : S) (c c' : C) (live : Live C Conn Run) (now : ℕ) (at limit : ℕ) (r : Result (AfterPoll C Conn Run) E) → at ≡ min now (limit + 1) → limit ≡ live.recorder.recorded.settings.limit → first_after live.recorder.turn ≤ at → IfOk r (HeardTurn hears connector trial s c live at s' c') → IfOk r (HeardAt hears connector trial s c live now s' c')
  polled-turn s s' c c' live now at limit (Err e) same l later h = tt
  polled-turn s s' c c' live now at limit (Ok step) same l later h =
      subst (λ (n : ℕ). HeardFrom hears connector trial live.recorder.turn s c live n s' c' step) (same ∙ ap (λ (n : ℕ). min now (n + 1)) l) (by_turn live.recorder.turn later)
    where
      by_turn : (turn : Option ℕ) → first_after turn ≤ at → HeardFrom hears connector trial turn s c live at s' c' step
      by_turn None later = h
      by_turn (Some turn) later = rw (not_le at turn (omega (arith, later))) h

  -- a poll that takes none
  pub polled-again : (s : S) (c : C) (live : Live C Conn Run) (now at turn : ℕ) → at ≡ min now (live.recorder.recorded.settings.limit + 1) → live.recorder.turn ≡ Some turn → at ≤ turn → HeardAt hears connector trial s c live now s c (after_polls.Waits live (turn + 1))
  polled-again s c live now at turn same was early =
      subst (λ (n : ℕ). HeardFrom hears connector trial live.recorder.turn s c live n s c (after_polls.Waits live (turn + 1))) same (subst (λ (x : Option ℕ). HeardFrom hears connector trial x s c live at s c (after_polls.Waits live (turn + 1))) (sym was) (rw (le_test at turn early) (refl, refl, refl)))

-- What a race has registered while its attempts are polled, and after it.
use Rattle.std.proofs.Common.{◌≡◌, ℕ, suc, ◌+◌, ◌<◌, ◌∙◌, ◌++◌, List, [], ◌∷◌, length, take, Option, Some, None, Result, IfNone, IfOk, IfSome, OnOk, Ok, Err, Bool, MatchBool, is_some, true, refl, sym, ap, subst, arith, inl, inr, slice_get}
use Rattle.std.specs.List.{slice_set}
use Rattle.std.proofs.Math.Seq.{take-length}
use Rattle.std.proofs.lemmas.List.{get_or-set_same, length-set}
use Rattle.std.proofs.lemmas.List.Elements.{All-push, All-weaker}
use Rattle.std.proofs.lemmas.Option.{slice_get-get_or}
use Rattle.futures.specs.Task.{Covers, Keeps, Lasting}
use Rattle.futures.specs.declared.task.context.Context.{Context}
use Rattle.futures.specs.declared.task.Poll.{Poll}
use Rattle.futures.specs.declared.task.Poll.TheVariants.{Ready, Pending}
use Rattle.he_addr.specs.declared.ip.Family.{Family}
use Rattle.he_addr.specs.declared.ip.Family.TheVariants as families
use Rattle.he_addr.specs.declared.ip.Ip.{Ip}
use Rattle.he_plan.specs.declared.attempts.Attempt.{Attempt}
use Rattle.he_timeline.specs.Race.{Race, Reply, reply_of}
use Rattle.he_timeline.proofs.Bools.{not_lt}
use Rattle.he_turns.specs.declared.answers.AnswerSource.{Ghosts as SourceOf}
use Rattle.he_turns.specs.declared.attempt.AttemptFuture.{AttemptFuture}
use Rattle.he_turns.specs.declared.attempt.AttemptFuture.TheVariants.{Sleeping}
use Rattle.he_turns.specs.declared.attempt.Finish.{Finish}
use Rattle.he_turns.specs.declared.connector.Connector.{Ghosts as ConnectorOf}
use Rattle.he_turns.specs.declared.faults.AttemptFault.{AttemptFault}
use Rattle.he_turns.specs.declared.live.AfterPoll.{AfterPoll}
use Rattle.he_turns.specs.declared.live.AfterPoll.TheVariants as after_polls
use Rattle.he_turns.specs.declared.live.Live.{Live}
use Rattle.he_turns.specs.declared.live.Unfinished.{Unfinished}
use Rattle.he_turns.specs.declared.trial.Trial.{Ghosts as TrialOf}
use Rattle.he_turns.specs.Attempt.{Begins}
use Rattle.he_turns.specs.Heard.{AnswerLists, HearsFrom, HearsOf, IsSilent, with_heard, with_told}
use Rattle.he_turns.specs.Listening.{AllListen, HeardListens, Listens, ListensFor, RaceHears, RaceListens, SourceListens, TurnHears, TurnListens}
use Rattle.he_turns.specs.Polling.{AllListenAfter, EndsWith, GoesOn, HeardListensAfter, LeftBy, PollsAt, TurnHearsAfter, TurnListensAfter, TurnsFrom}
use Rattle.he_turns.specs.Recording.{slept}
use Rattle.he_turns.specs.Resolving.{HeardTurn}
use Rattle.he_turns.specs.Turns.{BeginsAt, unpolled}
use Rattle.he_turns.proofs.Sweeps.{one-more, take-one, take-removed}
use Rattle.he_turns.proofs.Waits.{fresh_waits}

pub set-at : {X : Type 0} (xs : List X) (i : ℕ) (a : X) → i < length xs → slice_get (slice_set xs i a) i ≡ Some a
set-at xs i a lt =
    slice_get-get_or (slice_set xs i a) i a (let e : length (slice_set xs i a) ≡ length xs = length-set xs i a in omega (arith, e)) ∙ ap Some (get_or-set_same xs i a a lt)

module _ {C Conn Run : Type 0} (connector : ConnectorOf C Conn Run) (trial : TrialOf Run Conn) where
  listens_kept : (old new : Context) (attempt : AttemptFuture C Conn Run) → Keeps old new → Listens connector trial old attempt → Listens connector trial new attempt
  listens_kept old new attempt keeps (inl covers) = inl (keeps Lasting.armed covers.0, λ s needs. keeps (Lasting.hears s) (covers.1 s needs))
  listens_kept old new attempt keeps (inr waits) = inr waits

  all_kept : (old new : Context) (os : List (Unfinished C Conn Run)) → Keeps old new → AllListen connector trial old os → AllListen connector trial new os
  all_kept old new os keeps h =
      All-weaker (λ (o : Unfinished C Conn Run). Listens connector trial old o.future) (λ (o : Unfinished C Conn Run). Listens connector trial new o.future) (λ o l. listens_kept old new o.future keeps l) os h

  pub listening-none : (cx : Context) (os : List (Unfinished C Conn Run)) → AllListen connector trial cx (take 0 os)
  listening-none cx os = λ k d lt. absurd (let no : ⊥ = omega arith in no)

  -- one more attempt was polled, and is pending
  pub listening-pending : (cx cx' : Context) (now : ℕ) (c c' : C) (old new : Live C Conn Run) (i : ℕ) (answer : Option (Result Conn AttemptFault)) → AllListen connector trial cx (take i old.unfinished.items) → Keeps cx cx' → i < length old.unfinished.items → answer ≡ None → PollsAt connector trial c old i now answer c' new → IfNone answer (IfSome (slice_get new.unfinished.items i) (λ o. Listens connector trial cx' o.future)) → AllListen connector trial cx' (take (i + 1) new.unfinished.items)
  listening-pending cx cx' now c c' old new i answer h keeps lt e p waits = by_poll p.polled p.left
    where
      by_poll : (polled : Poll (Finish Conn)) → LeftBy connector trial old i now p.o polled p.future answer new → AllListen connector trial cx' (take (i + 1) new.unfinished.items)
      by_poll (Ready f) left = cc (e, left.0)
      by_poll Pending left =
          let one : Unfinished C Conn Run = record p.o { future = p.future } in
          let taken : take (i + 1) new.unfinished.items ≡ take i old.unfinished.items ++ one ∷ [] = ap (λ (k : ℕ). take k new.unfinished.items) (one-more i) ∙ ap (take (suc i)) left.2 ∙ take-one old.unfinished.items i one lt in
          let at : slice_get new.unfinished.items i ≡ Some one = ap (λ (xs : List (Unfinished C Conn Run)). slice_get xs i) left.2 ∙ set-at old.unfinished.items i one lt in
          let some : IfSome (slice_get new.unfinished.items i) (λ o. Listens connector trial cx' o.future) = subst (λ (x : Option (Result Conn AttemptFault)). IfNone x (IfSome (slice_get new.unfinished.items i) (λ o. Listens connector trial cx' o.future))) e waits in
          let it : Listens connector trial cx' p.future = subst (λ (x : Option (Unfinished C Conn Run)). IfSome x (λ o. Listens connector trial cx' o.future)) at some in
          subst (AllListen connector trial cx') (sym taken) (All-push (λ (o : Unfinished C Conn Run). Listens connector trial cx' o.future) (take i old.unfinished.items) one (all_kept cx cx' (take i old.unfinished.items) keeps h) it)

  -- one more was polled, and has answered
  pub listening-ready : (cx cx' : Context) (now : ℕ) (c c' : C) (old new : Live C Conn Run) (i : ℕ) (answer : Option (Result Conn AttemptFault)) (a : Result Conn AttemptFault) → AllListen connector trial cx (take i old.unfinished.items) → Keeps cx cx' → i < length old.unfinished.items → answer ≡ Some a → PollsAt connector trial c old i now answer c' new → AllListen connector trial cx' (take i new.unfinished.items)
  listening-ready cx cx' now c c' old new i answer a h keeps lt e p = by_poll p.polled p.left
    where
      by_poll : (polled : Poll (Finish Conn)) → LeftBy connector trial old i now p.o polled p.future answer new → AllListen connector trial cx' (take i new.unfinished.items)
      by_poll Pending left = cc (e, left.0)
      by_poll (Ready f) left =
          let taken : take i new.unfinished.items ≡ take i old.unfinished.items = ap (take i) left.3 ∙ take-removed old.unfinished.items i (record p.o { future = p.future }) lt in
          subst (AllListen connector trial cx') (sym taken) (all_kept cx cx' (take i old.unfinished.items) keeps h)

  pub listening-all : (cx : Context) (os : List (Unfinished C Conn Run)) (i : ℕ) → i ≡ length os → AllListen connector trial cx (take i os) → AllListen connector trial cx os
  listening-all cx os i e h = subst (AllListen connector trial cx) (ap (λ k. take k os) e ∙ take-length os) h

  -- an attempt that begins waits for its first tick
  begun_listens : (cx : Context) (c c' : C) (x : Attempt) (o : Unfinished C Conn Run) → BeginsAt connector trial c x c' o → Listens connector trial cx o.future
  begun_listens cx c c' x o b =
      let P : Bool → Type 0 = λ t. MatchBool t ((c' ≡ c) × (o.future ≡ Sleeping x.place x.ip x.tick)) (Begins connector trial x.place x.ip c x.tick c' o.future) in
      let begins : Begins connector trial x.place x.ip c x.tick c' o.future = subst P (not_lt x.tick x.tick (omega arith)) b.polls.1 in
      subst (Listens connector trial cx) (sym begins.2) (inr (fresh_waits connector trial begins.0 (x.tick + 1)))

  -- a turn that goes on
  pub gone-listens : {E : Type 0} (cx cx' : Context) (now : ℕ) (c c' : C) (old : Live C Conn Run) (r : Result (AfterPoll C Conn Run) E) → AllListen connector trial cx old.unfinished.items → Keeps cx cx' → IfOk r (GoesOn connector trial c old now c') → IfOk r (AllListenAfter connector trial cx')
  gone-listens cx cx' now c c' old (Err e) h keeps on = tt
  gone-listens cx cx' now c c' old (Ok (after_polls.Ended raced)) h keeps on = tt
  gone-listens cx cx' now c c' old (Ok (after_polls.Waits new tick)) h keeps on = elim on.starts [
    | inl stays ↦ subst (AllListen connector trial cx') (sym stays.same) (all_kept cx cx' old.unfinished.items keeps h)
    | inr begins ↦ subst (AllListen connector trial cx') (sym begins.next) (All-push (λ (o : Unfinished C Conn Run). Listens connector trial cx' o.future) old.unfinished.items begins.o (all_kept cx cx' old.unfinished.items keeps h) (begun_listens cx' c c' begins.x begins.o begins.begins))
  ]

  -- a turn that ends the race
  pub ended-listens : {E : Type 0} (cx : Context) (race : Race) (winner : Option Conn) (r : Result (AfterPoll C Conn Run) E) → IfOk r (EndsWith race winner) → IfOk r (AllListenAfter connector trial cx)
  ended-listens cx race winner (Err e) h = tt
  ended-listens cx race winner (Ok (after_polls.Ended raced)) h = tt
  ended-listens cx race winner (Ok (after_polls.Waits new tick)) h = absurd h

  -- a poll that takes a turn
  pub turn-listens : {E : Type 0} (cx : Context) (was : Live C Conn Run) (r : Result (AfterPoll C Conn Run) E) → IfOk r (AllListenAfter connector trial cx) → IfOk r (TurnListensAfter connector trial cx was)
  turn-listens cx was (Err e) h = tt
  turn-listens cx was (Ok (after_polls.Ended raced)) h = tt
  turn-listens cx was (Ok (after_polls.Waits live tick)) h = inr h

  pub race-listens : (cx cx' : Context) (x y : Option (Live C Conn Run)) (was live : Live C Conn Run) → x ≡ Some was → y ≡ Some live → Keeps cx cx' → TurnListens connector trial cx was live → RaceListens connector trial cx' x y
  race-listens cx cx' x y was live e f keeps (inl still) = rw (e, f) (inl still)
  race-listens cx cx' x y was live e f keeps (inr all) = rw (e, f) (inr (all_kept cx cx' live.unfinished.items keeps all))

heard : (race : Race) (family : Family) (now : ℕ) (answer : AnswerLists) (ips : List Ip) (X : Type 0) → IfNone (reply_of (with_heard race family now answer ips) family) X
heard race families.V6 now answer ips X = tt
heard race families.V4 now answer ips X = tt

-- a family that was heard has an answer
pub heard-family : {A E : Type 0} (r : Result A E) (race new : Race) (family : Family) (now : ℕ) (answer : AnswerLists) (ips : List Ip) (X : Type 0) → OnOk r (new ≡ with_heard race family now answer ips) → OnOk r (IfNone (reply_of new family) X)
heard-family (Err e) race new family now answer ips X h = tt
heard-family (Ok x) race new family now answer ips X h = subst (λ (z : Race). IfNone (reply_of z family) X) (sym h) (heard race family now answer ips X)

pub on_ok : {A E : Type 0} (r : Result A E) (X : Type 0) → X → OnOk r X
on_ok (Err e) X x = tt
on_ok (Ok a) X x = x

pub if-none : {A : Type 0} (o : Option A) (X : Type 0) → X → IfNone o X
if-none None X x = x
if-none (Some a) X x = tt

pub some-none : {A : Type 0} (o : Option A) (X : Type 0) → is_some o ≡ true → IfNone o X
some-none None X e = cc
some-none (Some a) X e = tt

-- what is told for IPv4 leaves the AAAA answer as it is
told_four : (race : Race) (now : ℕ) (told : Option AnswerLists) → (with_told race families.V4 now told).aaaa ≡ race.aaaa
told_four race now None = refl
told_four race now (Some answer) = refl

module _ {S : Type 0} (source : SourceOf S) where
  four_keeps : (s s' : S) (race new : Race) (now : ℕ) → HearsOf source.hears s race families.V4 now s' new → new.aaaa ≡ race.aaaa
  four_keeps s s' race new now h = by_reply race.a h
    where
      by_reply : (o : Option Reply) → HearsFrom source.hears o s race families.V4 now s' new → new.aaaa ≡ race.aaaa
      by_reply (Some reply) h = ap (λ (r : Race). r.aaaa) h.1
      by_reply None h = ap (λ (r : Race). r.aaaa) h.2 ∙ told_four race now h.0

  listens_for_kept : (old new : Context) (s : S) (family : Family) → Keeps old new → ListensFor source old s family → ListensFor source new s family
  listens_for_kept old new s family keeps (inl covers) = inl (keeps Lasting.armed covers.0, λ n needs. keeps (Lasting.hears n) (covers.1 n needs))
  listens_for_kept old new s family keeps (inr silent) = inr silent

  if_none_kept : (old new : Context) (s : S) (family : Family) (o : Option Reply) → Keeps old new → IfNone o (ListensFor source old s family) → IfNone o (ListensFor source new s family)
  if_none_kept old new s family None keeps h = listens_for_kept old new s family keeps h
  if_none_kept old new s family (Some reply) keeps h = tt

  if_none_on : (X Y : Type 0) (o : Option Reply) → (X → Y) → IfNone o X → IfNone o Y
  if_none_on X Y None f x = f x
  if_none_on X Y (Some reply) f x = tt

  -- a family of which nothing more is told stays so
  silent_on : (s s' : S) (family other : Family) (now : ℕ) (told : Option AnswerLists) → source.hears s family now told s' → IsSilent source.hears s other → IsSilent source.hears s' other
  silent_on s s' family other now told step silent = record { at = λ polls. (silent.at ((family, now) ∷ polls) told s' step).1 }

  -- a poll for one family leaves the source listening for the other one
  pub listens_on : (cx cx' : Context) (s s' : S) (family : Family) (now : ℕ) (told : Option AnswerLists) → source.hears s family now told s'
      → ((other : Family) → (other ≡ family → ⊥) → Covers cx (source.needs s other) → Covers cx' (source.needs s' other))
      → (other : Family) → (other ≡ family → ⊥) → ListensFor source cx s other → ListensFor source cx' s' other
  listens_on cx cx' s s' family now told step waits other distinct (inl covers) = inl (waits other distinct covers)
  listens_on cx cx' s s' family now told step waits other distinct (inr silent) = inr (silent_on s s' family other now told step silent)

  -- both families were heard, one after the other
  pub both-listen : {A E : Type 0} (cx cx' : Context) (s between s' : S) (race half new : Race) (now : ℕ) (r : Result A E) → HearsOf source.hears s race families.V6 now between half → OnOk r (HearsOf source.hears between half families.V4 now s' new) → Keeps cx cx' → IfNone (reply_of half families.V6) (ListensFor source cx between families.V6) → OnOk r (IfNone (reply_of new families.V4) (ListensFor source cx' s' families.V4))
      → OnOk r ((other : Family) → (other ≡ families.V4 → ⊥) → ListensFor source cx between other → ListensFor source cx' s' other) → OnOk r (SourceListens source cx' s race now s' new)
  both-listen cx cx' s between s' race half new now (Err e) six four keeps h k others = tt
  both-listen cx cx' s between s' race half new now (Ok x) six four keeps h k others = record {
    hears = record { between = between; half = half; six = six; four = four };
    six = subst (λ (o : Option Reply). IfNone o (ListensFor source cx' s' families.V6)) (sym (four_keeps between s' half new now four)) (if_none_on (ListensFor source cx between families.V6) (ListensFor source cx' s' families.V6) half.aaaa (others families.V6 (λ e. cc)) h);
    four = k;
  }

  source_kept : (old new : Context) (s : S) (race : Race) (now : ℕ) (s' : S) (heard : Race) → Keeps old new → SourceListens source old s race now s' heard → SourceListens source new s race now s' heard
  source_kept old new s race now s' heard keeps h = record {
    hears = h.hears;
    six = if_none_kept old new s' families.V6 heard.aaaa keeps h.six;
    four = if_none_kept old new s' families.V4 heard.a keeps h.four;
  }

  heard_kept : (old new : Context) (s : S) (race : Race) (now : ℕ) (s' : S) (later : Race) → Keeps old new → HeardListens source old s race now s' later → HeardListens source new s race now s' later
  heard_kept old new s race now s' later keeps h = record { heard = h.heard; listens = source_kept old new s race now s' h.heard keeps h.listens; alike = h.alike }

module _ {S C Conn Run : Type 0} (source : SourceOf S) (connector : ConnectorOf C Conn Run) (trial : TrialOf Run Conn) where
  -- a turn of a race to which answers came
  pub turn-heard : {E : Type 0} (cx cx' : Context) (s s' : S) (c c' : C) (race heard : Race) (all : List Attempt) (os : List (Unfinished C Conn Run)) (now : ℕ) (r : Result (AfterPoll C Conn Run) E) → SourceListens source cx s race now s' heard → Keeps cx cx' → IfOk r (TurnsFrom connector trial (unpolled c heard all) os now c') → IfOk r (HeardListensAfter source cx' s race now s')
  turn-heard cx cx' s s' c c' race heard all os now (Err e) h keeps t = tt
  turn-heard cx cx' s s' c c' race heard all os now (Ok (after_polls.Ended raced)) h keeps t = tt
  turn-heard cx cx' s s' c c' race heard all os now (Ok (after_polls.Waits live tick)) h keeps t = record { heard = heard; listens = source_kept source cx cx' s race now s' heard keeps h; alike = t.alike }

  pub ended-heard : {E : Type 0} (cx : Context) (s s' : S) (race : Race) (now : ℕ) (ended : Race) (winner : Option Conn) (r : Result (AfterPoll C Conn Run) E) → IfOk r (EndsWith ended winner) → IfOk r (HeardListensAfter source cx s race now s')
  ended-heard cx s s' race now ended winner (Err e) h = tt
  ended-heard cx s s' race now ended winner (Ok (after_polls.Ended raced)) h = tt
  ended-heard cx s s' race now ended winner (Ok (after_polls.Waits live tick)) h = absurd h

  -- a poll that takes a turn
  pub poll-heard : {E : Type 0} (cx : Context) (s s' : S) (c c' : C) (was : Live C Conn Run) (now : ℕ) (r : Result (AfterPoll C Conn Run) E) → IfOk r (HeardTurn source.hears connector trial s c was now s' c') → IfOk r (HeardListensAfter source cx s (slept was.recorder.recorded was.recorder.due now) now s') → IfOk r (TurnHearsAfter source cx s was s')
  poll-heard cx s s' c c' was now (Err e) t h = tt
  poll-heard cx s s' c c' was now (Ok (after_polls.Ended raced)) t h = tt
  poll-heard cx s s' c c' was now (Ok (after_polls.Waits live tick)) (inl t) h = absurd t
  poll-heard cx s s' c c' was now (Ok (after_polls.Waits live tick)) (inr t) h = inr (now, t.turns.turn, h)

  pub race-heard : (cx cx' : Context) (s s' : S) (x y : Option (Live C Conn Run)) (was live : Live C Conn Run) → x ≡ Some was → y ≡ Some live → Keeps cx cx' → TurnHears source cx s was s' live → RaceHears source cx' s x s' y
  race-heard cx cx' s s' x y was live e f keeps (inl still) = rw (e, f) (inl still)
  race-heard cx cx' s s' x y was live e f keeps (inr h) = rw (e, f) (inr (h.0, h.1, heard_kept source cx cx' s _ h.0 s' live.recorder.recorded keeps h.2))

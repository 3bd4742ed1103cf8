-- What a pending poll of an attempt waits for.
use Rattle.std.proofs.Common.{◌≡◌, ℕ, ◌<◌, Bool, true, false, List, [], ◌∷◌, Option, Some, Result, Ok, ◌⊎◌, inl, inr, MatchBool, if◌then◌else◌, refl, sym, ap, subst, nat_lt}
use Rattle.std.proofs.lemmas.Bool.Decides.{Decides-ltb}
use Rattle.futures.specs.Poll.{OnPending}
use Rattle.futures.specs.Task.{Covers}
use Rattle.futures.specs.declared.task.context.Context.{Context}
use Rattle.futures.specs.declared.task.Poll.{Poll}
use Rattle.futures.specs.declared.task.Poll.TheVariants.{Ready, Pending}
use Rattle.he_addr.specs.declared.ip.Ip.{Ip}
use Rattle.he_turns.specs.declared.attempt.AttemptFuture.{AttemptFuture}
use Rattle.he_turns.specs.declared.attempt.AttemptFuture.TheVariants.{Sleeping, Connecting}
use Rattle.he_turns.specs.declared.attempt.Finish.{Finish}
use Rattle.he_turns.specs.declared.faults.AttemptFault.{AttemptFault}
use Rattle.he_turns.specs.declared.connector.Connector.{Ghosts as ConnectorOf}
use Rattle.he_turns.specs.declared.trial.Trial.{Ghosts as TrialOf}
use Rattle.he_turns.specs.Attempt.{RunAnswers, attempt_polls, due_of, needs_of}
use Rattle.he_turns.specs.Listening.{Listens}
use Rattle.he_turns.specs.Waiting.{Polls, IsBefore, StaysPending, WaitsForTick}

is_true : Bool → Type 0
is_true true = Unit {0}
is_true false = ⊥

no : true ≡ false → ⊥
unfolding is_true
no h = subst is_true h tt

IsPending : {A : Type 0} → Poll A → Type 0
IsPending Pending = Unit {0}
IsPending (Ready x) = ⊥

pub not_pending : {A : Type 0} (x : A) → ◌≡◌ {A = Poll A} (Ready x) Pending → ⊥
unfolding IsPending
not_pending {A} x e = let P : Poll A → Type 0 = IsPending in subst P (sym e) tt

at_true : (X Y : Type 0) (b : Bool) → b ≡ true → MatchBool b X Y → X
at_true X Y true e x = x
at_true X Y false e y = subst (λ b. MatchBool b X Y) e y

-- a state that polls before its tick leave as it is, and that is pending in them, waits for that tick
stays : {S A : Type 0} (polls : Polls S A) (s : S) (due : Option ℕ)
    → ((t : ℕ) (r : Poll A) (s' : S) → IsBefore t due → polls s t r s' → (r ≡ Pending) × (s' ≡ s))
    → (ts : List ℕ) → StaysPending polls s due ts
stays polls s due h [] = tt
stays {S} {A} polls s due h (t ∷ ts) = λ r s' before polled.
    let step = h t r s' before polled in
    let P : S → Type 0 = λ x. StaysPending polls x due ts in
    (step.0, subst P (sym step.1) (stays polls s due h ts))

pub waits_still : {S A : Type 0} (polls : Polls S A) (s : S) (due : Option ℕ)
    → ((t : ℕ) (r : Poll A) (s' : S) → IsBefore t due → polls s t r s' → (r ≡ Pending) × (s' ≡ s))
    → WaitsForTick polls s due
waits_still polls s due h = record { at = stays polls s due h }

module _ {C Conn Run : Type 0} (connector : ConnectorOf C Conn Run) (trial : TrialOf Run Conn) where
  asleep : (place : ℕ) (ip : Ip) (start t : ℕ) (r : Poll (Finish Conn)) (s' : AttemptFuture C Conn Run) → t < start
      → attempt_polls connector trial (Sleeping place ip start) t r s'
      → (r ≡ Pending) × (s' ≡ Sleeping place ip start)
  asleep place ip start t r s' before p =
      (p.2.0, (at_true _ _ (nat_lt t start) ((Decides-ltb t start).1 before) p.2.1).1)

  pub sleeping_waits : (place : ℕ) (ip : Ip) (start : ℕ)
      → WaitsForTick (attempt_polls connector trial) (Sleeping place ip start) (Some start)
  sleeping_waits place ip start =
      waits_still (attempt_polls connector trial) (Sleeping place ip start) (Some start) (asleep place ip start)

  fresh : (run : Result Run AttemptFault) (next t : ℕ) (r : Poll (Finish Conn)) (s' : AttemptFuture C Conn Run) → t < next
      → attempt_polls connector trial (Connecting run next true) t r s'
      → (r ≡ Pending) × (s' ≡ Connecting run next true)
  fresh run next t r s' before p = at_true _ _ (nat_lt t next) ((Decides-ltb t next).1 before) p.2.1

  pub fresh_waits : (run : Result Run AttemptFault) (next : ℕ)
      → WaitsForTick (attempt_polls connector trial) (Connecting run next true) (Some next)
  fresh_waits run next =
      waits_still (attempt_polls connector trial) (Connecting run next true) (Some next) (fresh run next)

  -- where polls of a trial that stay pending make an attempt's polls stay pending, so does one more
  answered : (next : ℕ) (due : Option ℕ) (run : Run) (t : ℕ) (ts : List ℕ) → StaysPending trial.polls run due (t ∷ ts)
      → ((later : Run) → StaysPending trial.polls later due ts
      → StaysPending (attempt_polls connector trial) (Connecting (Ok later) next false) due ts)
      → (r : Poll (Finish Conn)) (s' : AttemptFuture C Conn Run) → IsBefore t due
      → RunAnswers connector trial (Ok run) next t r s'
      → (r ≡ Pending) × StaysPending (attempt_polls connector trial) s' due ts
  answered next due run t ts h rest Pending s' before p =
      let step = h Pending p.0 before p.1 in
      let P : AttemptFuture C Conn Run → Type 0 = λ x. StaysPending (attempt_polls connector trial) x due ts in
      (refl, subst P (sym p.2) (rest p.0 step.1))
  answered next due run t ts h rest (Ready f) s' before p =
      absurd (not_pending f.result (h (Ready f.result) p.0 before p.1).0)

  connecting : (next : ℕ) (due : Option ℕ) (run : Run) (ts : List ℕ) → StaysPending trial.polls run due ts
      → StaysPending (attempt_polls connector trial) (Connecting (Ok run) next false) due ts
  connecting next due run [] h = tt
  connecting next due run (t ∷ ts) h = λ r s' before p.
      answered next due run t ts h (λ later. connecting next due later ts) r s' before p.2.1

  pub connecting_waits : (next : ℕ) (run : Run) (due : Option ℕ) → WaitsForTick trial.polls run due
      → WaitsForTick (attempt_polls connector trial) (Connecting (Ok run) next false) due
  connecting_waits next run due h =
      record { at = λ ts. connecting next due run ts (h.at ts) }

  pub fresh_waits_if : (run : Result Run AttemptFault) (next : ℕ) (is_fresh : Bool) → is_fresh ≡ true
      → WaitsForTick (attempt_polls connector trial) (Connecting run next is_fresh) (due_of connector trial (Connecting run next is_fresh))
  fresh_waits_if run next true e = fresh_waits run next
  fresh_waits_if run next false e = absurd (no (sym e))

  -- what a pending poll of the trial waits for, a poll of the attempt waits for
  pub lifted : (run : Run) (next : ℕ) (x : Result Run AttemptFault) (cx cx' : Context) → x ≡ Ok run → cx ≡ cx'
      → (Covers cx' (trial.needs run) ⊎ WaitsForTick trial.polls run (trial.due_tick run))
      → Listens connector trial cx (Connecting x next false)
  lifted run next x cx cx' e same (inl covers) =
      let P : Result Run AttemptFault → Type 0 = λ y. Covers cx (needs_of connector trial (Connecting y next false)) in
      let here : Covers cx (trial.needs run) = subst (λ (c : Context). Covers c (trial.needs run)) (sym same) covers in
      inl (subst P (sym e) here)
  lifted run next x cx cx' e same (inr waits) =
      let P : Result Run AttemptFault → Type 0 = λ y. WaitsForTick (attempt_polls connector trial) (Connecting y next false) (due_of connector trial (Connecting y next false)) in
      inr (subst P (sym e) (connecting_waits next run (trial.due_tick run) waits))

pub on_pending : {A : Type 0} (r : Poll A) (X : Type 0) → r ≡ Pending → OnPending r X → X
on_pending Pending X e x = x
on_pending (Ready y) X e x = absurd (not_pending y e)

-- a choice that a tick before another decides
pub early : {A : Type 0} (x y : A) (t tick : ℕ) → t < tick → (if nat_lt t tick then x else y) ≡ x
early x y t tick h = ap (λ b. if b then x else y) ((Decides-ltb t tick).1 h)

-- The wait of a pending poll: for a tick that it names, or for nothing at all.
use Rattle.std.specs.Prelude.{ℕ, ◌≡◌, ◌<◌, ⊤, List, [], ◌∷◌, Option, IfSome}
use Rattle.futures.specs.declared.task.Poll.{Poll}
use Rattle.futures.specs.declared.task.Poll.TheVariants.{Pending}

-- the results of a poll at a tick, and the state that it leaves
abbrev pub Polls : Type 0 → Type 0 → Type 1
Polls S A = S → ℕ → Poll A → S → Type 0

-- the tick is before the named one, if there is one
abbrev pub IsBefore : ℕ → Option ℕ → Type 0
IsBefore t due = IfSome due (λ d. t < d)

-- polls at these ticks, one after the other, are pending as long as they come before the named tick
abbrev pub StaysPending : {S A : Type 0} → Polls S A → S → Option ℕ → List ℕ → Type 0
StaysPending polls s due [] = ⊤
StaysPending {S} {A} polls s due (t ∷ ts) =
    (r : Poll A) (s' : S) → IsBefore t due → polls s t r s' → (r ≡ Pending) × StaysPending polls s' due ts

-- all later polls are pending, up to the named tick; if none is named, all are
pub record WaitsForTick {S A : Type 0} (polls : Polls S A) (s : S) (due : Option ℕ) : Type 0 where
  pub at : (ticks : List ℕ) → StaysPending polls s due ticks

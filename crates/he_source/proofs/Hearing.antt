-- What a source that hears another one owes of that one.
use Rattle.std.proofs.Common.{◌≡◌, ◌⊎◌, ◌∙◌, ℕ, Bool, List, [], ◌∷◌, ap, inl, inr, refl, subst, sym}
use Rattle.std.specs.Prelude.{Option, None, Some, is_some}
use Rattle.he_addr.specs.declared.ip.Family.{Family}
use Rattle.he_resolver.specs.Heard.{IsSound, Told, origin_of}
use Rattle.he_resolver.specs.Heard.{Tells as TellsLookup}
use Rattle.he_setup.specs.Answers.{HearsLookup, IsToldOf}
use Rattle.he_setup.specs.declared.source.HostAnswers.{HostAnswers}
use Rattle.he_live.specs.declared.steps.Quiet.{Quiet}
use Rattle.futures.specs.Poll.{IfReady, OnPending}
use Rattle.futures.specs.Task.{Covers}
use Rattle.futures.specs.declared.task.context.Context.{Context}
use Rattle.futures.specs.declared.task.Poll.{Poll}
use Rattle.futures.specs.declared.task.Poll.TheVariants.{Pending, Ready}
use Rattle.he_turns.specs.Heard.{AnswerLists, IsSilent, StaysSilent, Tells}
use Rattle.he_source.specs.Sources.{Asks, HearsAt, HearsBy, HearsOwn, IsToldHere, IsToldWith, needs_at}
use Rattle.he_source.specs.declared.source.RaceSource.{RaceSource}
use Rattle.he_source.specs.declared.source.Turn.{Turn}
use Rattle.he_source.specs.declared.source.Turn.TheVariants as turns

-- where nothing was told, nothing is told with it
none_with : (bare told : Option AnswerLists) → bare ≡ None → IsToldWith bare told → told ≡ None
none_with None None b with = refl
none_with None (Some told) b with = absurd with
none_with (Some bare) told b with = cc

module _ {R : Type 0} (own : Tells (HostAnswers R Quiet)) where
  -- a source that asks itself goes on so, and hears what its look-up tells
  heard_at : (turn : Turn) (old : RaceSource R) (family : Family) (now : ℕ) (told : Option AnswerLists)
      (new : RaceSource R) → Asks turn → HearsAt turn own old family now told new
      → Asks new.turn × HearsOwn own old family now told new
  heard_at (turns.Asks asked) old family now told new asks heard = heard
  heard_at (turns.Waits answered) old family now told new asks heard = absurd asks

  stays : (polls : List (Family × ℕ)) (s : RaceSource R) (family : Family) → Asks s.turn
      → StaysSilent own s.answers family polls → StaysSilent (HearsBy own) s family polls
  stays [] s family asks silent = tt
  stays (p ∷ polls) s family asks silent = λ told later heard.
      let so = heard_at s.turn s p.0 p.1 told later asks heard in
      let bare = so.1.0 in
      let found = silent bare later.answers so.1.2 in
      (λ is. none_with bare told (found.0 is) so.1.1, stays polls later family so.0 found.1)

  pub silent_by : (s : RaceSource R) (family : Family) → Asks s.turn → IsSilent own s.answers family
      → IsSilent (HearsBy own) s family
  silent_by s family asks silent = record { at = λ polls. stays polls s family asks (silent.at polls) }

-- ---- what its look-up tells

module _ {R : Type 0} (old new : HostAnswers R Quiet) (family : Family) where
  -- nothing yet
  pub heard_none : is_some new.machine ≡ is_some old.machine → origin_of new.lookup.source ≡ origin_of old.lookup.source
      → (IsSound old.lookup.source → IsSound new.lookup.source) → HearsLookup old family None new
  heard_none brings origin sound = record { brings = brings; origin = origin; sound = sound; tells = λ so. tt }

module _ {R : Type 0} (old new later : HostAnswers R Quiet) (family : Family) (told : Told) (answer : AnswerLists) where
  -- a result, of which the race's answer is made
  pub heard_told : later ≡ new → is_some new.machine ≡ is_some old.machine
      → origin_of new.lookup.source ≡ origin_of old.lookup.source
      → (IsSound old.lookup.source → IsSound new.lookup.source)
      → (IsSound old.lookup.source → TellsLookup new.lookup.source family told)
      → IsToldHere (is_some later.machine) told answer
      → (bare : Option AnswerLists) × IsToldWith bare (Some answer) × HearsLookup old family bare later
  heard_told same brings origin sound tells (bare, is, alike) =
      let here : IsToldOf (is_some old.machine) told bare =
      subst (λ (b : Bool). IsToldOf b told bare)
      (ap (λ (a : HostAnswers R Quiet). is_some a.machine) same ∙ brings) is in
      let heard : HearsLookup old family (Some bare) new = record {
        brings = brings;
        origin = origin;
        sound = sound;
        tells = λ so. (told, tells so, here);
      } in
      (Some bare, alike, subst (λ (a : HostAnswers R Quiet). HearsLookup old family (Some bare) a) (sym same) heard)

-- ---- what it waits for

module _ (own : ℕ → Type 0) where
  -- where it asks itself, for what its look-up waits for
  own_needs : (turn : Turn) (s : ℕ) → Asks turn → needs_at turn own s → own s
  own_needs (turns.Asks asked) s asks needs = needs
  own_needs (turns.Waits _) s asks needs = absurd asks

  needs_own : (turn : Turn) (s : ℕ) → Asks turn → own s → needs_at turn own s
  needs_own (turns.Asks asked) s asks needs = needs
  needs_own (turns.Waits _) s asks needs = absurd asks

  pub covers_asking : (cx : Context) (turn : Turn) → Asks turn → Covers cx own → Covers cx (needs_at turn own)
  covers_asking cx turn asks covers = (covers.0, λ s needs. covers.1 s (own_needs turn s asks needs))

  pub covers_own : (cx : Context) (turn : Turn) → Asks turn → Covers cx (needs_at turn own) → Covers cx own
  covers_own cx turn asks covers = (covers.0, λ s needs. covers.1 s (needs_own turn s asks needs))

-- ---- what a poll comes to

pub pending_so : {X : Type 0} {A B : Type 0} (r : Poll X) → (A → B) → OnPending r A → OnPending r B
pending_so Pending f held = f held
pending_so (Ready x) f held = tt

pub if_pending : {X : Type 0} {A : Type 0} (r : Poll X) → A → OnPending r A
if_pending Pending held = held
if_pending (Ready x) held = tt

pub either : {A B C D : Type 0} → (A → C) → (B → D) → A ⊎ B → C ⊎ D
either f g (inl a) = inl (f a)
either f g (inr b) = inr (g b)

-- pending or not
pub by_poll : {X : Type 0} {A B C : Type 0} (r : Poll X) → OnPending r A → IfReady r (λ _. B) → (A → C) → (B → C) → C
by_poll Pending held same f g = f held
by_poll (Ready x) held same f g = g same

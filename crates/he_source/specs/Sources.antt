-- The answers that a race of the proxy gets for its host, and the events that its source waits for.
use Rattle.std.specs.Prelude.{ℕ, ◌≡◌, ⊤, Bool, List, Option, Some, None, is_some, string_bytes}
use Rattle.he_addr.specs.declared.ip.Family.{Family}
use Rattle.he_setup.specs.Answers.{IsToldOf}
use Rattle.he_setup.specs.declared.source.HostAnswers.{HostAnswers}
use Rattle.he_live.specs.declared.steps.Quiet.{Quiet}
use Rattle.he_resolver.specs.Heard.{Told}
use Rattle.he_turns.specs.Heard.{AnswerLists, Tells, ips_of}
use Rattle.tokio.specs.Locks.{notified_source}
use Rattle.he_source.specs.Kept.{IsKeptFor}
use Rattle.he_source.specs.declared.lookups.HostLookup.{HostLookup}
use Rattle.he_source.specs.declared.source.RaceSource.{RaceSource}
use Rattle.he_source.specs.declared.source.Turn.{Turn}
use Rattle.he_source.specs.declared.source.Turn.TheVariants as turns

-- equal addresses, with any history, and equal lines
pub record HasSameLines (bare told : AnswerLists) : Type 0 where
  pub ips : ips_of told.known ≡ ips_of bare.known
  pub sources : told.sources ≡ bare.sources
  pub routes : told.routes ≡ bare.routes

-- no answer if there was none, otherwise that one with history
abbrev pub IsToldWith : Option AnswerLists → Option AnswerLists → Type 0
IsToldWith None None = ⊤
IsToldWith (Some bare) (Some told) = HasSameLines bare told
IsToldWith bare told = ⊥

-- the race's answer is made of a look-up's result
abbrev pub IsToldHere : Bool → Told → AnswerLists → Type 0
IsToldHere brings told answer = (bare : AnswerLists) × IsToldOf brings told bare × HasSameLines bare answer

-- no answer, or that of the cached addresses for this family of the host, or of why there are none, as from the
-- look-up
abbrev pub IsOfKept : Bool → List ℕ → Family → Option AnswerLists → Type 0
IsOfKept brings host family None = ⊤
IsOfKept brings host family (Some answer) =
    (told : Told) × IsKeptFor host family told × IsToldHere brings told answer

-- the race does the look-up of its host itself
abbrev pub Asks : Turn → Type 0
Asks (turns.Asks asked) = ⊤
Asks (turns.Waits answered) = ⊥

-- a race with its own look-up waits for that one's events, any other for the race that does it
abbrev pub needs_at : Turn → (ℕ → Type 0) → ℕ → Type 0
needs_at (turns.Asks asked) own s = own s
needs_at (turns.Waits answered) own s = s ≡ notified_source answered

module _ {R : Type 0} where
  -- the source answers with this look-up of its host, which no poll has changed
  pub record IsAsked (lookup : HostLookup R) (source : RaceSource R) : Type 0 where
    pub host : string_bytes source.host ≡ string_bytes lookup.host
    pub answers : source.answers ≡ lookup.answers

  abbrev pub needs_by : (ℕ → Type 0) → RaceSource R → ℕ → Type 0
  needs_by own source s = needs_at source.turn own s

  -- it gets its look-up's answer
  abbrev pub HearsOwn : Tells (HostAnswers R Quiet) → Tells (RaceSource R)
  HearsOwn own old family now told new =
      (bare : Option AnswerLists) × IsToldWith bare told × own old.answers family now bare new.answers

  -- that answer, if it does the look-up itself, or a cached one
  abbrev pub HearsAt : Turn → Tells (HostAnswers R Quiet) → Tells (RaceSource R)
  HearsAt (turns.Asks asked) own old family now told new =
      Asks new.turn × HearsOwn own old family now told new
  HearsAt (turns.Waits _) own old family now told new =
      IsOfKept (is_some old.answers.machine) (string_bytes old.host) family told

  abbrev pub HearsBy : Tells (HostAnswers R Quiet) → Tells (RaceSource R)
  HearsBy own old family now told new = HearsAt old.turn own old family now told new

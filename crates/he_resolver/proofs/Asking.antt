-- What a family's look-up comes to with each step.
use Rattle.std.proofs.Common.{◌≡◌, ◌≤◌, ◌∙◌, ℕ, List, Option, Some, None, Ok, Err, Bool, true, false, ap, is_some, length, slice_get, vec_len, inl, inr, refl, subst, sym}
use Rattle.std.proofs.lemmas.Bool.{false≢true}
use Rattle.std.proofs.lemmas.Option.{slice_get_cases}
use Rattle.he_addr.specs.declared.ip.Family.{Family}
use Rattle.he_dns.specs.Texts.{HostName}
use Rattle.he_resolver.specs.Asking.{AsksNext, EndsThrough, Takes}
use Rattle.he_settings.specs.Faults.{IsOfAsking}
use Rattle.he_settings.specs.Faults.{is_of_server}
use Rattle.he_asking.specs.Said.{Heard, IsHeardOf, IsSaidOf}
use Rattle.he_resolver.specs.Heard.{HearsOf, IsHeardOfOne}
use Rattle.he_resolver.specs.declared.family_lookup.FamilyLookup.{FamilyLookup}
use Rattle.he_settings.specs.declared.fault.NamesFault.{NamesFault}
use Rattle.he_settings.specs.declared.fault.NamesFault.TheVariants as faults
use Rattle.he_settings.specs.declared.plan.QueryPlan.{QueryPlan}

past : {X : Type 0} (xs : List X) (i : ℕ) → slice_get xs i ≡ None → length xs ≤ i
past {X = X} xs i none = elim (slice_get_cases xs i).1 [
  | inl there ↦ (let no : None ≡ Some there.0 = sym none ∙ there.2 in cc)
  | inr beyond ↦ beyond.0
]

-- every server was asked
pub asked_all : (plan : QueryPlan) (old : FamilyLookup) (told : Option Heard) (fault : NamesFault) → told ≡ Some (Err fault)
    → is_of_server fault ≡ true → slice_get plan.servers.items old.begun ≡ None → vec_len old.queries ≡ 0 → AsksNext plan old told
asked_all plan old told fault is failed none empty =
    subst (AsksNext plan old) (sym is) (inr (inr (failed, (past plan.servers.items old.begun none, empty))))

-- a fault of this machine or of a server is no answer of a server
pub not_said : (octets : List ℕ) (family : Family) (fault : NamesFault) → IsOfAsking fault → IsSaidOf octets family fault
not_said octets family faults.NoAddress (inl e) = absurd (false≢true (sym e))
not_said octets family faults.NoAddress (inr e) = absurd (false≢true e)
not_said octets family faults.NoSuchName (inl e) = absurd (false≢true (sym e))
not_said octets family faults.NoSuchName (inr e) = absurd (false≢true e)
not_said octets family (faults.Host host) of = tt
not_said octets family (faults.Name name) of = tt
not_said octets family faults.NoAnswer of = tt
not_said octets family (faults.Server server) of = tt
not_said octets family faults.NotAsked of = tt
not_said octets family faults.System of = tt
not_said octets family (faults.Unreadable file) of = tt
not_said octets family faults.Interface of = tt
not_said octets family faults.Files of = tt
not_said octets family faults.Runtime of = tt
not_said octets family faults.Memory of = tt

-- nothing is told anew
pub hears_same : (octets : List ℕ) (family : Family) (told : Option Heard) → HearsOf octets family told told
hears_same octets family None = tt
hears_same octets family (Some told) = inl refl

-- the next server is asked
pub hears_asked : (octets : List ℕ) (family : Family) (plan : QueryPlan) (old : FamilyLookup) (told : Option Heard)
    → AsksNext plan old told → HearsOf octets family old.told told
hears_asked octets family plan old None asks = tt
hears_asked octets family plan old (Some (Ok found)) asks = inl (sym asks)
hears_asked octets family plan old (Some (Err fault)) (inl machine) = inr (not_said octets family fault (inl machine))
hears_asked octets family plan old (Some (Err fault)) (inr (inl same)) = inl (sym same)
hears_asked octets family plan old (Some (Err fault)) (inr (inr through)) = inr (not_said octets family fault (inr through.0))

-- a server's answer is taken
pub hears_taken : (octets : List ℕ) (family : Family) (answer : Heard) (old new : FamilyLookup)
    → IsHeardOf octets family answer → Takes answer old new → HearsOf octets family old.told new.told
hears_taken octets family (Ok found) old new heard taken = subst (HearsOf octets family old.told) (sym taken) (inr heard)
hears_taken octets family (Err fault) old new heard (inl goes) =
    subst (HearsOf octets family old.told) (sym goes.1.0) (hears_same octets family old.told)
hears_taken octets family (Err fault) old new heard (inr told) = subst (HearsOf octets family old.told) (sym told.1) (inr heard)

-- of one of the names
pub heard_of_one : (names : List HostName) (place : ℕ) (name : HostName) (family : Family) (old new : Option Heard)
    → slice_get names place ≡ Some name → HearsOf name.octets family old new → IsHeardOfOne names family old → IsHeardOfOne names family new
heard_of_one names place name family old None is hears before = tt
heard_of_one names place name family old (Some (Ok found)) is (inl same) before = subst (IsHeardOfOne names family) (sym same) before
heard_of_one names place name family old (Some (Ok found)) is (inr heard) before = (place, name, is, heard)
heard_of_one names place name family old (Some (Err fault)) is (inl same) before = subst (IsHeardOfOne names family) (sym same) before
heard_of_one names place name family old (Some (Err fault)) is (inr heard) before = λ absence. (place, name, is, heard)

-- that a server's answer is taken tells nothing of all of them
abbrev server_in : Option Heard → Bool
server_in None = false
server_in (Some (Ok found)) = false
server_in (Some (Err fault)) = is_of_server fault

pub ends_taken : (plan : QueryPlan) (told : Option Heard) (answer : Heard) (old new : FamilyLookup) → old.told ≡ told → Takes answer old new
    → EndsThrough plan told new
ends_taken plan told (Ok found) old new same taken = λ fault is of.
    let e : false ≡ is_of_server fault = ap server_in (sym taken ∙ is) in absurd (false≢true (e ∙ of))
ends_taken plan told (Err f) old new same (inl goes) = λ fault is of. inl (sym same ∙ sym goes.1.0 ∙ is)
ends_taken plan told (Err f) old new same (inr ended) = λ fault is of.
    let e : is_of_server f ≡ is_of_server fault = ap server_in (sym ended.1 ∙ is) in absurd (false≢true (sym ended.0 ∙ e ∙ of))

pub ends_same : (plan : QueryPlan) (told : Option Heard) (new : FamilyLookup) → new.told ≡ told → EndsThrough plan told new
ends_same plan told new same = λ fault is of. inl (sym same ∙ is)

-- a step of one that was told nothing
pub ends_next : (plan : QueryPlan) (told : Option Heard) (mid new : FamilyLookup) → is_some mid.told ≡ false
    → EndsThrough plan mid.told new → EndsThrough plan told new
ends_next plan told mid new none ends = λ fault is of. elim (ends fault is of) [
  | inl same ↦ (let e : true ≡ false = sym (ap is_some same) ∙ none in cc)
  | inr through ↦ inr through
]

-- The sources of events that a look-up waits for: its sockets and its timers. A final answer that is not yet returned
-- waits for nothing: it counts every source as its own, so that only a poll that has asked to be polled again has
-- registered at all.
use Rattle.std.specs.Prelude.{ℕ, ◌≡◌, ◌<◌, ◌⊎◌, ⊤, true, false, Bool, List, [], Option, is_some, length, slice_index_or}
use Rattle.futures.specs.Channel.{completed_source}
use Rattle.futures.specs.Task.{Covers}
use Rattle.futures.specs.declared.task.context.Context.{Context}
use Rattle.he_addr.specs.declared.ip.Family.{Family}
use Rattle.he_addr.specs.declared.ip.Family.TheVariants as families
use Rattle.tokio.specs.Timers.{sleep_source}
use Rattle.he_asking.specs.Needs.{query_needs}
use Rattle.he_resolver.specs.declared.family_lookup.FamilyLookup.{FamilyLookup}
use Rattle.he_resolver.specs.declared.family_lookup.NextServer.{NextServer}
use Rattle.he_resolver.specs.declared.family_lookup.NextServer.TheVariants.{Now, After, Never}
use Rattle.he_resolver.specs.declared.gathering.Gathering.{Gathering}
use Rattle.he_resolver.specs.declared.gathering.FamilyAnswer.{FamilyAnswer}
use Rattle.he_resolver.specs.declared.lookup.Lookup.{Lookup}
use Rattle.he_resolver.specs.declared.lookup.Source.{Source}
use Rattle.he_resolver.specs.declared.lookup.Source.TheVariants as sources
use Rattle.he_asking.specs.declared.query.Query.{Query}
use Rattle.he_resolver.specs.declared.resolver.Resolver.{Resolver}

-- ---- one family of a name

-- each query
abbrev pub any_needs : List Query → ℕ → Type 0
any_needs queries s = (k : ℕ) × (d : Query) × (k < length queries) × query_needs (slice_index_or queries k d) s

-- the time to ask the next server; all sources if that is now
abbrev pub next_server_needs : NextServer → ℕ → Type 0
next_server_needs Now s = ⊤
next_server_needs (After timer) s = s ≡ sleep_source timer
next_server_needs Never s = ⊥

abbrev pub IsTold : FamilyLookup → Type 0
IsTold asking = is_some asking.told ≡ true

-- Until it has an answer, a family's part waits for each query and for the time of the next server; without a query
-- it must be polled again.
unfoldable pub family_needs : FamilyLookup → ℕ → Type 0
family_needs asking s =
    (is_some asking.told ≡ false)
    × ((asking.queries.items ≡ []) ⊎ any_needs asking.queries.items s ⊎ next_server_needs asking.next s)

-- it has an answer, or has registered for all that it waits for
abbrev pub Listens : Context → FamilyLookup → Type 0
Listens cx asking = IsTold asking ⊎ Covers cx (family_needs asking)

-- ---- both families

abbrev pub other_of : Family → Family
other_of families.V6 = families.V4
other_of families.V4 = families.V6

module _ {R : Type 0} where
  abbrev pub family_of : Resolver R → Family → FamilyLookup
  family_of resolver families.V6 = resolver.v6
  family_of resolver families.V4 = resolver.v4

  abbrev pub is_settled : Resolver R → Family → Bool
  is_settled resolver family = (family_of resolver family).is_settled

  -- both parts of the name
  abbrev pub names_needs : Resolver R → ℕ → Type 0
  names_needs resolver s = family_needs resolver.v6 s ⊎ family_needs resolver.v4 s

  -- A family with a final answer must be polled. Any other waits for both parts, since the answer of one may make
  -- that of the other final.
  abbrev pub resolver_needs : Resolver R → Family → ℕ → Type 0
  resolver_needs resolver family s = (is_settled resolver family ≡ true) ⊎ names_needs resolver s

  -- a look-up: addresses that are known or have come must be polled for
  abbrev pub source_needs : Source R → Family → ℕ → Type 0
  source_needs (sources.Known known) family s = ⊤
  source_needs (sources.Told found) family s = ⊤
  source_needs (sources.Servers resolver) family s = resolver_needs resolver family s
  source_needs (sources.System query) family s = s ≡ completed_source query.found

  abbrev pub lookup_needs : Lookup R → Family → ℕ → Type 0
  lookup_needs lookup family s = source_needs lookup.source family s

  -- the result of a family so far
  abbrev pub told_of : Gathering R → Family → Option FamilyAnswer
  told_of gathering families.V6 = gathering.v6
  told_of gathering families.V4 = gathering.v4

  -- a look-up of both families: each until it has its result
  abbrev pub gathering_needs : Gathering R → ℕ → Type 0
  gathering_needs gathering s =
      (family : Family) × (is_some (told_of gathering family) ≡ false) × lookup_needs gathering.lookup family s

  -- the family has its result, or the look-up has registered for all that it waits for
  abbrev pub IsHeard : Context → Gathering R → Family → Type 0
  IsHeard cx gathering family =
      (is_some (told_of gathering family) ≡ true) ⊎ Covers cx (lookup_needs gathering.lookup family)

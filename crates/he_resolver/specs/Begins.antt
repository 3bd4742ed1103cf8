-- The start of a look-up.
use Rattle.std.specs.Prelude.{ℕ, ◌≡◌, ◌&&◌, Bool, true, false, List, Option, Some, None, Err, not, if◌then◌else◌}
use Rattle.he_addr.specs.declared.ip.Family.{Family}
use Rattle.he_addr.specs.declared.ip.Family.TheVariants as families
use Rattle.he_names.specs.Targets.{Means}
use Rattle.he_names.specs.declared.environment.Environment.{Environment}
use Rattle.he_names.specs.declared.target.Target.{Target}
use Rattle.he_resolver.specs.Heard.{IsFaithful}
use Rattle.he_settings.specs.Known.{AsksSystem, IsKnown}
use Rattle.he_settings.specs.Plans.{IsPlanFor}
use Rattle.he_settings.specs.declared.choice.Choice.{Choice}
use Rattle.he_resolver.specs.declared.family_lookup.FamilyLookup.{FamilyLookup}
use Rattle.he_settings.specs.declared.fault.NamesFault.TheVariants as faults
use Rattle.he_resolver.specs.declared.lookup.Source.{Source}
use Rattle.he_resolver.specs.declared.lookup.Source.TheVariants as sources
use Rattle.he_resolver.specs.declared.resolver.Resolver.{Resolver}

-- the family is the only one wanted, or both are
abbrev pub wants : Option Family → Family → Bool
wants None family = true
wants (Some families.V6) families.V6 = true
wants (Some families.V6) families.V4 = false
wants (Some families.V4) families.V6 = false
wants (Some families.V4) families.V4 = true

-- a wanted family has no answer yet; one that is not wanted has that as its answer
abbrev pub BeginsPart : Bool → FamilyLookup → Type 0
BeginsPart is_wanted asking =
    (asking.told ≡ (if is_wanted then None else Some (Err faults.NotAsked))) × (asking.is_settled ≡ not is_wanted)

module _ {R : Type 0} where
  -- both families are queried, or only one; IPv6 is not if the options have no-aaaa (resolver(5))
  abbrev pub AsksFor : Option Family → Resolver R → Type 0
  AsksFor only resolver =
      BeginsPart (wants only families.V6 && not resolver.setup.plan.no_aaaa) resolver.v6
      × BeginsPart (wants only families.V4) resolver.v4

  -- The addresses known without a query; or name servers, by this machine's resolver configuration with the
  -- environment's changes, or the chosen one; or the system's resolver, if it is chosen.
  abbrev pub BeginsWith : Choice → Environment → Option Family → Target → Source R → Type 0
  BeginsWith choice environment only target (sources.Known known) = IsKnown target (Some known.items)
  BeginsWith choice environment only target (sources.Servers resolver) =
      IsPlanFor choice environment target resolver.setup.plan × AsksFor only resolver × IsFaithful resolver
  BeginsWith choice environment only target (sources.System query) = AsksSystem choice target
  BeginsWith choice environment only target (sources.Told told) = ⊥

  -- the look-up of the host in a text
  abbrev pub BeginsFor : List ℕ → Choice → Environment → Option Family → Source R → Type 0
  BeginsFor text choice environment only source =
      (target : Target) × Means text target × BeginsWith choice environment only target source

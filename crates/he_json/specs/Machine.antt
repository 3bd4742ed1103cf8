-- The object of a machine: its addresses and its routes.
use Rattle.std.specs.Prelude.{ℕ, ◌≡◌, ◌-◌, ◌%◌, ◌^◌, ◌++◌, if◌then◌else◌, List, [], ◌∷◌, codes, map}
use Rattle.he_addr.specs.declared.ip.Ip.{Ip}
use Rattle.he_addr.specs.declared.ip.Ip.TheVariants.{V4, V6}
use Rattle.he_addr.specs.Prefix.{PrefixBits, is_inside_mapped}
use Rattle.he_select.specs.declared.host.Route.{Route}
use Rattle.he_select.specs.declared.host.Source.{Source}
use Rattle.he_print.specs.declared.part.Fact.{Fact}
use Rattle.he_print.specs.declared.part.Fact.TheVariants as facts
use Rattle.he_json.specs.declared.members.Member.{Member}
use Rattle.he_json.specs.declared.members.Said.{Said}
use Rattle.he_json.specs.declared.members.Said.TheVariants as says
use Rattle.he_json.specs.Json.{facts_of, objects_text}

-- a source: its address, the length of its prefix, its interface, whether it is deprecated and temporary
abbrev pub source_facts : Source → List (Fact Said)
source_facts source =
    facts.Ip source.ip ∷ facts.Number source.plen ∷ facts.Number source.interface
    ∷ facts.Said (says.Truth source.deprecated) ∷ facts.Said (says.Truth source.temporary) ∷ []

-- the first address of a prefix and its length, in IPv4's terms if it has IPv4 addresses alone
abbrev pub prefix_parts : PrefixBits → Ip × ℕ
prefix_parts prefix =
    if is_inside_mapped prefix then (V4 (prefix.bits % 2 ^ 32), prefix.len - 96) else (V6 prefix.bits, prefix.len)

-- a route: its prefix, its interface, whether it leads through a tunnel
abbrev pub route_facts : Route → List (Fact Said)
route_facts route =
    facts.Ip (prefix_parts route.prefix).0 ∷ facts.Number (prefix_parts route.prefix).1 ∷ facts.Number route.interface
    ∷ facts.Said (says.Truth route.tunnel) ∷ []

abbrev pub machine_text : List (List Member) → List (List Member) → List ℕ
machine_text sources routes =
    codes "{\"sources\":" ++ (objects_text sources ++ (codes ",\"routes\":" ++ (objects_text routes ++ codes "}\n")))

-- the text has an object for each source and each route, with its facts
pub record IsMachineJson (machine : List Source) (ways : List Route) (text : List ℕ) : Type 0 where
  pub sources : List (List Member)
  pub routes : List (List Member)
  pub source_facts : map facts_of sources ≡ map source_facts machine
  pub route_facts : map facts_of routes ≡ map route_facts ways
  pub is_text : text ≡ machine_text sources routes

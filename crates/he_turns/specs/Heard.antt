-- How answers that come while a race runs enter its record. The public contracts of `ResolvingRace` cite it.
use Rattle.std.specs.Prelude.{ℕ, ◌≡◌, ◌-◌, ◌&&◌, ◌++◌, ⊤, Bool, not, List, [], ◌∷◌, filter, length, map, max, min, take, Option, Some, None}
use Rattle.std.specs.List.{list_any}
use Rattle.he_addr.specs.declared.ip.Family.{Family}
use Rattle.he_addr.specs.declared.ip.Family.TheVariants as families
use Rattle.he_addr.specs.declared.ip.Ip.{Ip}
use Rattle.he_addr.specs.Ip.{same_ip}
use Rattle.he_addr.specs.Prefix.{is_inside_mapped}
use Rattle.he_select.specs.declared.host.Route.{Route}
use Rattle.he_select.specs.declared.host.Source.{Source}
use Rattle.he_select.specs.declared.known.Known.{Known}
use Rattle.he_select.specs.declared.limits.TheConstants.{ROUTES, SOURCES}
use Rattle.he_select.specs.HostFaults.{is_sound_route, is_sound_source}
use Rattle.he_select.specs.Hosts.{HostLists, same_route, same_source}
use Rattle.he_select.specs.Selection.{known_rtt, known_used}
use Rattle.he_timeline.specs.declared.limits.TheConstants.{MAX_ADDRESSES, MAX_DURATION, MIN_DURATION}
use Rattle.he_timeline.specs.Building.{with_answer, with_host}
use Rattle.he_timeline.specs.Race.{Race, Reply, reply_of}
use Rattle.he_timeline.specs.Timeline.{is_of}
use Rattle.he_turns.specs.declared.answers.Answer.{Answer}

-- a source's answer for a family: addresses with the knowledge of each from earlier connections, and sources and
-- routes of this machine that reach them
pub record AnswerLists : Type 0 where
  pub known : List Known
  pub sources : List Source
  pub routes : List Route

-- the lists of an answer
abbrev pub lists_of : Answer → AnswerLists
lists_of answer = record { known = answer.known.items; sources = answer.sources.items; routes = answer.routes.items }

-- the answers that a poll of a source for a family at a tick may give, and the state that it leaves
abbrev pub Tells : Type 0 → Type 1
Tells S = S → Family → ℕ → Option AnswerLists → S → Type 0

-- polls for families at ticks, one after the other, give no answer for this family
abbrev pub StaysSilent : {S : Type 0} → Tells S → S → Family → List (Family × ℕ) → Type 0
StaysSilent hears s family [] = ⊤
StaysSilent {S} hears s family (p ∷ polls) =
    (told : Option AnswerLists) (s' : S) → hears s p.0 p.1 told s' → (p.0 ≡ family → told ≡ None)
    × StaysSilent hears s' family polls

-- no later poll gives an answer for this family
pub record IsSilent {S : Type 0} (hears : Tells S) (s : S) (family : Family) : Type 0 where
  pub at : (polls : List (Family × ℕ)) → StaysSilent hears s family polls

-- the first of each group of members that `same` identifies, in order
abbrev pub each_once : {X : Type 0} → (X → X → Bool) → List X → List X
each_once same [] = []
each_once same (x ∷ xs) = x ∷ filter (λ other. not (same x other)) (each_once same xs)

-- the addresses that a race takes from an answer for a family: those of the family, each once, at most
-- `MAX_ADDRESSES`
abbrev pub cleaned : Family → List Ip → List Ip
cleaned family ips = take MAX_ADDRESSES (each_once same_ip (filter (is_of family) ips))

-- the addresses of the entries
abbrev pub ips_of : List Known → List Ip
ips_of known = map (λ one. one.ip) known

-- a round trip time as recorded: 0 counts as 1, and one above an hour as an hour
abbrev pub counted_rtt : ℕ → ℕ
counted_rtt rtt = max MIN_DURATION (min MAX_DURATION rtt)

abbrev pub rtt_told : Ip → Option ℕ → List (Ip × ℕ)
rtt_told ip None = []
rtt_told ip (Some rtt) = (ip, counted_rtt rtt) ∷ []

-- the known round trip times of these addresses (RFC 8305 section 4)
abbrev pub rtts_told : List Known → List Ip → List (Ip × ℕ)
rtts_told known [] = []
rtts_told known (ip ∷ ips) = rtt_told ip (known_rtt known ip) ++ rtts_told known ips

-- those of these addresses that were used before (RFC 8305 section 4)
abbrev pub used_told : List Known → List Ip → List Ip
used_told known ips = filter (known_used known) ips

-- the race with these round trip times and earlier uses appended to its history
abbrev pub with_history : Race → List (Ip × ℕ) → List Ip → Race
with_history race rtts used =
    record race { history = record { rtts = race.history.rtts ++ rtts; used = race.history.used ++ used } }

-- the race with the knowledge of these addresses added to its history
abbrev pub with_known : Race → List Known → List Ip → Race
with_known race known ips = with_history race (rtts_told known ips) (used_told known ips)

-- a source of the family that a host may have
abbrev pub is_source_of : Family → Source → Bool
is_source_of family source = is_sound_source source && is_of family source.ip

-- a route that a host may have and that serves the family: one inside ::ffff:0:0/96 serves only IPv4, any other only
-- IPv6
abbrev pub is_route_of : Family → Route → Bool
is_route_of families.V6 route = is_sound_route route && not (is_inside_mapped route.prefix)
is_route_of families.V4 route = is_sound_route route && is_inside_mapped route.prefix

-- the list, followed by the wanted members of `told` that it lacks, each once, up to `most` in all
abbrev pub with_new : {X : Type 0} → (X → X → Bool) → (X → Bool) → ℕ → List X → List X → List X
with_new same wanted most has told =
    has ++ take (most - length has) (each_once same (filter (λ x. wanted x && not (list_any (same x) has)) told))

-- the host's sources, followed by new ones of the family, each address once
abbrev pub with_sources : Family → List Source → List Source → List Source
with_sources family has told = with_new same_source (is_source_of family) SOURCES has told

-- the host's routes, followed by new ones that serve the family, each prefix once
abbrev pub with_routes : Family → List Route → List Route → List Route
with_routes family has told = with_new same_route (is_route_of family) ROUTES has told

-- the host with the answer's sources and routes of the family
abbrev pub widened : Family → AnswerLists → HostLists → HostLists
widened family answer host = record {
  sources = with_sources family host.sources answer.sources;
  routes = with_routes family host.routes answer.routes;
}

-- the race with the answer's sources and routes of the family added to its host
abbrev pub with_lines : Race → Family → AnswerLists → Race
with_lines race family answer = with_host race (widened family answer race.host)

-- the race with an answer of these addresses at the tick, with the knowledge of them, and with the answer's sources
-- and routes
abbrev pub with_heard : Race → Family → ℕ → AnswerLists → List Ip → Race
with_heard race family now answer ips =
    with_lines (with_known (with_answer race family (record { tick = now; addresses = ips })) answer.known ips) family
    answer

-- the race with what a source answers for a family in a turn at the tick: the answer counts as come at that tick
abbrev pub with_told : Race → Family → ℕ → Option AnswerLists → Race
with_told race family now None = race
with_told race family now (Some answer) = with_heard race family now answer (cleaned family (ips_of answer.known))

-- a family with an answer isn't polled; for one without, the race records the source's answer
abbrev pub HearsFrom : {S : Type 0} → Tells S → Option Reply → S → Race → Family → ℕ → S → Race → Type 0
HearsFrom hears (Some reply) s race family now s' new = (s' ≡ s) × (new ≡ race)
HearsFrom hears None s race family now s' new =
    (told : Option AnswerLists) × hears s family now told s' × (new ≡ with_told race family now told)

abbrev pub HearsOf : {S : Type 0} → Tells S → S → Race → Family → ℕ → S → Race → Type 0
HearsOf hears s race family now s' new = HearsFrom hears (reply_of race family) s race family now s' new

-- in a turn at the tick each family without an answer is polled once, IPv6 first
pub record Hears {S : Type 0} (hears : Tells S) (s : S) (race : Race) (now : ℕ) (s' : S) (new : Race) : Type 0 where
  pub between : S
  pub half : Race
  pub six : HearsOf hears s race families.V6 now between half
  pub four : HearsOf hears between half families.V4 now s' new

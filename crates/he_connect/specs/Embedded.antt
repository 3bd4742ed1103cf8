-- A race's answer for IPv6 on a machine with only IPv6 (RFC 8305 section 7): a host without IPv6 addresses is reached
-- at its IPv4 addresses, embedded by the prefixes that the answer for ipv4only.arpa. shows.
use Rattle.std.specs.Prelude.{ℕ, ◌≡◌, ◌⊎◌, ⊤, ◌==◌, Bool, true, List, Option, Some, None, Result, Ok, Err, is_some, vec_len}
use Rattle.std.specs.Global.{Vec}
use Rattle.std.specs.List.{filter_map}
use Rattle.he_addr.specs.declared.ip.Family.{Family}
use Rattle.he_addr.specs.declared.ip.Family.TheVariants as families
use Rattle.he_addr.specs.declared.ip.Ip.{Ip}
use Rattle.he_names.specs.Answers.{cleaned}
use Rattle.he_resolver.specs.Heard.{Asked, BySystem, IsSound, Listed, Origin, TellsHeard, Told, origin_of}
use Rattle.he_resolver.specs.Needs.{lookup_needs}
use Rattle.he_settings.specs.Faults.{is_absence}
use Rattle.he_settings.specs.declared.fault.NamesFault.{NamesFault}
use Rattle.he_settings.specs.declared.fault.NamesFault.TheVariants as faults
use Rattle.he_setup.specs.Answers.{IsToldOf}
use Rattle.he_setup.specs.Embedding.{embedded_ips, v4_number}
use Rattle.he_turns.specs.Heard.{AnswerLists}
use Rattle.he_connect.specs.declared.embedded.EmbeddedAnswers.{EmbeddedAnswers}
use Rattle.he_connect.specs.declared.embedded.Stage.{Stage}
use Rattle.he_connect.specs.declared.embedded.Stage.TheVariants as stages

-- ---- what look-ups give

-- a family's result by its origin: the addresses in a message's answer for one of the names, each once, or that a
-- message answers that there are none; or those among the known ones; the system's resolver may have any
abbrev pub TellsBy : Origin → Family → Told → Type 0
TellsBy (Asked names) family told = TellsHeard names family told
TellsBy (Listed known) family (Ok ips) = ips.items ≡ cleaned family known
TellsBy (Listed known) family (Err fault) = fault ≡ faults.Memory
TellsBy BySystem family told = ⊤

-- the host has no address of the family; some servers say that there is no such name if it has one of the other family
-- only (RFC 4074 section 4.2)
abbrev pub is_without : Told → Bool
is_without (Ok ips) = vec_len ips == 0
is_without (Err fault) = is_absence fault

-- so; or there is no prefix that may embed one of them, or the look-up or an allocation failed
abbrev pub IsEmbedding : List ℕ → Told → Told → Type 0
IsEmbedding hosts (Ok ips) (Ok embedded) = embedded.items ≡ embedded_ips hosts ips.items
IsEmbedding hosts (Err fault) (Ok embedded) = ⊥
IsEmbedding hosts told (Err fault) = ⊤

-- of addresses the IPv4 ones' numbers
abbrev pub IsHostsOf : Told → Result (Vec ℕ) NamesFault → Type 0
IsHostsOf (Ok ips) (Ok hosts) = hosts.items ≡ filter_map v4_number ips.items
IsHostsOf (Err fault) (Ok hosts) = ⊥
IsHostsOf told (Err fault) = ⊤

-- only the last stage has hosts to embed
abbrev pub IsLast : Stage → Type 0
IsLast (stages.Prefixes hosts) = ⊤
IsLast stage = ⊥

abbrev pub EmbedsAt : Stage → Told → Told → Type 0
EmbedsAt (stages.Prefixes hosts) told embedded = IsEmbedding hosts.items told embedded
EmbedsAt stage told (Ok embedded) = ⊥
EmbedsAt stage told (Err fault) = ⊤

-- the IPv6 look-up of a host says that it has no address
abbrev pub LacksSix : Origin → Type 0
LacksSix origin = (told : Told) × TellsBy origin families.V6 told × (is_without told ≡ true)

-- the hosts are the addresses of the IPv4 look-up
abbrev pub AreHosts : Origin → List ℕ → Type 0
AreHosts origin hosts =
    (ips : Vec Ip) × TellsBy origin families.V4 (Ok ips) × (hosts ≡ filter_map v4_number ips.items)

-- the origins of a host's IPv6 addresses, of its IPv4 addresses, and of the addresses of ipv4only.arpa.
pub record EmbeddedOrigins : Type 0 where
  pub six : Origin
  pub four : Origin
  pub prefixes : Origin

-- the host has no IPv6 address, and its IPv4 addresses are embedded
pub record IsSynthesized (origins : EmbeddedOrigins) (embedded : Vec Ip) : Type 0 where
  pub lacks : LacksSix origins.six
  pub hosts : List ℕ
  pub are : AreHosts origins.four hosts
  pub shown : Told
  pub shows : TellsBy origins.prefixes families.V6 shown
  pub is : IsEmbedding hosts shown (Ok embedded)

-- the result for IPv6: the host's own addresses, or such ones, or a fault
abbrev pub GivesSix : EmbeddedOrigins → Told → Type 0
GivesSix origins (Ok ips) = TellsBy origins.six families.V6 (Ok ips) ⊎ IsSynthesized origins ips
GivesSix origins (Err fault) = ⊤

-- IPv4 has none
abbrev pub GivesEmbedded : EmbeddedOrigins → Family → Told → Type 0
GivesEmbedded origins families.V6 told = GivesSix origins told
GivesEmbedded origins families.V4 (Ok ips) = ⊥
GivesEmbedded origins families.V4 (Err fault) = ⊤

-- ---- a poll

-- what is known once the host's IPv4 addresses, or the prefixes, are looked up
abbrev pub HasReached : EmbeddedOrigins → Stage → Type 0
HasReached origins stages.Six = ⊤
HasReached origins stages.Four = LacksSix origins.six
HasReached origins (stages.Prefixes hosts) = LacksSix origins.six × AreHosts origins.four hosts.items

module _ {R F : Type 0} where
  abbrev pub embedded_origins : EmbeddedAnswers R F → EmbeddedOrigins
  embedded_origins answers = record {
    six = origin_of answers.six.lookup.source;
    four = origin_of answers.four.lookup.source;
    prefixes = origin_of answers.prefixes.lookup.source;
  }

  pub record IsSoundEmbedded (answers : EmbeddedAnswers R F) : Type 0 where
    pub six : IsSound answers.six.lookup.source
    pub four : IsSound answers.four.lookup.source
    pub prefixes : IsSound answers.prefixes.lookup.source
    pub reached : HasReached (embedded_origins answers) answers.stage

  -- the look-up of the stage is waited for
  abbrev pub stage_needs : EmbeddedAnswers R F → Stage → ℕ → Type 0
  stage_needs answers stages.Six s = lookup_needs answers.six.lookup families.V6 s
  stage_needs answers stages.Four s = lookup_needs answers.four.lookup families.V4 s
  stage_needs answers (stages.Prefixes hosts) s = lookup_needs answers.prefixes.lookup families.V6 s

  -- IPv4 is answered at once
  abbrev pub embedded_needs : EmbeddedAnswers R F → Family → ℕ → Type 0
  embedded_needs answers families.V6 s = stage_needs answers answers.stage s
  embedded_needs answers families.V4 s = ⊥

  -- the origins of the addresses don't change, nor whether lines come with them
  pub record StaysEmbedded (old new : EmbeddedAnswers R F) : Type 0 where
    pub origins : embedded_origins new ≡ embedded_origins old
    pub brings : is_some new.six.machine ≡ is_some old.six.machine
    pub sound : IsSoundEmbedded old → IsSoundEmbedded new

-- the race's answer is made of such a result
abbrev pub IsEmbeddedAnswer : Bool → EmbeddedOrigins → Family → Option AnswerLists → Type 0
IsEmbeddedAnswer brings origins family None = ⊤
IsEmbeddedAnswer brings origins family (Some answer) =
    (told : Told) × GivesEmbedded origins family told × IsToldOf brings told answer

-- The origins of a race's answers, with or without embedded hosts.
use Rattle.std.specs.Prelude.{ℕ, ◌≡◌, ◌⊎◌, ⊤, Bool, true, false, List, [], Option, Some, None, Ok, is_some}
use Rattle.std.specs.Global.{Vec}
use Rattle.he_addr.specs.declared.ip.Family.{Family}
use Rattle.he_addr.specs.declared.ip.Family.TheVariants as families
use Rattle.he_addr.specs.declared.ip.Ip.{Ip}
use Rattle.he_resolver.specs.Begins.{BeginsFor}
use Rattle.he_resolver.specs.Heard.{IsSound, Origin, Told, origin_of}
use Rattle.he_resolver.specs.Needs.{lookup_needs}
use Rattle.he_timeline.specs.Race.{Race, Reply, reply_of}
use Rattle.he_turns.specs.Heard.{AnswerLists, cleaned as cleaned_again}
use Rattle.he_setup.specs.Answers.{IsToldOf}
use Rattle.he_setup.specs.Embedding.{known_name}
use Rattle.he_connect.specs.Answers.{ComesFrom}
use Rattle.he_connect.specs.Embedded.{EmbeddedOrigins, GivesEmbedded, IsSoundEmbedded, TellsBy, embedded_needs, embedded_origins}
use Rattle.he_connect.specs.declared.answering.RaceAnswers.{RaceAnswers}
use Rattle.he_connect.specs.declared.answering.RaceAnswers.TheVariants as answers
use Rattle.he_connect.specs.declared.lookups.EmbeddedLookups.{EmbeddedLookups}
use Rattle.he_connect.specs.declared.lookups.RaceLookups.{RaceLookups}
use Rattle.he_connect.specs.declared.lookups.RaceLookups.TheVariants as lookups
use Rattle.he_setup.specs.declared.request.ConnectRequest.{ConnectRequest}

-- both families are those of the host; or IPv6 is, or is embedded
pub data Origins : Type 0 where
  OfHost : (origin : Origin) → Origins
  OfEmbedded : (origins : EmbeddedOrigins) → Origins

-- a family's result by its origins
abbrev pub Gives : Origins → Family → Told → Type 0
Gives (OfHost origin) family told = TellsBy origin family told
Gives (OfEmbedded origins) family told = GivesEmbedded origins family told

-- ---- a poll

-- the race's answer is made of such a result
abbrev pub IsAnswerBy : Bool → Origins → Family → Option AnswerLists → Type 0
IsAnswerBy brings origins family None = ⊤
IsAnswerBy brings origins family (Some answer) =
    (told : Told) × Gives origins family told × IsToldOf brings told answer

module _ {R F : Type 0} where
  abbrev pub origins_of : RaceAnswers R F → Origins
  origins_of (answers.Host own) = OfHost (origin_of own.lookup.source)
  origins_of (answers.Embedded own) = OfEmbedded (embedded_origins own)

  abbrev pub brings_lines : RaceAnswers R F → Bool
  brings_lines (answers.Host own) = is_some own.machine
  brings_lines (answers.Embedded own) = is_some own.six.machine

  abbrev pub AreSound : RaceAnswers R F → Type 0
  AreSound (answers.Host own) = IsSound own.lookup.source
  AreSound (answers.Embedded own) = IsSoundEmbedded own

  abbrev pub answers_needs : RaceAnswers R F → Family → ℕ → Type 0
  answers_needs (answers.Host own) family s = lookup_needs own.lookup family s
  answers_needs (answers.Embedded own) family s = embedded_needs own family s

  -- a poll gives an answer by the origins, which don't change
  pub record HearsRace (old : RaceAnswers R F) (family : Family) (told : Option AnswerLists) (new : RaceAnswers R F)
      : Type 0 where
    pub origins : origins_of new ≡ origins_of old
    pub brings : brings_lines new ≡ brings_lines old
    pub sound : AreSound old → AreSound new
    pub tells : AreSound old → IsAnswerBy (brings_lines old) (origins_of new) family told

-- ---- the look-ups

module _ {R : Type 0} where
  abbrev pub lookups_origins : RaceLookups R → Origins
  lookups_origins (lookups.Host lookup) = OfHost (origin_of lookup.source)
  lookups_origins (lookups.Embedded own) = OfEmbedded (record {
    six = origin_of own.six.source;
    four = origin_of own.four.source;
    prefixes = origin_of own.prefixes.source;
  })

  abbrev pub AreSoundLookups : RaceLookups R → Type 0
  AreSoundLookups (lookups.Host lookup) = IsSound lookup.source
  AreSoundLookups (lookups.Embedded own) =
      IsSound own.six.source × IsSound own.four.source × IsSound own.prefixes.source

  -- with embedding, each family of the request's host is asked for alone, and IPv6 of ipv4only.arpa.
  pub record BeginEmbedded (request : ConnectRequest) (own : EmbeddedLookups R) : Type 0 where
    pub six : BeginsFor request.host.now request.resolver request.environment (Some families.V6) own.six.source
    pub four : BeginsFor request.host.now request.resolver request.environment (Some families.V4) own.four.source
    pub prefixes : BeginsFor known_name request.resolver request.environment (Some families.V6) own.prefixes.source

-- ---- the record

-- the origins are those for the request's host and, with embedding, for ipv4only.arpa.
abbrev pub ComesFor : Bool → ConnectRequest → Origins → Type 0
ComesFor false request (OfHost origin) = ComesFrom request.host.now request.resolver request.environment origin
ComesFor true request (OfEmbedded origins) =
    ComesFrom request.host.now request.resolver request.environment origins.six
    × ComesFrom request.host.now request.resolver request.environment origins.four
    × ComesFrom known_name request.resolver request.environment origins.prefixes
ComesFor embeds request origins = ⊥

-- there are no addresses, or those of a result, each once
abbrev pub AreBy : Origins → Family → List Ip → Type 0
AreBy origins family ips =
    (ips ≡ []) ⊎ ((told : Vec Ip) × Gives origins family (Ok told) × (ips ≡ cleaned_again family told.items))

-- a family without an answer still has none, or has such addresses
abbrev pub IsReplyBy : Origins → Family → Option Reply → Option Reply → Type 0
IsReplyBy origins family (Some given) later = ⊤
IsReplyBy origins family None None = ⊤
IsReplyBy origins family None (Some reply) = AreBy origins family reply.addresses

-- both families of a race do so
abbrev pub AnswersBy : Origins → Race → Race → Type 0
AnswersBy origins race later =
    (family : Family) → IsReplyBy origins family (reply_of race family) (reply_of later family)

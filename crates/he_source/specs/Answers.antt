-- The answers that a session's race gets: those of its host or, through its network's NAT64, those of its IPv4
-- addresses (RFC 8305 section 7).
use Rattle.std.specs.Prelude.{ℕ, ◌≡◌, Bool, true, false, List, [], Option, Some, None, IfOk, IfSome, is_some}
use Rattle.std.specs.Prelude.{string_bytes}
use Rattle.std.specs.Global.{Vec}
use Rattle.std.specs.List.{filter_map}
use Rattle.he_addr.specs.declared.ip.Family.{Family}
use Rattle.he_addr.specs.declared.ip.Family.TheVariants as families
use Rattle.he_addr.specs.declared.ip.Ip.{Ip}
use Rattle.he_setup.specs.Answers.{HearsLookup}
use Rattle.he_setup.specs.Embedding.{embedded_ips, v4_number}
use Rattle.he_setup.specs.Embedding.{known_name}
use Rattle.he_setup.specs.declared.request.ConnectRequest.{ConnectRequest}
use Rattle.he_setup.specs.declared.setup.Setup.{Setup}
use Rattle.he_setup.specs.declared.source.HostAnswers.{HostAnswers}
use Rattle.he_live.specs.declared.steps.Quiet.{Quiet}
use Rattle.he_resolver.specs.Begins.{BeginsFor}
use Rattle.he_resolver.specs.Heard.{Told}
use Rattle.he_timeline.specs.Building.{unrecorded}
use Rattle.he_timeline.specs.Race.{Race}
use Rattle.he_turns.specs.Heard.{AnswerLists, Tells, ips_of}
use Rattle.he_turns.specs.OfSource.{IsOfSource}
use Rattle.he_source.specs.Kept.{BeginsBy}
use Rattle.he_source.specs.Sources.{HearsBy, IsAsked, IsToldHere}
use Rattle.he_source.specs.declared.answering.SessionAnswers.{SessionAnswers}
use Rattle.he_source.specs.declared.answering.Stage.{Stage}
use Rattle.he_source.specs.declared.answering.Stage.TheVariants as stages
use Rattle.he_source.specs.declared.lookups.HostLookup.{HostLookup}
use Rattle.he_source.specs.declared.source.RaceSource.{RaceSource}

-- any addresses are those of these hosts, embedded by the prefixes that these addresses of ipv4only.arpa. show
abbrev pub Embeds : List ℕ → List Ip → Told → Type 0
Embeds hosts shown told = IfOk told (λ ips. ips.items ≡ embedded_ips hosts shown)

-- the source is asked for this family if the race asks for IPv6; for IPv4 it is not asked: that has no address
abbrev pub asked_as : Family → Family → Option Family
asked_as own families.V6 = Some own
asked_as own families.V4 = None

module _ {R : Type 0} where
  abbrev pub is_host : Stage R → Bool
  is_host stages.Host = true
  is_host (stages.Six four prefixes) = false
  is_host (stages.Four prefixes) = false
  is_host (stages.Prefixes hosts) = false

  -- the family that the source is asked for if the race asks for this one
  abbrev pub asked_in : Stage R → Family → Option Family
  asked_in stages.Host family = Some family
  asked_in (stages.Six four prefixes) family = asked_as families.V6 family
  asked_in (stages.Four prefixes) family = asked_as families.V4 family
  asked_in (stages.Prefixes hosts) family = asked_as families.V6 family

  -- ---- the race's answer, by that of the source; None: the source is asked for what is next

  -- the answer of the IPv6 look-up; or, if it has no address, the IPv4 addresses are next
  abbrev pub AfterSix : HostLookup R → HostLookup R → AnswerLists → Option AnswerLists → SessionAnswers R → Type 0
  AfterSix four prefixes given (Some answer) new = answer ≡ given
  AfterSix four prefixes given None new =
      (ips_of given.known ≡ []) × IsAsked four new.source × (new.stage ≡ stages.Four prefixes)

  -- no address; or the prefixes are next, for the IPv4 addresses
  abbrev pub AfterFour : HostLookup R → AnswerLists → Option AnswerLists → SessionAnswers R → Type 0
  AfterFour prefixes given (Some answer) new = ips_of answer.known ≡ []
  AfterFour prefixes given None new =
      (hosts : Vec ℕ) × (hosts.items ≡ filter_map v4_number (ips_of given.known)) × IsAsked prefixes new.source
      × (new.stage ≡ stages.Prefixes hosts)

  -- the hosts, embedded, with this machine's lines if they come with the source's answers
  abbrev pub AfterPrefixes : RaceSource R → List ℕ → AnswerLists → Option AnswerLists → Type 0
  AfterPrefixes source hosts given (Some answer) =
      (told : Told) × Embeds hosts (ips_of given.known) told × IsToldHere (is_some source.answers.machine) told answer
  AfterPrefixes source hosts given None = ⊥

  abbrev pub After : Stage R → AnswerLists → Option AnswerLists → RaceSource R → SessionAnswers R → Type 0
  After stages.Host given told source new = (told ≡ Some given) × (new.source ≡ source) × (new.stage ≡ stages.Host)
  After (stages.Six four prefixes) given told source new = AfterSix four prefixes given told new
  After (stages.Four prefixes) given told source new = AfterFour prefixes given told new
  After (stages.Prefixes hosts) given told source new = AfterPrefixes source hosts.items given told

  -- while the source has no answer, the race has none, and the stage lasts
  abbrev pub Moves : Stage R → Option AnswerLists → Option AnswerLists → RaceSource R → SessionAnswers R → Type 0
  Moves stage None told source new = (told ≡ None) × (new.source ≡ source) × (new.stage ≡ stage)
  Moves stage (Some given) told source new = After stage given told source new

  -- ---- a poll

  -- the source is polled for the family
  pub record HearsAsked (hears : Tells (RaceSource R)) (asked : Family) (old : SessionAnswers R) (now : ℕ)
      (told : Option AnswerLists) (new : SessionAnswers R) : Type 0 where
    pub heard : Option AnswerLists
    pub polled : RaceSource R
    pub is : hears old.source asked now heard polled
    pub moves : Moves old.stage heard told polled new

  abbrev pub HearsAt : Tells (RaceSource R) → Option Family → SessionAnswers R → ℕ → Option AnswerLists
      → SessionAnswers R → Type 0
  HearsAt hears (Some asked) old now told new = HearsAsked hears asked old now told new
  HearsAt hears None old now told new = (new ≡ old) × IfSome told (λ answer. ips_of answer.known ≡ [])

  abbrev pub HearsSession : Tells (RaceSource R) → Tells (SessionAnswers R)
  HearsSession hears old family now told new = HearsAt hears (asked_in old.stage family) old now told new

  abbrev pub needs_of : (RaceSource R → Family → ℕ → Type 0) → Option Family → SessionAnswers R → ℕ → Type 0
  needs_of needs (Some asked) answers s = needs answers.source asked s
  needs_of needs None answers s = ⊥

  abbrev pub session_needs : (RaceSource R → Family → ℕ → Type 0) → SessionAnswers R → Family → ℕ → Type 0
  session_needs needs answers family s = needs_of needs (asked_in answers.stage family) answers s

  -- ---- the record

  -- the look-up is that of a family of the host, as requested
  abbrev pub IsLookupFor : ConnectRequest → List ℕ → Family → HostLookup R → Type 0
  IsLookupFor request host family lookup =
      (string_bytes lookup.host ≡ host)
      × BeginsFor host request.resolver request.environment (Some family) lookup.answers.lookup.source

  -- the source begins for the request; if IPv4 hosts are embedded, for the families of the host one by one, and for
  -- IPv6 of ipv4only.arpa.
  abbrev pub BeginsIn : Bool → ConnectRequest → RaceSource R → Stage R → Type 0
  BeginsIn false request source stages.Host =
      (string_bytes source.host ≡ request.host.now) × BeginsBy request source.answers.lookup.source
  BeginsIn true request source (stages.Six four prefixes) =
      (string_bytes source.host ≡ request.host.now)
      × BeginsFor request.host.now request.resolver request.environment (Some families.V6) source.answers.lookup.source
      × IsLookupFor request request.host.now families.V4 four × IsLookupFor request known_name families.V6 prefixes
  BeginsIn embeds request source stage = ⊥

  abbrev pub IsSourceFor : Setup → SessionAnswers R → Type 0
  IsSourceFor setup answers = BeginsIn setup.embeds setup.request answers.source answers.stage

  -- what a poll of a look-up, and of a session's source, may give
  abbrev pub looked_up : Tells (HostAnswers R Quiet)
  looked_up old family now told new = HearsLookup old family told new

  abbrev pub hears_session : Tells (SessionAnswers R)
  hears_session old family now told new = HearsSession (HearsBy looked_up) old family now told new

-- the record of the race of the set-up has the answers of such a source
pub record AnswersFor (R : Type 0) (setup : Setup) (recorded : Race) : Type 0 where
  pub source : SessionAnswers R
  pub begins : IsSourceFor setup source
  pub answers : IsOfSource hears_session source (unrecorded setup.start) recorded

-- What the record of a race has of its look-up.
use Rattle.std.proofs.Common.{◌≡◌, ◌∙◌, inl, inr, refl, ap, sym, subst, ℕ, Bool, List, [], ◌∷◌, map}
use Rattle.std.specs.Prelude.{Option, Some, None, Ok, Err}
use Rattle.he_addr.specs.declared.ip.Family.{Family}
use Rattle.he_addr.specs.declared.ip.Family.TheVariants as families
use Rattle.he_addr.specs.declared.ip.Ip.{Ip}
use Rattle.he_names.specs.declared.environment.Environment.{Environment}
use Rattle.he_names.specs.declared.target.Target.{Target}
use Rattle.he_plan.specs.Agreement.{AreAlike}
use Rattle.he_turns.specs.Heard.{AnswerLists, ips_of, with_told, cleaned as cleaned_again}
use Rattle.he_turns.specs.OfSource.{HearsAll, IsOfSource, SourcePoll}
use Rattle.he_resolver.specs.Begins.{BeginsFor, BeginsWith}
use Rattle.he_resolver.specs.Heard.{Asked, BySystem, IsSound, Listed, Origin, Tells, Told, origin_of}
use Rattle.he_settings.specs.declared.choice.Choice.{Choice}
use Rattle.he_resolver.specs.declared.lookup.Lookup.{Lookup}
use Rattle.he_resolver.specs.declared.lookup.Source.{Source}
use Rattle.he_resolver.specs.declared.lookup.Source.TheVariants as sources
use Rattle.he_select.specs.Selection.{nothing_known}
use Rattle.he_timeline.specs.Building.{unrecorded}
use Rattle.he_timeline.specs.Race.{Race, Reply, reply_of}
use Rattle.he_setup.specs.Answers.{HearsLookup, IsAnswerOf, IsOfLookup}
use Rattle.he_connect.specs.Answers.{AnswersOf, AreOf, ComesFrom, IsOriginFor, IsReplyOf}
use Rattle.he_setup.specs.declared.request.ConnectRequest.{ConnectRequest}
use Rattle.he_setup.specs.declared.source.HostAnswers.{HostAnswers}

-- the answers of a record come from where those of the host of the request are to come from
pub record IsOfHost (request : ConnectRequest) (start recorded : Race) : Type 0 where
  pub origin : Origin
  pub comes : ComesFrom request.host.now request.resolver request.environment origin
  pub answers : AnswersOf origin start recorded

pub known_ips : (ips : List Ip) → ips_of (map nothing_known ips) ≡ ips
known_ips [] = refl
known_ips (ip ∷ ips) = ap (λ (more : List Ip). ip ∷ more) (known_ips ips)

pub nothing_cleaned : (family : Family) → cleaned_again family [] ≡ []
nothing_cleaned family = refl

told_one : (origin : Origin) (family : Family) (given : Option Reply) (reply : Reply) → AreOf origin family reply.addresses
    → IsReplyOf origin family given (Some reply)
told_one origin family (Some first) reply of = tt
told_one origin family None reply of = of

told_so : (origin : Origin) (start race : Race) (family : Family) (now : ℕ) (answer : AnswerLists)
    → AreOf origin family (cleaned_again family (ips_of answer.known)) → AnswersOf origin start race
    → AnswersOf origin start (with_told race family now (Some answer))
told_so origin start race families.V6 now answer of were families.V6 =
    told_one origin families.V6 start.aaaa (record { tick = now; addresses = cleaned_again families.V6 (ips_of answer.known) }) of
told_so origin start race families.V6 now answer of were families.V4 = were families.V4
told_so origin start race families.V4 now answer of were families.V6 = were families.V6
told_so origin start race families.V4 now answer of were families.V4 =
    told_one origin families.V4 start.a (record { tick = now; addresses = cleaned_again families.V4 (ips_of answer.known) }) of

itself : (origin : Origin) (family : Family) (reply : Option Reply) → IsReplyOf origin family reply reply
itself origin family None = tt
itself origin family (Some reply) = tt

none_of : (origin : Origin) (family : Family) (ips : List Ip) → ips ≡ [] → AreOf origin family ips
none_of (Asked names) family ips none = inl none
none_of (Listed known) family ips none = inl none
none_of BySystem family ips none = tt

module _ {R : Type 0} where
  -- where the addresses of what a look-up begins with come from
  origin_for : (choice : Choice) (environment : Environment) (only : Option Family) (target : Target) (source : Source R)
      → BeginsWith choice environment only target source → IsOriginFor choice environment target (origin_of source)
  origin_for choice environment only target (sources.Servers resolver) (plan, asks, faithful) = (resolver.setup.plan, plan, refl)
  origin_for choice environment only target (sources.Known known) begins = begins
  origin_for choice environment only target (sources.System query) begins = begins
  origin_for choice environment only target (sources.Told found) begins = absurd begins

  pub comes_from : (text : List ℕ) (choice : Choice) (environment : Environment) (only : Option Family) (source : Source R)
      → BeginsFor text choice environment only source → ComesFrom text choice environment (origin_of source)
  comes_from text choice environment only source (target, means, begins) =
      (target, means, origin_for choice environment only target source begins)

  -- what is told for a family
  of_known : (brings : Bool) (source : Source R) (family : Family) (told : Told) (answer : AnswerLists) → Tells source family told
      → IsAnswerOf brings told answer → AreOf (origin_of source) family (cleaned_again family (ips_of answer.known))
  of_known brings (sources.Servers resolver) family (Ok ips) answer (all, heard, same) (known, lines) =
      inr (all, heard, ap (λ (told : List Ip). cleaned_again family told) (ap ips_of known ∙ known_ips ips.items ∙ same))
  of_known brings (sources.Known known) family (Ok ips) answer same (lists, lines) =
      inr (ap (λ (told : List Ip). cleaned_again family told) (ap ips_of lists ∙ known_ips ips.items ∙ same))
  of_known brings (sources.System query) family (Ok ips) answer tells of = absurd tells
  of_known brings (sources.Told found) family (Ok ips) answer tells of = tt
  of_known brings source family (Err fault) answer tells of = absurd of

  of_answer : (brings : Bool) (source : Source R) (family : Family) (answer : AnswerLists) → IsOfLookup brings source family (Some answer)
      → AreOf (origin_of source) family (cleaned_again family (ips_of answer.known))
  of_answer brings source family answer (told, tells, inl nothing) =
      none_of (origin_of source) family _ (ap (λ (a : AnswerLists). cleaned_again family (ips_of a.known)) nothing ∙ nothing_cleaned family)
  of_answer brings source family answer (told, tells, inr of) = of_known brings source family told answer tells of

  of_poll : (brings : Bool) (source : Source R) (start race : Race) (family : Family) (now : ℕ) (told : Option AnswerLists)
      → IsOfLookup brings source family told → AnswersOf (origin_of source) start race
      → AnswersOf (origin_of source) start (with_told race family now told)
  of_poll brings source start race family now None of were = were
  of_poll brings source start race family now (Some answer) of were =
      told_so (origin_of source) start race family now answer (of_answer brings source family answer of) were

pub replies_alike : (x y : Race) → AreAlike x y → (family : Family) → reply_of y family ≡ reply_of x family
replies_alike x y alike families.V6 = ap (λ (r : Race). r.aaaa) alike
replies_alike x y alike families.V4 = ap (λ (r : Race). r.a) alike

module _ {R F : Type 0} where
  abbrev hears : HostAnswers R F → Family → ℕ → Option AnswerLists → HostAnswers R F → Type 0
  hears old family now told new = HearsLookup old family told new

  of_polls : (start : Race) (s : HostAnswers R F) (race : Race) (polls : List SourcePoll) (last : HostAnswers R F) (later : Race)
      → HearsAll hears s race polls last later → IsSound s.lookup.source
      → AnswersOf (origin_of s.lookup.source) start race → AnswersOf (origin_of s.lookup.source) start later
  of_polls start s race [] last later (same, is) sound were =
      subst (λ (r : Race). AnswersOf (origin_of s.lookup.source) start r) (sym is) were
  of_polls start s race (p ∷ polls) last later (between, first, heard, more) sound were =
      let before : AnswersOf (origin_of between.lookup.source) start race =
      subst (λ (origin : Origin). AnswersOf origin start race) (sym heard.origin) were in
      subst (λ (origin : Origin). AnswersOf origin start later) heard.origin
      (of_polls start between (with_told race p.family p.tick p.told) polls last later more (heard.sound sound)
      (of_poll _ between.lookup.source start race p.family p.tick p.told (heard.tells sound) before))

  -- the record of a race whose answers are those of a look-up
  of_lookup : (start : Race) (s : HostAnswers R F) (recorded : Race) → IsOfSource hears s (unrecorded start) recorded
      → IsSound s.lookup.source → AnswersOf (origin_of s.lookup.source) start recorded
  of_lookup start s recorded of sound family =
      let first : AnswersOf (origin_of s.lookup.source) start (unrecorded start) =
      λ f. itself (origin_of s.lookup.source) f (reply_of start f) in
      subst (λ (reply : Option Reply). IsReplyOf (origin_of s.lookup.source) family (reply_of start family) reply)
      (sym (replies_alike of.heard recorded of.alike family))
      (of_polls start s (unrecorded start) of.polls of.last of.heard of.polled sound first family)

  pub of_host : (request : ConnectRequest) (only : Option Family) (start recorded : Race) (lookup : Lookup R) (s : HostAnswers R F) → s.lookup ≡ lookup
      → BeginsFor request.host.now request.resolver request.environment only lookup.source → IsSound lookup.source → IsOfSource hears s (unrecorded start) recorded
      → IsOfHost request start recorded
  of_host request only start recorded lookup s same begins sound of = record {
    origin = origin_of s.lookup.source;
    comes = comes_from request.host.now request.resolver request.environment only s.lookup.source
        (subst (λ (l : Lookup R). BeginsFor request.host.now request.resolver request.environment only l.source) (sym same) begins);
    answers = of_lookup start s recorded of (subst (λ (l : Lookup R). IsSound l.source) (sym same) sound);
  }

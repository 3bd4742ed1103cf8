-- What the record of a race has of its look-ups, with or without embedded hosts.
use Rattle.std.proofs.Common.{◌≡◌, ◌∙◌, inl, inr, ap, sym, subst, ℕ, Bool, true, false, List, [], ◌∷◌, is_some, true≢false}
use Rattle.std.specs.Prelude.{Option, Some, None, Ok, Err}
use Rattle.std.specs.Global.{Vec}
use Rattle.futures.specs.Poll.{IfReady, OnPending}
use Rattle.futures.specs.Task.{Covers}
use Rattle.futures.specs.declared.task.Poll.{Poll}
use Rattle.futures.specs.declared.task.Poll.TheVariants.{Ready, Pending}
use Rattle.futures.specs.declared.task.context.Context.{Context}
use Rattle.he_addr.specs.declared.ip.Family.{Family}
use Rattle.he_addr.specs.declared.ip.Family.TheVariants as families
use Rattle.he_addr.specs.declared.ip.Ip.{Ip}
use Rattle.he_resolver.specs.Begins.{BeginsFor}
use Rattle.he_resolver.specs.Heard.{IsSound, Tells, Told, origin_of}
use Rattle.he_resolver.specs.declared.lookup.Lookup.{Lookup}
use Rattle.he_resolver.specs.declared.lookup.Source.{Source}
use Rattle.he_resolver.specs.declared.lookup.Source.TheVariants as sources
use Rattle.he_timeline.specs.Building.{unrecorded}
use Rattle.he_timeline.specs.Race.{Race, Reply, reply_of}
use Rattle.he_turns.specs.declared.answers.Answer.{Answer}
use Rattle.he_turns.specs.Heard.{AnswerLists, ips_of, lists_of, with_told, cleaned as cleaned_again}
use Rattle.he_turns.specs.OfSource.{HearsAll, IsOfSource, SourcePoll}
use Rattle.he_connect.specs.Embedded.{EmbeddedOrigins, EmbedsAt, GivesSix, HasReached, IsEmbeddedAnswer, IsHostsOf, IsSoundEmbedded, LacksSix, StaysEmbedded, TellsBy, embedded_origins}
use Rattle.he_connect.specs.Origins.{AnswersBy, AreBy, AreSound, BeginEmbedded, ComesFor, HearsRace, IsAnswerBy, IsReplyBy, Origins, OfEmbedded, answers_needs, lookups_origins, origins_of}
use Rattle.he_setup.specs.Embedding.{known_name}
use Rattle.he_connect.specs.declared.answering.RaceAnswers.{RaceAnswers}
use Rattle.he_connect.specs.declared.answering.RaceAnswers.TheVariants as answers
use Rattle.he_connect.specs.declared.embedded.EmbeddedAnswers.{EmbeddedAnswers}
use Rattle.he_connect.specs.declared.embedded.Stage.{Stage}
use Rattle.he_connect.specs.declared.embedded.Stage.TheVariants as stages
use Rattle.he_connect.specs.declared.lookups.EmbeddedLookups.{EmbeddedLookups}
use Rattle.he_connect.specs.declared.lookups.RaceLookups.{RaceLookups}
use Rattle.he_connect.specs.declared.lookups.RaceLookups.TheVariants as lookups
use Rattle.he_setup.specs.declared.request.ConnectRequest.{ConnectRequest}
use Rattle.he_connect.proofs.Heard.{comes_from, known_ips, nothing_cleaned, replies_alike}

-- ---- what look-ups give

module _ {R : Type 0} where
  -- what a look-up tells comes from its origin
  pub tells_by : (source : Source R) (family : Family) (told : Told) → Tells source family told
      → TellsBy (origin_of source) family told
  tells_by (sources.Servers resolver) family told tells = tells
  tells_by (sources.Known known) family (Ok ips) tells = tells
  tells_by (sources.Known known) family (Err fault) tells = tells
  tells_by (sources.System query) family told tells = absurd tells
  tells_by (sources.Told found) family told tells = tt

pub gives_embedded : (origins : EmbeddedOrigins) (stage : Stage) (shown embedded : Told) → HasReached origins stage
    → TellsBy origins.prefixes families.V6 shown → EmbedsAt stage shown embedded → GivesSix origins embedded
gives_embedded origins (stages.Prefixes hosts) shown (Ok embedded) (lacks, are) shows is = inr (record {
  lacks = lacks;
  hosts = hosts.items;
  are = are;
  shown = shown;
  shows = shows;
  is = is;
})
gives_embedded origins stages.Six shown (Ok embedded) reached shows is = absurd is
gives_embedded origins stages.Four shown (Ok embedded) reached shows is = absurd is
gives_embedded origins stage shown (Err fault) reached shows is = tt

-- the IPv4 look-up gives hosts for the last stage
pub reaches_last : (origins : EmbeddedOrigins) (told : Told) (hosts : Vec ℕ) → LacksSix origins.six
    → TellsBy origins.four families.V4 told → IsHostsOf told (Ok hosts) → HasReached origins (stages.Prefixes hosts)
reaches_last origins (Ok ips) hosts lacks tells are = (lacks, (ips, tells, are))
reaches_last origins (Err fault) hosts lacks tells are = absurd are

-- ---- a poll

-- the addresses that the race takes from an answer
are_taken : (brings : Bool) (origins : Origins) (family : Family) (answer : AnswerLists)
    → IsAnswerBy brings origins family (Some answer) → AreBy origins family (cleaned_again family (ips_of answer.known))
are_taken brings origins family answer (told, gives, inl nothing) =
    inl (ap (λ (a : AnswerLists). cleaned_again family (ips_of a.known)) nothing ∙ nothing_cleaned family)
are_taken brings origins family answer (Ok ips, gives, inr (known, lines)) =
    inr (ips, gives, ap (λ (xs : List Ip). cleaned_again family xs) (ap ips_of known ∙ known_ips ips.items))
are_taken brings origins family answer (Err fault, gives, inr of) = absurd of

told_one : (origins : Origins) (family : Family) (given : Option Reply) (reply : Reply)
    → AreBy origins family reply.addresses → IsReplyBy origins family given (Some reply)
told_one origins family (Some first) reply of = tt
told_one origins family None reply of = of

told_so : (origins : Origins) (start race : Race) (family : Family) (now : ℕ) (answer : AnswerLists)
    → AreBy origins family (cleaned_again family (ips_of answer.known)) → AnswersBy origins start race
    → AnswersBy origins start (with_told race family now (Some answer))
told_so origins start race families.V6 now answer of were families.V6 =
    told_one origins families.V6 start.aaaa (record { tick = now; addresses = cleaned_again families.V6 (ips_of answer.known) }) of
told_so origins start race families.V6 now answer of were families.V4 = were families.V4
told_so origins start race families.V4 now answer of were families.V6 = were families.V6
told_so origins start race families.V4 now answer of were families.V4 =
    told_one origins families.V4 start.a (record { tick = now; addresses = cleaned_again families.V4 (ips_of answer.known) }) of

itself : (origins : Origins) (family : Family) (reply : Option Reply) → IsReplyBy origins family reply reply
itself origins family None = tt
itself origins family (Some reply) = tt

of_poll : (brings : Bool) (origins : Origins) (start race : Race) (family : Family) (now : ℕ) (told : Option AnswerLists)
    → IsAnswerBy brings origins family told → AnswersBy origins start race
    → AnswersBy origins start (with_told race family now told)
of_poll brings origins start race family now None of were = were
of_poll brings origins start race family now (Some answer) of were =
    told_so origins start race family now answer (are_taken brings origins family answer of) were

by_embedded : (brings : Bool) (origins : EmbeddedOrigins) (family : Family) (told : Option AnswerLists)
    → IsEmbeddedAnswer brings origins family told → IsAnswerBy brings (OfEmbedded origins) family told
by_embedded brings origins family None of = tt
by_embedded brings origins family (Some answer) of = of

module _ {R F : Type 0} where
  -- a poll leaves the three look-ups with their origins, and what is known at its stage
  pub stays : (old new : EmbeddedAnswers R F) → origin_of new.six.lookup.source ≡ origin_of old.six.lookup.source
      → origin_of new.four.lookup.source ≡ origin_of old.four.lookup.source
      → origin_of new.prefixes.lookup.source ≡ origin_of old.prefixes.lookup.source
      → is_some new.six.machine ≡ is_some old.six.machine
      → (IsSound old.six.lookup.source → IsSound new.six.lookup.source)
      → (IsSound old.four.lookup.source → IsSound new.four.lookup.source)
      → (IsSound old.prefixes.lookup.source → IsSound new.prefixes.lookup.source)
      → (IsSoundEmbedded old → HasReached (embedded_origins new) new.stage) → StaysEmbedded old new
  stays old new six four prefixes brings sound_six sound_four sound_prefixes reached = record {
    origins = cc (six, four, prefixes);
    brings = brings;
    sound = λ sound. record {
      six = sound_six sound.six;
      four = sound_four sound.four;
      prefixes = sound_prefixes sound.prefixes;
      reached = reached sound;
    };
  }

  -- what is known of the first stages comes from the origins alone
  pub same_reach : (old new : EmbeddedAnswers R F) (stage : Stage) → embedded_origins new ≡ embedded_origins old
      → HasReached (embedded_origins old) stage → HasReached (embedded_origins new) stage
  same_reach old new stage same reached = subst (λ (o : EmbeddedOrigins). HasReached o stage) (sym same) reached

  hears_embedded : (old : EmbeddedAnswers R F) (family : Family) (told : Option AnswerLists) (new : EmbeddedAnswers R F)
      → StaysEmbedded old new → (IsSoundEmbedded old → IsEmbeddedAnswer (is_some old.six.machine) (embedded_origins new) family told)
      → HearsRace (answers.Embedded old) family told (answers.Embedded new)
  hears_embedded old family told new stays tells = record {
    origins = ap (λ (o : EmbeddedOrigins). OfEmbedded o) stays.origins;
    brings = stays.brings;
    sound = stays.sound;
    tells = λ sound. by_embedded (is_some old.six.machine) (embedded_origins new) family told (tells sound);
  }

  -- what a poll leaves, by its result
  embedded_pending : (old new : EmbeddedAnswers R F) (family : Family) (result : Poll Answer) → StaysEmbedded old new
      → OnPending result (HearsRace (answers.Embedded old) family None (answers.Embedded new))
  embedded_pending old new family Pending stays = hears_embedded old family None new stays (λ sound. tt)
  embedded_pending old new family (Ready answer) stays = tt

  pub pending_so : (s : RaceAnswers R F) (old new : EmbeddedAnswers R F) (family : Family) (result : Poll Answer)
      → s ≡ answers.Embedded old → StaysEmbedded old new
      → OnPending result (HearsRace s family None (answers.Embedded new))
  pending_so s old new family result is stays =
      subst (λ (a : RaceAnswers R F). OnPending result (HearsRace a family None (answers.Embedded new))) (sym is)
      (embedded_pending old new family result stays)

  embedded_ready : (old new : EmbeddedAnswers R F) (family : Family) (result : Poll Answer) → StaysEmbedded old new
      → IfReady result (λ answer. IsSoundEmbedded old → IsEmbeddedAnswer (is_some old.six.machine) (embedded_origins new) family
      (Some (lists_of answer)))
      → IfReady result (λ answer. HearsRace (answers.Embedded old) family (Some (lists_of answer)) (answers.Embedded new))
  embedded_ready old new family Pending stays tells = tt
  embedded_ready old new family (Ready answer) stays tells = hears_embedded old family (Some (lists_of answer)) new stays tells

  pub ready_so : (s : RaceAnswers R F) (old new : EmbeddedAnswers R F) (family : Family) (result : Poll Answer)
      → s ≡ answers.Embedded old → StaysEmbedded old new
      → IfReady result (λ answer. IsSoundEmbedded old → IsEmbeddedAnswer (is_some old.six.machine) (embedded_origins new) family
      (Some (lists_of answer)))
      → IfReady result (λ answer. HearsRace s family (Some (lists_of answer)) (answers.Embedded new))
  ready_so s old new family result is stays tells =
      subst (λ (a : RaceAnswers R F). IfReady result (λ answer. HearsRace a family (Some (lists_of answer)) (answers.Embedded new)))
      (sym is) (embedded_ready old new family result stays tells)

  -- what the answers wait for, by the look-up
  pub covers_so : (cx : Context) (s own : RaceAnswers R F) (family : Family) → s ≡ own → Covers cx (answers_needs s family)
      → Covers cx (answers_needs own family)
  covers_so cx s own family is covers = subst (λ (a : RaceAnswers R F). Covers cx (answers_needs a family)) is covers

  abbrev hears : RaceAnswers R F → Family → ℕ → Option AnswerLists → RaceAnswers R F → Type 0
  hears old family now told new = HearsRace old family told new

  of_polls : (start : Race) (s : RaceAnswers R F) (race : Race) (polls : List SourcePoll) (last : RaceAnswers R F) (later : Race)
      → HearsAll hears s race polls last later → AreSound s → AnswersBy (origins_of s) start race
      → AnswersBy (origins_of s) start later
  of_polls start s race [] last later (same, is) sound were = subst (λ (r : Race). AnswersBy (origins_of s) start r) (sym is) were
  of_polls start s race (p ∷ polls) last later (between, first, heard, more) sound were =
      let before : AnswersBy (origins_of between) start race =
      subst (λ (o : Origins). AnswersBy o start race) (sym heard.origins) were in
      subst (λ (o : Origins). AnswersBy o start later) heard.origins
      (of_polls start between (with_told race p.family p.tick p.told) polls last later more (heard.sound sound)
      (of_poll _ (origins_of between) start race p.family p.tick p.told (heard.tells sound) before))

  -- the record of a race whose answers are those of its look-ups
  pub of_answers : (start : Race) (s : RaceAnswers R F) (recorded : Race) → IsOfSource hears s (unrecorded start) recorded
      → AreSound s → AnswersBy (origins_of s) start recorded
  of_answers start s recorded of sound family =
      let first : AnswersBy (origins_of s) start (unrecorded start) = λ f. itself (origins_of s) f (reply_of start f) in
      subst (λ (reply : Option Reply). IsReplyBy (origins_of s) family (reply_of start family) reply)
      (sym (replies_alike of.heard recorded of.alike family))
      (of_polls start s (unrecorded start) of.polls of.last of.heard of.polled sound first family)

  -- ---- the start

  -- what the answers of look-ups come from
  pub comes_as : (embeds : Bool) (request : ConnectRequest) (begun : RaceLookups R) (own : RaceAnswers R F)
      → origins_of own ≡ lookups_origins begun → ComesFor embeds request (lookups_origins begun)
      → ComesFor embeds request (origins_of own)
  comes_as embeds request begun own same comes = subst (λ (o : Origins). ComesFor embeds request o) (sym same) comes

module _ {R : Type 0} where
  pub comes_host : (embeds : Bool) (request : ConnectRequest) (only : Option Family) (lookup : Lookup R) → embeds ≡ false
      → BeginsFor request.host.now request.resolver request.environment only lookup.source
      → ComesFor embeds request (lookups_origins (lookups.Host lookup))
  comes_host true request only lookup not begins = absurd (true≢false not)
  comes_host false request only lookup not begins =
      comes_from request.host.now request.resolver request.environment only lookup.source begins

  pub comes_embedded : (embeds : Bool) (request : ConnectRequest) (begun : EmbeddedLookups R) → embeds ≡ true
      → BeginEmbedded request begun → ComesFor embeds request (lookups_origins (lookups.Embedded begun))
  comes_embedded false request begun is begins = absurd (true≢false (sym is))
  comes_embedded true request begun is begins = (
    comes_from request.host.now request.resolver request.environment (Some families.V6) begun.six.source begins.six,
    comes_from request.host.now request.resolver request.environment (Some families.V4) begun.four.source begins.four,
    comes_from known_name request.resolver request.environment (Some families.V6) begun.prefixes.source begins.prefixes,
  )

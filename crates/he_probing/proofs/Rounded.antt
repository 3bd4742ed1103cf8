-- What a round comes to.
use Rattle.std.proofs.Common.{◌≡◌, ◌≤◌, ◌∙◌, ℕ, Bool, true, false, List, [], ◌∷◌, Option, Some, None, Result, Ok, Err, IfOk, ap, map, refl, subst, sym, true≢false}
use Rattle.std.proofs.lemmas.List.{append-nil}
use Rattle.std.specs.Prelude.{IsErr, if◌then◌else◌, not}
use Rattle.std.specs.Global.{Global}
use Rattle.he_addr.specs.declared.ip.Family.{Family}
use Rattle.he_addr.specs.declared.ip.Family.TheVariants as families
use Rattle.he_addr.specs.declared.ip.Ip.{Ip}
use Rattle.he_setup.specs.Embedding.{MayEmbed}
use Rattle.he_connect.specs.Origins.{AnswersBy, ComesFor, Origins}
use Rattle.he_setup.specs.Races.{IsSetUp}
use Rattle.he_setup.specs.Start.{with_families}
use Rattle.he_setup.specs.declared.fault.ConnectFault.{ConnectFault}
use Rattle.he_setup.specs.declared.request.ConnectRequest.{ConnectRequest}
use Rattle.he_setup.specs.declared.request.Families.{Families}
use Rattle.he_setup.specs.declared.request.Families.TheVariants as tried
use Rattle.he_setup.specs.declared.setup.Setup.{Setup}
use Rattle.he_course.specs.Addresses.{all_attributes_of, preferred}
use Rattle.he_course.specs.Course.{IsCourse}
use Rattle.he_course.specs.declared.course.Course.{Course}
use Rattle.he_course.specs.declared.addresses.Preferred.{Preferred}
use Rattle.he_plan.specs.Agreement.{AreAlike}
use Rattle.he_probe.specs.declared.probe.ProbeRow.{ProbeRow}
use Rattle.he_probe.specs.Probing.{row_ip}
use Rattle.he_timeline.specs.Building.{add_outcome, unrecorded, with_outcome}
use Rattle.he_timeline.specs.Race.{Race, Reply, has_outcome, is_in_answer, reply_of}
use Rattle.he_timeline.specs.Timeline.{duration_of, is_duration}
use Rattle.he_timeline.specs.Settings.{SettingValues}
use Rattle.he_timeline.specs.declared.builder.BuildFault.TheVariants as faults
use Rattle.he_timeline.specs.declared.outcome.Outcome.{Outcome}
use Rattle.he_turns.proofs.Heard.{given-alike, given-itself, given-later}
use Rattle.he_turns.specs.Gathering.{IsGatheredFrom}
use Rattle.he_turns.specs.Heard.{AnswerLists, Tells, with_told}
use Rattle.he_turns.specs.OfSource.{HearsAll, IsOfSource, SourcePoll}
use Rattle.he_turns.specs.Resolving.{BeginsWith, KeepsAnswer, KeepsGiven}
use Rattle.he_probing.specs.Recorded.{made_or, with_known_outcome, with_probe, with_probes}
use Rattle.he_probing.specs.Rounds.{IsInRange, IsJudged, IsRound, IsRoundFrom}
use Rattle.he_probing.specs.Rows.{ip_of, preferred_ip, probe_of}
use Rattle.he_probing.specs.declared.request.RoundRequest.{RoundRequest}
use Rattle.he_probing.specs.declared.round.Round.{Round}
use Rattle.he_probing.specs.declared.rows.AddressRow.{AddressRow}

-- ---- the outcomes of probes alone are added

alike_itself : (race : Race) → AreAlike race race
alike_itself race = refl

alike_later : (x y z : Race) → AreAlike x y → AreAlike y z → AreAlike x z
alike_later x y z h k = k ∙ ap (λ (r : Race). record r { outcomes = z.outcomes; pauses = z.pauses }) h

alike_made : (race : Race) (ip : Ip) (outcome : Outcome) → AreAlike race (made_or race (add_outcome ip outcome race))
alike_made race ip outcome = by (not (is_duration (duration_of outcome))) (not (is_in_answer race ip)) (has_outcome ip race.outcomes)
  where
    by : (out stranger repeated : Bool) → AreAlike race (made_or race
        (if out then Err faults.Range else if stranger then Err faults.Stranger else if repeated then Err faults.Repeated else Ok (with_outcome race ip outcome)))
    by true stranger repeated = refl
    by false true repeated = refl
    by false false true = refl
    by false false false = refl

alike_known : (race : Race) (probe : ProbeRow) (outcome : Option Outcome) → AreAlike race (with_known_outcome race probe outcome)
alike_known race probe None = refl
alike_known race probe (Some outcome) = alike_made race probe.ip outcome

alike_probes : (race : Race) (probes : List ProbeRow) → AreAlike race (with_probes race probes)
alike_probes race [] = refl
alike_probes race (probe ∷ probes) =
    alike_later race (with_probe race probe) (with_probes (with_probe race probe) probes) (alike_known race probe probe.outcome)
    (alike_probes (with_probe race probe) probes)

-- ---- the start is kept

same_first : {X : Type 0} (xs : List X) → BeginsWith xs xs
same_first xs = record { more = []; is = sym (append-nil xs) }

keeps_none : (reply later : Option Reply) → reply ≡ None → KeepsAnswer reply later
keeps_none None later e = tt
keeps_none (Some reply) later e =
    let no : ◌≡◌ {A = Option Reply} (Some reply) None = e in cc

keeps_same : (reply : Option Reply) → KeepsAnswer reply reply
keeps_same None = tt
keeps_same (Some reply) = refl

told_kept : (race : Race) (family : Family) (now : ℕ) (told : Option AnswerLists) → reply_of race family ≡ None
    → KeepsGiven race (with_told race family now told)
told_kept race family now None none = given-itself race
told_kept race families.V6 now (Some answer) none = record {
  settings = refl;
  policy = refl;
  host = record { sources = record { more = _; is = refl }; routes = record { more = _; is = refl } };
  history = record { rtts = record { more = _; is = refl }; used = record { more = _; is = refl } };
  aaaa = keeps_none race.aaaa _ none;
  a = keeps_same race.a;
}
told_kept race families.V4 now (Some answer) none = record {
  settings = refl;
  policy = refl;
  host = record { sources = record { more = _; is = refl }; routes = record { more = _; is = refl } };
  history = record { rtts = record { more = _; is = refl }; used = record { more = _; is = refl } };
  aaaa = keeps_same race.aaaa;
  a = keeps_none race.a _ none;
}

module _ {S : Type 0} (hears : Tells S) where
  polls_kept : (s : S) (race : Race) (polls : List SourcePoll) (last : S) (new : Race) → HearsAll hears s race polls last new → KeepsGiven race new
  polls_kept s race [] last new (same, is) = subst (KeepsGiven race) (sym is) (given-itself race)
  polls_kept s race (p ∷ polls) last new (between, none, heard, more) =
      given-later race (with_told race p.family p.tick p.told) new (told_kept race p.family p.tick p.told none)
      (polls_kept between (with_told race p.family p.tick p.told) polls last new more)

  pub start_kept : (s : S) (start gathered : Race) (probes : List ProbeRow) → IsGatheredFrom hears s (unrecorded start) gathered
      → KeepsGiven start (with_probes (unrecorded gathered) probes)
  start_kept s start gathered probes from =
      given-later start (unrecorded start) (with_probes (unrecorded gathered) probes) (given-alike start (unrecorded start) refl)
      (given-later (unrecorded start) gathered (with_probes (unrecorded gathered) probes)
      (polls_kept s (unrecorded start) from.polls from.last gathered from.polled)
      (given-alike gathered (with_probes (unrecorded gathered) probes) (alike_later gathered (unrecorded gathered) _ refl (alike_probes (unrecorded gathered) probes))))

  -- the record is the source's answers too
  pub recorded_of : (s : S) (start gathered : Race) (probes : List ProbeRow) → IsGatheredFrom hears s (unrecorded start) gathered
      → IsOfSource hears s (unrecorded start) (with_probes (unrecorded gathered) probes)
  recorded_of s start gathered probes from = record {
    polls = from.polls;
    last = from.last;
    heard = gathered;
    polled = from.polled;
    alike = alike_later gathered (unrecorded gathered) _ refl (alike_probes (unrecorded gathered) probes);
  }

-- ---- the rows

preferred_alike : (x y : Race) → AreAlike x y → preferred y ≡ preferred x
unfolding all_attributes_of
preferred_alike x y alike = ap (λ (r : Race). preferred r) alike

ips_of_probes : (rows : List AddressRow) → map row_ip (map probe_of rows) ≡ map ip_of rows
ips_of_probes [] = refl
ips_of_probes (row ∷ rows) = ap (λ (ips : List Ip). row.ip ∷ ips) (ips_of_probes rows)

-- what a round comes to
pub round-of : (embeds by_nat64 : Bool) (request : ConnectRequest) (origins : Origins) (start gathered recorded : Race) (first : Course Global) (probes : List ProbeRow) (ips : List Ip) (rows : List AddressRow)
    (result : Result Round ConnectFault)
    → recorded ≡ with_probes (unrecorded gathered) probes → KeepsGiven start (with_probes (unrecorded gathered) probes)
    → ComesFor embeds request origins → AnswersBy origins start (with_probes (unrecorded gathered) probes) → (by_nat64 ≡ true → embeds ≡ true) → IsCourse gathered 1 1 first → ips ≡ map preferred_ip first.addresses.items
    → map row_ip probes ≡ ips → map probe_of rows ≡ probes → IfOk result (IsJudged by_nat64 request recorded rows)
    → IfOk result (IsRoundFrom embeds request start)
round-of embeds by_nat64 request origins start gathered recorded first probes ips rows (Ok round) is kept comes answers only course addresses same made judged =
    let alike : AreAlike gathered recorded =
    subst (AreAlike gathered) (sym is) (alike_later gathered (unrecorded gathered) _ refl (alike_probes (unrecorded gathered) probes)) in
    let own : map probe_of round.rows.items ≡ probes = ap (λ (r : List AddressRow). map probe_of r) judged.rows_are ∙ made in
    record {
      gathered = gathered;
      recorded = recorded;
      is = is ∙ ap (λ (p : List ProbeRow). with_probes (unrecorded gathered) p) (sym own);
      kept = subst (KeepsGiven start) (sym is) kept;
      origins = origins;
      comes = comes;
      answers = subst (AnswersBy origins start) (sym is) answers;
      addresses =
          sym (ips_of_probes round.rows.items) ∙ ap (λ (p : List ProbeRow). map row_ip p) own ∙ same ∙ addresses
          ∙ ap (λ (p : List Preferred). map preferred_ip p) (course.addresses ∙ sym (preferred_alike gathered recorded alike) ∙ sym judged.course.addresses);
      by_nat64 = by_nat64;
      only = only;
      judged = subst (λ (r : List AddressRow). IsJudged by_nat64 request recorded r round) (sym judged.rows_are) judged;
    }
round-of embeds by_nat64 request origins start gathered recorded first probes ips rows (Err fault) is kept comes answers only course addresses same made judged = tt

-- a fault has no results
pub if_fault : {A E : Type 0} (result : Result A E) (Wanted : A → Type 0) → IsErr result → IfOk result Wanted
if_fault (Ok x) Wanted fault = absurd (true≢false (sym fault))
if_fault (Err e) Wanted fault = tt

-- ---- the request

settings_with : (tried : Families) (race : Race) → (with_families tried race).settings ≡ race.settings
settings_with tried.Both race = refl
settings_with (tried.Only families.V6) race = refl
settings_with (tried.Only families.V4) race = refl

pub asked-so : (request : RoundRequest) (setup : Setup) (result : Result Round ConnectFault) → IsInRange request → IsSetUp request.connect setup
    → MayEmbed setup.embeds request.connect → IfOk result (IsRoundFrom setup.embeds setup.request setup.start) → IfOk result (IsRound request)
asked-so request setup (Ok round) ranges is may from =
    let own : IsRoundFrom setup.embeds (record request.connect { families = is.tried }) setup.start round =
    subst (λ (r : ConnectRequest). IsRoundFrom setup.embeds r setup.start round) is.same from in
    let started : setup.start.settings ≡ request.connect.settings =
    ap (λ (r : Race). r.settings) is.begins.starts.start ∙ settings_with is.tried _ in
    record {
      tried = is.tried;
      start = setup.start;
      to = setup.to;
      begins = is.begins;
      embeds = setup.embeds;
      chosen = may;
      from = own;
      limit = subst (λ (s : SettingValues). s.limit ≤ request.timeout) (sym (own.kept.settings ∙ started)) ranges.limit;
    }
asked-so request setup (Err fault) ranges is may from = tt

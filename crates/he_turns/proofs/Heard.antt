-- What a race that is being run is once answers have come in a turn.
use Rattle.std.proofs.Common.{◌≡◌, ℕ, ◌+◌, ◌≤◌, ◌∙◌, ◌++◌, true, false, List, [], ◌∷◌, Option, Some, None, IfSome, refl, sym, ap, subst, arith, inl, inr}
use Rattle.std.specs.List.{All}
use Rattle.std.proofs.lemmas.Bool.{cases_lt}
use Rattle.std.proofs.lemmas.List.{append_assoc, append-nil}
use Rattle.std.proofs.lemmas.List.Elements.{All-weaker}
use Rattle.he_addr.specs.declared.ip.Family.{Family}
use Rattle.he_addr.specs.declared.ip.Family.TheVariants as families
use Rattle.he_addr.specs.declared.ip.Ip.{Ip}
use Rattle.he_plan.specs.declared.attempts.Attempt.{Attempt}
use Rattle.he_select.specs.Hosts.{HostLists}
use Rattle.he_timeline.specs.declared.outcome.Outcome.{Outcome}
use Rattle.he_timeline.specs.declared.outcome.Outcome.TheVariants as outcomes
use Rattle.he_plan.specs.Agreement.{AreAlike}
use Rattle.he_plan.specs.Attempts.{MayStart}
use Rattle.he_timeline.specs.Seen.{is_paused}
use Rattle.he_timeline.specs.Building.{with_answer}
use Rattle.he_timeline.specs.Race.{History, outcome_in, outcome_of, Race, Reply, reply_of}
use Rattle.he_timeline.specs.Timeline.{IsRace}
use Rattle.he_timeline.proofs.Bools.{le_test}
use Rattle.he_turns.specs.Heard.{AnswerLists, Hears, HearsFrom, HearsOf, IsSilent, StaysSilent, Tells, cleaned, ips_of, rtts_told, used_told, widened, with_heard, with_told}
use Rattle.he_turns.specs.Kept.{InTurn, taken, taken_of}
use Rattle.he_turns.specs.Recording.{EndedBy}
use Rattle.he_turns.specs.Resolving.{BeginsWith, KeepsAnswer, KeepsGiven, KeepsHistory, KeepsHost}
use Rattle.he_plan.proofs.Later.{attempts-before, starts-before}
use Rattle.he_turns.proofs.Widening.{more_routes, more_sources}
use Rattle.he_turns.proofs.Recorded.{all_before}

module _ (race : Race) (reply : Reply) (xs : List Attempt) (t : InTurn race reply.tick xs false) where
  taken_new : taken_of (Some reply.tick) (Some reply) ≡ 1
  taken_new = rw (le_test reply.tick reply.tick (omega arith)) refl

  -- one more answer is taken
  taken_more : (family : Family) → reply_of race family ≡ None → taken (Some reply.tick) (with_answer race family reply) ≡ taken (Some reply.tick) race + 1
  taken_more families.V6 none =
      let was : taken_of (Some reply.tick) race.aaaa ≡ 0 = ap (taken_of (Some reply.tick)) none in
      omega (arith, was, taken_new)
  taken_more families.V4 none =
      let was : taken_of (Some reply.tick) race.a ≡ 0 = ap (taken_of (Some reply.tick)) none in
      omega (arith, was, taken_new)

  ended_as : (new : Race) → new.pauses ≡ race.pauses → new.outcomes ≡ race.outcomes → All (λ (x : Attempt). IfSome (outcome_of new x.ip) (EndedBy new reply.tick false x)) xs
  ended_as new pauses told = All-weaker (λ (x : Attempt). IfSome (outcome_of race x.ip) (EndedBy race reply.tick false x)) (λ (x : Attempt). IfSome (outcome_of new x.ip) (EndedBy new reply.tick false x)) (λ x h.
      let same : outcome_of new x.ip ≡ outcome_of race x.ip = ap (λ (all : List (Ip × Outcome)). outcome_in all x.ip) told in
      subst (λ (o : Option Outcome). IfSome o (EndedBy new reply.tick false x)) (sym same) (by_outcome x (outcome_of race x.ip) h)) xs t.ended
    where
      by_outcome : (x : Attempt) (o : Option Outcome) → IfSome o (EndedBy race reply.tick false x) → IfSome o (EndedBy new reply.tick false x)
      by_outcome x None h = tt
      by_outcome x (Some (outcomes.Ok d)) h = h
      by_outcome x (Some (outcomes.Fail d)) h = (ap (λ (ps : List (ℕ × ℕ)). is_paused ps (x.tick + d)) pauses ∙ h.0, h.1)

  not_before : (family : Family) → reply_of race family ≡ None → (s : ℕ) → MayStart (with_answer race family reply) xs s → reply.tick ≤ s
  not_before family none s m = elim (cases_lt s reply.tick) [
    | inl below ↦ t.stops s ((starts-before race t.valid reply family none xs s below).1 m)
    | inr later ↦ omega arith
  ]

  not_won : {A : Type 0} → false ≡ true → A
  not_won e = cc

  -- a turn goes on where an answer is recorded in it
  pub heard-turn : (family : Family) → reply_of race family ≡ None → IsRace (with_answer race family reply) → InTurn (with_answer race family reply) reply.tick xs false
  heard-turn families.V6 none valid =
      let more = taken_more families.V6 none in
      record {
        valid = valid;
        made = record { in_turn = attempts-before race t.valid reply families.V6 none xs (all_before reply.tick xs t.past) t.made.in_turn; tried = t.made.tried };
        past = t.past;
        over = t.over;
        ended = ended_as (with_answer race families.V6 reply) refl refl;
        stops = not_before families.V6 none;
        success = not_won;
        few = omega (arith, t.few, more);
        starts = λ waits early. absurd (let no : ⊥ = omega (arith, waits, t.few, more) in no);
      }
  heard-turn families.V4 none valid =
      let more = taken_more families.V4 none in
      record {
        valid = valid;
        made = record { in_turn = attempts-before race t.valid reply families.V4 none xs (all_before reply.tick xs t.past) t.made.in_turn; tried = t.made.tried };
        past = t.past;
        over = t.over;
        ended = ended_as (with_answer race families.V4 reply) refl refl;
        stops = not_before families.V4 none;
        success = not_won;
        few = omega (arith, t.few, more);
        starts = λ waits early. absurd (let no : ⊥ = omega (arith, waits, t.few, more) in no);
      }

keeps_itself : (o : Option Reply) → KeepsAnswer o o
keeps_itself None = tt
keeps_itself (Some reply) = refl

keeps_later : (x y z : Option Reply) → KeepsAnswer x y → KeepsAnswer y z → KeepsAnswer x z
keeps_later None y z h k = tt
keeps_later (Some reply) None z h k = cc
keeps_later (Some reply) (Some other) z h k = k ∙ h

keeps_none : (x y : Option Reply) → x ≡ None → KeepsAnswer x y
keeps_none x y none = subst (λ (o : Option Reply). KeepsAnswer o y) (sym none) tt

begins_itself : {X : Type 0} (xs : List X) → BeginsWith xs xs
begins_itself xs = record { more = []; is = sym (append-nil xs) }

begins_later : {X : Type 0} (xs ys zs : List X) → BeginsWith xs ys → BeginsWith ys zs → BeginsWith xs zs
begins_later {X = X} xs ys zs h k = record { more = h.more ++ k.more; is = k.is ∙ ap (λ (all : List X). all ++ k.more) h.is ∙ append_assoc xs h.more k.more }

history-itself : (history : History) → KeepsHistory history history
history-itself history = record { rtts = begins_itself history.rtts; used = begins_itself history.used }

history-later : (x y z : History) → KeepsHistory x y → KeepsHistory y z → KeepsHistory x z
history-later x y z h k = record { rtts = begins_later x.rtts y.rtts z.rtts h.rtts k.rtts; used = begins_later x.used y.used z.used h.used k.used }

host-itself : (host : HostLists) → KeepsHost host host
host-itself host = record { sources = begins_itself host.sources; routes = begins_itself host.routes }

host-later : (x y z : HostLists) → KeepsHost x y → KeepsHost y z → KeepsHost x z
host-later x y z h k = record { sources = begins_later x.sources y.sources z.sources h.sources k.sources; routes = begins_later x.routes y.routes z.routes h.routes k.routes }

host-wider : (host : HostLists) (family : Family) (answer : AnswerLists) → KeepsHost host (widened family answer host)
host-wider host family answer = record { sources = record { more = more_sources family answer host; is = refl }; routes = record { more = more_routes family answer host; is = refl } }

pub given-itself : (race : Race) → KeepsGiven race race
given-itself race = record { settings = refl; policy = refl; host = host-itself race.host; history = history-itself race.history; aaaa = keeps_itself race.aaaa; a = keeps_itself race.a }

pub given-later : (x y z : Race) → KeepsGiven x y → KeepsGiven y z → KeepsGiven x z
given-later x y z h k = record {
  settings = k.settings ∙ h.settings;
  policy = k.policy ∙ h.policy;
  host = host-later x.host y.host z.host h.host k.host;
  history = history-later x.history y.history z.history h.history k.history;
  aaaa = keeps_later x.aaaa y.aaaa z.aaaa h.aaaa k.aaaa;
  a = keeps_later x.a y.a z.a h.a k.a;
}

pub given-alike : (x y : Race) → AreAlike x y → KeepsGiven x y
given-alike x y e = subst (KeepsGiven x) (sym e) (record { settings = refl; policy = refl; host = host-itself x.host; history = history-itself x.history; aaaa = keeps_itself x.aaaa; a = keeps_itself x.a })

-- what answers that come leave as it was
pub record HeardSame (race new : Race) : Type 0 where
  pub kept : KeepsGiven race new
  pub outcomes : new.outcomes ≡ race.outcomes
  pub pauses : new.pauses ≡ race.pauses

same_itself : (race : Race) → HeardSame race race
same_itself race = record { kept = given-itself race; outcomes = refl; pauses = refl }

answer_same : (race : Race) (family : Family) (reply : Reply) → reply_of race family ≡ None → HeardSame race (with_answer race family reply)
answer_same race families.V6 reply none = record {
  kept = record { settings = refl; policy = refl; host = host-itself race.host; history = history-itself race.history; aaaa = keeps_none race.aaaa (Some reply) none; a = keeps_itself race.a };
  outcomes = refl;
  pauses = refl;
}
answer_same race families.V4 reply none = record {
  kept = record { settings = refl; policy = refl; host = host-itself race.host; history = history-itself race.history; aaaa = keeps_itself race.aaaa; a = keeps_none race.a (Some reply) none };
  outcomes = refl;
  pauses = refl;
}

told_same : (race : Race) (family : Family) (now : ℕ) (told : Option AnswerLists) → reply_of race family ≡ None → HeardSame race (with_told race family now told)
told_same race family now None none = same_itself race
told_same race family now (Some answer) none =
    let ips : List Ip = cleaned family (ips_of answer.known) in
    let one : HeardSame race (with_answer race family (record { tick = now; addresses = ips })) = answer_same race family (record { tick = now; addresses = ips }) none in
    let answered : Race = with_answer race family (record { tick = now; addresses = ips }) in
    record {
      kept = given-later race answered (with_heard race family now answer ips) one.kept (record {
        settings = refl;
        policy = refl;
        host = host-wider answered.host family answer;
        history = record { rtts = record { more = rtts_told answer.known ips; is = refl }; used = record { more = used_told answer.known ips; is = refl } };
        aaaa = keeps_itself answered.aaaa;
        a = keeps_itself answered.a;
      });
      outcomes = one.outcomes;
      pauses = one.pauses;
    }

module _ {S : Type 0} (hears : Tells S) where
  heard_of : (s s' : S) (race new : Race) (family : Family) (now : ℕ) → HearsOf hears s race family now s' new → HeardSame race new
  heard_of s s' race new family now h = by_reply (reply_of race family) refl h
    where
      by_reply : (o : Option Reply) → reply_of race family ≡ o → HearsFrom hears o s race family now s' new → HeardSame race new
      by_reply (Some reply) is h = subst (HeardSame race) (sym h.1) (same_itself race)
      by_reply None is h = subst (HeardSame race) (sym h.2) (told_same race family now h.0 is)

  pub heard-same : (s s' : S) (race new : Race) (now : ℕ) → Hears hears s race now s' new → HeardSame race new
  heard-same s s' race new now h =
      let one : HeardSame race h.half = heard_of s h.between race h.half families.V6 now h.six in
      let two : HeardSame h.half new = heard_of h.between s' h.half new families.V4 now h.four in
      record { kept = given-later race h.half new one.kept two.kept; outcomes = two.outcomes ∙ one.outcomes; pauses = two.pauses ∙ one.pauses }

  -- a source that tells nothing changes nothing
  pub unheard-same : ((s : S) (family : Family) (now : ℕ) (told : Option AnswerLists) (s' : S) → hears s family now told s' → told ≡ None) → (s s' : S) (race new : Race) (now : ℕ) → Hears hears s race now s' new → new ≡ race
  unheard-same silent s s' race new now h = of h.between s' h.half new families.V4 h.four ∙ of s h.between race h.half families.V6 h.six
    where
      of : (s s' : S) (race new : Race) (family : Family) → HearsOf hears s race family now s' new → new ≡ race
      of s s' race new family h = by_reply (reply_of race family) h
        where
          by_reply : (o : Option Reply) → HearsFrom hears o s race family now s' new → new ≡ race
          by_reply (Some reply) h = h.1
          by_reply None h = h.2 ∙ ap (with_told race family now) (silent s family now h.0 s' h.1)

stays_silent : {S : Type 0} (hears : Tells S) → ((s : S) (family : Family) (now : ℕ) (told : Option AnswerLists) (s' : S) → hears s family now told s' → told ≡ None) → (family : Family) (polls : List (Family × ℕ)) (s : S) → StaysSilent hears s family polls
stays_silent hears none family [] s = tt
stays_silent hears none family (p ∷ polls) s = λ told s' h. ((λ same. none s p.0 p.1 told s' h), stays_silent hears none family polls s')

-- a source that tells nothing is silent
pub silent-stays : {S : Type 0} (hears : Tells S) → ((s : S) (family : Family) (now : ℕ) (told : Option AnswerLists) (s' : S) → hears s family now told s' → told ≡ None) → (s : S) (family : Family) → IsSilent hears s family
silent-stays hears none s family = record { at = λ polls. stays_silent hears none family polls s }

-- a turn goes on where an answer is recorded in it
pub answered-turn : (race new : Race) (family : Family) (now : ℕ) (ips : List Ip) (xs : List Attempt) → InTurn race now xs false → reply_of race family ≡ None → new ≡ with_answer race family (record { tick = now; addresses = ips }) → IsRace new → InTurn new now xs false
answered-turn race new family now ips xs t none is valid =
    subst (λ (r : Race). InTurn r now xs false) (sym is) (heard-turn race (record { tick = now; addresses = ips }) xs t family none (subst IsRace is valid))

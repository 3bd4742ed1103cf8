-- What a race has heard of its source in its turns, one after the other.
use Rattle.std.proofs.Common.{◌≡◌, ℕ, ◌++◌, List, [], ◌∷◌, Option, Some, None, refl, sym, ◌∙◌, ap, subst}
use Rattle.he_addr.specs.declared.ip.Family.{Family}
use Rattle.he_addr.specs.declared.ip.Family.TheVariants as families
use Rattle.he_addr.specs.declared.ip.Ip.{Ip}
use Rattle.he_plan.specs.Agreement.{AreAlike}
use Rattle.he_timeline.specs.declared.outcome.Outcome.{Outcome}
use Rattle.he_timeline.specs.Building.{unrecorded}
use Rattle.he_timeline.specs.Race.{Race, Reply, reply_of}
use Rattle.he_turns.specs.Heard.{AnswerLists, Hears, HearsFrom, HearsOf, Tells, with_told}
use Rattle.he_turns.specs.OfSource.{HearsAll, IsOfSource, SourcePoll}
use Rattle.he_turns.proofs.Turning.{alike-later}

-- how attempts ended and when the client slept changes nothing of what is told
told_on : (x : Race) (outcomes : List (Ip × Outcome)) (pauses : List (ℕ × ℕ)) (family : Family) (now : ℕ) (told : Option AnswerLists) → with_told (record x { outcomes = outcomes; pauses = pauses }) family now told ≡ record (with_told x family now told) { outcomes = outcomes; pauses = pauses }
told_on x outcomes pauses family now None = refl
told_on x outcomes pauses families.V6 now (Some answer) = refl
told_on x outcomes pauses families.V4 now (Some answer) = refl

told_alike : (x y : Race) → AreAlike x y → (family : Family) (now : ℕ) (told : Option AnswerLists) → AreAlike (with_told x family now told) (with_told y family now told)
told_alike x y e family now told =
    let P : Race → Type 0 = AreAlike (with_told x family now told) in
    subst (λ (z : Race). P (with_told z family now told)) (sym e) (subst P (sym (told_on x y.outcomes y.pauses family now told)) refl)

reply_alike : (x y : Race) → AreAlike x y → (family : Family) → reply_of y family ≡ reply_of x family
reply_alike x y e families.V6 = ap (λ (r : Race). r.aaaa) e
reply_alike x y e families.V4 = ap (λ (r : Race). r.a) e

module _ {S : Type 0} (hears : Tells S) where
  -- polls of a source in a race, and in one that differs in how attempts ended and when the client slept
  record HearsAlike (s : S) (x : Race) (polls : List SourcePoll) (last : S) (heard : Race) : Type 0 where
    pub new : Race
    pub polled : HearsAll hears s x polls last new
    pub alike : AreAlike new heard

  all_alike : (polls : List SourcePoll) (s last : S) (x y heard : Race) → AreAlike x y → HearsAll hears s y polls last heard → HearsAlike s x polls last heard
  all_alike [] s last x y heard e h = record { new = x; polled = (h.0, refl); alike = subst (AreAlike x) (sym h.1) e }
  all_alike (p ∷ polls) s last x y heard e h =
      let rest : HearsAlike h.0 (with_told x p.family p.tick p.told) polls last heard =
      all_alike polls h.0 last (with_told x p.family p.tick p.told) (with_told y p.family p.tick p.told) heard (told_alike x y e p.family p.tick p.told) h.3 in
      record { new = rest.new; polled = (h.0, sym (reply_alike x y e p.family) ∙ h.1, h.2, rest.polled); alike = rest.alike }

  -- polls after polls
  pub all-after : (first next : List SourcePoll) (s middle last : S) (x half heard : Race) → HearsAll hears s x first middle half → HearsAll hears middle half next last heard → HearsAll hears s x (first ++ next) last heard
  all-after [] next s middle last x half heard h k =
      let moved : HearsAll hears s half next last heard = subst (λ (t : S). HearsAll hears t half next last heard) h.0 k in
      subst (λ (r : Race). HearsAll hears s r next last heard) h.1 moved
  all-after (p ∷ first) next s middle last x half heard h k = (h.0, h.1, h.2, all-after first next h.0 middle last (with_told x p.family p.tick p.told) half heard h.3 k)

  -- from one state of the source to another the race has what it told
  pub record IsTold (s : S) (x : Race) (last : S) (y : Race) : Type 0 where
    pub polls : List SourcePoll
    pub heard : Race
    pub polled : HearsAll hears s x polls last heard
    pub alike : AreAlike heard y

  pub told-alike : (s : S) (x y : Race) → AreAlike x y → IsTold s x s y
  told-alike s x y e = record { polls = []; heard = x; polled = (refl, refl); alike = e }

  told_later : (s middle last : S) (x y z : Race) → IsTold s x middle y → IsTold middle y last z → IsTold s x last z
  told_later s middle last x y z h k =
      let next : HearsAlike middle h.heard k.polls last k.heard = all_alike k.polls middle last h.heard y k.heard h.alike k.polled in
      record {
        polls = h.polls ++ k.polls;
        heard = next.new;
        polled = all-after h.polls k.polls s middle last x h.heard next.new h.polled next.polled;
        alike = alike-later next.new k.heard z next.alike k.alike;
      }

  told_family : (s s' : S) (race new : Race) (family : Family) (now : ℕ) → HearsOf hears s race family now s' new → IsTold s race s' new
  told_family s s' race new family now h = by_reply (reply_of race family) refl h
    where
      by_reply : (o : Option Reply) → reply_of race family ≡ o → HearsFrom hears o s race family now s' new → IsTold s race s' new
      by_reply (Some reply) is h = record { polls = []; heard = new; polled = (h.0, h.1); alike = refl }
      by_reply None is h = record {
        polls = record { family = family; tick = now; told = h.0 } ∷ [];
        heard = new;
        polled = (s', is, h.1, (refl, h.2));
        alike = refl;
      }

  -- a turn in which the source is heard
  pub told-turn : (s s' : S) (x slept heard y : Race) (now : ℕ) → AreAlike x slept → Hears hears s slept now s' heard → AreAlike heard y → IsTold s x s' y
  told-turn s s' x slept heard y now e h f =
      let six : IsTold s x h.between h.half = told_later s s h.between x slept h.half (told-alike s x slept e) (told_family s h.between slept h.half families.V6 now h.six) in
      let both : IsTold s x s' heard = told_later s h.between s' x h.half heard six (told_family h.between s' h.half heard families.V4 now h.four) in
      told_later s s' s' x heard y both (told-alike s' heard y f)

  pub told-end : (s s' : S) (x y : Race) → IsTold s x s' y → IsOfSource hears s x y
  told-end s s' x y h = record { polls = h.polls; last = s'; heard = h.heard; polled = h.polled; alike = h.alike }

  pub told-before : (s s' : S) (x y z : Race) → IsTold s x s' y → IsOfSource hears s' y z → IsOfSource hears s x z
  told-before s s' x y z h k =
      told-end s k.last x z (told_later s s' k.last x y z h (record { polls = k.polls; heard = k.heard; polled = k.polled; alike = k.alike }))

  -- what is of the source beside a race before anything is recorded of it
  pub of-unrecorded : (s : S) (race recorded : Race) → IsOfSource hears s (unrecorded race) recorded → IsOfSource hears s race recorded
  of-unrecorded s race recorded h = told-before s s race (unrecorded race) recorded (told-alike s race (unrecorded race) refl) h

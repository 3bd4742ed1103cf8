-- What is gathered of a source, poll by poll.
use Rattle.std.proofs.Common.{ℕ, ◌≡◌, ◌≤◌, ◌∙◌, ◌++◌, ◌&&◌, ◌||◌, List, [], ◌∷◌, Option, Some, None, Result, Ok, Err, IsSomeAnd, Bool, true, false, is_some, nat_lt, not, refl, sym, ap, subst, arith, inl, inr}
use Rattle.std.proofs.lemmas.Bool.{ltb-false}
use Rattle.he_addr.specs.declared.ip.Family.{Family}
use Rattle.he_addr.specs.declared.ip.Family.TheVariants as families
use Rattle.he_timeline.specs.declared.limits.TheConstants.{MAX_LIMIT}
use Rattle.he_timeline.specs.Race.{Race, Reply, reply_of}
use Rattle.he_turns.specs.declared.faults.RaceFault.{RaceFault}
use Rattle.he_turns.specs.declared.gathering.Gathered.{Gathered}
use Rattle.he_turns.specs.Gathering.{AsksAtEnd, IsGatheredFrom, MayGather}
use Rattle.he_turns.specs.Heard.{AnswerLists, Hears, HearsFrom, HearsOf, Tells, cleaned, ips_of, with_told}
use Rattle.he_turns.specs.OfSource.{HearsAll, IsOfSource, SourcePoll}
use Rattle.he_turns.proofs.OfSource.{all-after}

asks_before : (family : Family) (xs ys : List SourcePoll) → AsksAtEnd family xs → AsksAtEnd family (xs ++ ys)
asks_before family [] ys none = absurd none
asks_before family (x ∷ xs) ys (inl here) = inl here
asks_before family (x ∷ xs) ys (inr later) = inr (asks_before family xs ys later)

asks_after : (family : Family) (xs ys : List SourcePoll) → AsksAtEnd family ys → AsksAtEnd family (xs ++ ys)
asks_after family [] ys h = h
asks_after family (x ∷ xs) ys h = inr (asks_after family xs ys h)

-- a race that records an answer for a family has one
told_none : (race : Race) (family : Family) (now : ℕ) (told : Option AnswerLists) → reply_of (with_told race family now told) family ≡ None → told ≡ None
told_none race family now None e = refl
told_none race families.V6 now (Some answer) e =
    let no : ◌≡◌ {A = Option Reply} (Some (record { tick = now; addresses = cleaned families.V6 (ips_of answer.known) })) None = e in cc
told_none race families.V4 now (Some answer) e =
    let no : ◌≡◌ {A = Option Reply} (Some (record { tick = now; addresses = cleaned families.V4 (ips_of answer.known) })) None = e in cc

told_other : (race : Race) (now : ℕ) (told : Option AnswerLists) → reply_of (with_told race families.V4 now told) families.V6 ≡ reply_of race families.V6
told_other race now None = refl
told_other race now (Some answer) = refl

is_false : (b : Bool) → not b ≡ true → b ≡ false
is_false false e = refl
is_false true e =
    let clash : ◌≡◌ {A = Bool} false true = e in cc

-- a family has no answer after the last poll only if that was at the end
no_answer : (one other : Bool) (now : ℕ) → (one && other || not (nat_lt now MAX_LIMIT)) ≡ true → (one && other) ≡ false → now ≤ MAX_LIMIT → now ≡ MAX_LIMIT
no_answer one other now over lacks most =
    let late : not (nat_lt now MAX_LIMIT) ≡ true = subst (λ (b : Bool). (b || not (nat_lt now MAX_LIMIT)) ≡ true) lacks over in
    omega (arith, ltb-false now MAX_LIMIT (is_false (nat_lt now MAX_LIMIT) late), most)

both_six : (race : Race) → race.aaaa ≡ None → (is_some race.aaaa && is_some race.a) ≡ false
both_six race none = subst (λ (o : Option Reply). (is_some o && is_some race.a) ≡ false) (sym none) refl

both_four : (six : Bool) (o : Option Reply) → o ≡ None → (six && is_some o) ≡ false
both_four true o none = subst (λ (o : Option Reply). (true && is_some o) ≡ false) (sym none) refl
both_four false o none = refl

module _ {S : Type 0} (hears : Tells S) where
  record Polled (s : S) (race : Race) (family : Family) (now : ℕ) (s' : S) (new : Race) : Type 0 where
    pub polls : List SourcePoll
    pub polled : HearsAll hears s race polls s' new
    pub asked : reply_of new family ≡ None → now ≡ MAX_LIMIT → AsksAtEnd family polls

  one_family : (s s' : S) (race new : Race) (family : Family) (now : ℕ) → HearsOf hears s race family now s' new → Polled s race family now s' new
  one_family s s' race new family now h = by_reply (reply_of race family) refl h
    where
      by_reply : (o : Option Reply) → reply_of race family ≡ o → HearsFrom hears o s race family now s' new → Polled s race family now s' new
      by_reply (Some reply) is h = record {
        polls = [];
        polled = (h.0, h.1);
        asked = λ none at.
            let no : ◌≡◌ {A = Option Reply} (Some reply) None = sym is ∙ ap (λ (r : Race). reply_of r family) (sym h.1) ∙ none in cc;
      }
      by_reply None is h = record {
        polls = record { family = family; tick = now; told = h.0 } ∷ [];
        polled = (s', is, h.1, (refl, h.2));
        asked = λ none at.
            inl (refl, at, told_none race family now h.0 (sym (ap (λ (r : Race). reply_of r family) h.2) ∙ none));
      }

  -- a poll for IPv4 leaves the answer for IPv6
  six_stays : (s s' : S) (race new : Race) (now : ℕ) → HearsOf hears s race families.V4 now s' new → new.aaaa ≡ race.aaaa
  six_stays s s' race new now h = by_reply race.a h
    where
      by_reply : (o : Option Reply) → HearsFrom hears o s race families.V4 now s' new → new.aaaa ≡ race.aaaa
      by_reply (Some reply) h = ap (λ (r : Race). r.aaaa) h.1
      by_reply None h = ap (λ (r : Race). r.aaaa) h.2 ∙ told_other race now h.0

  record Turn (s : S) (race : Race) (now : ℕ) (s' : S) (new : Race) : Type 0 where
    pub polls : List SourcePoll
    pub polled : HearsAll hears s race polls s' new
    pub six : new.aaaa ≡ None → now ≡ MAX_LIMIT → AsksAtEnd families.V6 polls
    pub four : new.a ≡ None → now ≡ MAX_LIMIT → AsksAtEnd families.V4 polls

  one_turn : (s s' : S) (race new : Race) (now : ℕ) → Hears hears s race now s' new → Turn s race now s' new
  one_turn s s' race new now h =
      let first : Polled s race families.V6 now h.between h.half = one_family s h.between race h.half families.V6 now h.six in
      let next : Polled h.between h.half families.V4 now s' new = one_family h.between s' h.half new families.V4 now h.four in
      let stays : new.aaaa ≡ h.half.aaaa = six_stays h.between s' h.half new now h.four in
      record {
        polls = first.polls ++ next.polls;
        polled = all-after hears first.polls next.polls s h.between s' race h.half new first.polled next.polled;
        six = λ none at. asks_before families.V6 first.polls next.polls (first.asked (sym stays ∙ none) at);
        four = λ none at. asks_after families.V4 first.polls next.polls (next.asked none at);
      }

  -- it ends with this poll
  pub gathered-end : (s s' : S) (was : Option Gathered) (given : Gathered) (now : ℕ) (heard race : Race) → was ≡ Some given → Hears hears s given.recorded now s' heard → race ≡ heard → (is_some heard.aaaa && is_some heard.a || not (nat_lt now MAX_LIMIT)) ≡ true → now ≤ MAX_LIMIT → IsSomeAnd was (λ one. IsGatheredFrom hears s one.recorded race)
  gathered-end s s' was given now heard race is h e over most =
      let turn : Turn s given.recorded now s' heard = one_turn s s' given.recorded heard now h in
      let all : IsGatheredFrom hears s given.recorded heard = record {
        polls = turn.polls;
        last = s';
        polled = turn.polled;
        six = λ none. turn.six none (no_answer (is_some heard.aaaa) (is_some heard.a) now over (both_six heard none) most);
        four = λ none. turn.four none (no_answer (is_some heard.aaaa) (is_some heard.a) now over (both_four (is_some heard.aaaa) heard.a none) most);
      } in
      let ended : IsGatheredFrom hears s given.recorded race = subst (λ (r : Race). IsGatheredFrom hears s given.recorded r) (sym e) all in
      subst (λ (o : Option Gathered). IsSomeAnd o (λ one. IsGatheredFrom hears s one.recorded race)) (sym is) ended

  -- it ends in a later poll
  pub gathered-on : (s s' : S) (was : Option Gathered) (given left : Gathered) (now : ℕ) (result : Result Race RaceFault) → was ≡ Some given → Hears hears s given.recorded now s' left.recorded → MayGather hears s' (Some left) result → MayGather hears s was result
  gathered-on s s' was given left now (Err fault) is h k = tt
  gathered-on s s' was given left now (Ok race) is h k =
      let turn : Turn s given.recorded now s' left.recorded = one_turn s s' given.recorded left.recorded now h in
      let all : IsGatheredFrom hears s given.recorded race = record {
        polls = turn.polls ++ k.polls;
        last = k.last;
        polled = all-after hears turn.polls k.polls s s' k.last given.recorded left.recorded race turn.polled k.polled;
        six = λ none. asks_after families.V6 turn.polls k.polls (k.six none);
        four = λ none. asks_after families.V4 turn.polls k.polls (k.four none);
      } in
      subst (λ (o : Option Gathered). IsSomeAnd o (λ one. IsGatheredFrom hears s one.recorded race)) (sym is) all

  -- what was gathered of a source is of it
  pub gathered-of : (s : S) (given race : Race) → IsGatheredFrom hears s given race → IsOfSource hears s given race
  gathered-of s given race h = record { polls = h.polls; last = h.last; heard = race; polled = h.polled; alike = refl }

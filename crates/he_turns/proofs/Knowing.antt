-- What is recorded of what is told of an answer's addresses, one after the other: nothing is known of them before.
use Rattle.std.proofs.Common.{◌≡◌, ℕ, zero, suc, ◌+◌, ◌<◌, ◌++◌, Bool, true, false, not, List, [], ◌∷◌, get_or, length, take, Option, None, append_assoc, refl, sym, ◌∙◌, ap, subst, arith}
use Rattle.std.specs.List.{list_all, list_any}
use Rattle.std.proofs.lemmas.List.Elements.{filter-append}
use Rattle.std.proofs.lemmas.List.Folds.{list_any-append}
use Rattle.std.proofs.Math.Seq.{take-suc}
use Rattle.he_addr.specs.Ip.{same_ip}
use Rattle.he_addr.specs.declared.ip.Family.{Family}
use Rattle.he_addr.specs.declared.ip.Family.TheVariants as families
use Rattle.he_addr.specs.declared.ip.Ip.{Ip}
use Rattle.he_plan.specs.declared.attempts.Attempt.{Attempt}
use Rattle.he_select.specs.declared.known.Known.{Known}
use Rattle.he_select.specs.Selection.{known_rtt, known_used}
use Rattle.he_select.proofs.Equality.{ip_from, ip_self}
use Rattle.he_plan.specs.RaceState.{IsAlikeSoFar}
use Rattle.he_timeline.specs.Building.{with_answer}
use Rattle.he_timeline.specs.Race.{Race, Reply, addresses_of, has_ip, is_in_answer, is_told, reply_of}
use Rattle.he_timeline.specs.Timeline.{IsRace, are_distinct, are_of, is_duration, is_of, is_rtt}
use Rattle.he_timeline.proofs.Bools.{and_both, and_left, and_right, clash, or_left, or_left_none, or_none, or_right, or_right_none}
use Rattle.he_timeline.proofs.Ranges.{list_all-weaker, same_ip-sym}
use Rattle.he_turns.specs.Heard.{AnswerLists, rtt_told, rtts_told, used_told, with_heard, with_known, with_lines}
use Rattle.he_turns.specs.Kept.{InTurn}
use Rattle.he_turns.proofs.Once.{from_not, none_kept, not_true}
use Rattle.he_turns.proofs.Heard.{answered-turn}
use Rattle.he_turns.proofs.Learnt.{answer-own, learnt-alike, learnt-turn, not_four, not_six, other-family, untold-rtts}

pub all_at : {X : Type 0} (p : X → Bool) (xs : List X) (i : ℕ) (d : X) → i < length xs → list_all p xs ≡ true → p (get_or xs i d) ≡ true
all_at p [] i d below h = absurd (let no : ⊥ = omega (arith, below) in no)
all_at p (x ∷ xs) zero d below h = and_left (p x) _ h
all_at p (x ∷ xs) (suc i) d below h = all_at p xs i d (omega (arith, below)) (and_right (p x) _ h)

pub none_at : {X : Type 0} (p : X → Bool) (xs : List X) (i : ℕ) (d : X) → i < length xs → list_any p xs ≡ false → p (get_or xs i d) ≡ false
none_at p [] i d below h = absurd (let no : ⊥ = omega (arith, below) in no)
none_at p (x ∷ xs) zero d below h = or_left_none (p x) _ h
none_at p (x ∷ xs) (suc i) d below h = none_at p xs i d (omega (arith, below)) (or_right_none (p x) _ h)

-- of addresses of which none stands twice one isn't among those before it
pub none_before : (ips : List Ip) (i : ℕ) (d : Ip) → i < length ips → are_distinct ips ≡ true → has_ip (get_or ips i d) (take i ips) ≡ false
none_before [] i d below h = absurd (let no : ⊥ = omega (arith, below) in no)
none_before (ip ∷ ips) zero d below h = refl
none_before (ip ∷ ips) (suc i) d below h =
    let later : i < length ips = omega (arith, below) in
    or_none (same_ip ip (get_or ips i d)) _
    (same_ip-sym ip (get_or ips i d) ∙ none_at (λ (other : Ip). same_ip other ip) ips i d later (from_not _ (and_left (not (has_ip ip ips)) _ h)))
    (none_before ips i d later (and_right (not (has_ip ip ips)) _ h))

rtts_told-append : (known : List Known) (xs ys : List Ip) → rtts_told known (xs ++ ys) ≡ rtts_told known xs ++ rtts_told known ys
rtts_told-append known [] ys = refl
rtts_told-append known (ip ∷ xs) ys =
    ap (λ (more : List (Ip × ℕ)). rtt_told ip (known_rtt known ip) ++ more) (rtts_told-append known xs ys)
    ∙ sym (append_assoc (rtt_told ip (known_rtt known ip)) (rtts_told known xs) (rtts_told known ys))

-- what is told of some addresses and then of others
known_twice : (race : Race) (known : List Known) (xs ys : List Ip) → with_known (with_known race known xs) known ys ≡ with_known race known (xs ++ ys)
known_twice race known xs ys =
    let rtts : (race.history.rtts ++ rtts_told known xs) ++ rtts_told known ys ≡ race.history.rtts ++ rtts_told known (xs ++ ys) =
    append_assoc race.history.rtts (rtts_told known xs) (rtts_told known ys) ∙ ap (λ (more : List (Ip × ℕ)). race.history.rtts ++ more) (sym (rtts_told-append known xs ys)) in
    let used : (race.history.used ++ used_told known xs) ++ used_told known ys ≡ race.history.used ++ used_told known (xs ++ ys) =
    append_assoc race.history.used (used_told known xs) (used_told known ys) ∙ ap (λ (more : List Ip). race.history.used ++ more) (sym (filter-append (known_used known) xs ys)) in
    ap (λ (all : List (Ip × ℕ)). record race { history = record { rtts = all; used = (race.history.used ++ used_told known xs) ++ used_told known ys } }) rtts
    ∙ ap (λ (all : List Ip). record race { history = record { rtts = race.history.rtts ++ rtts_told known (xs ++ ys); used = all } }) used

-- the loop that records what is told of the addresses
module _ (race recorded : Race) (known : List Known) (ips : List Ip) (i : ℕ) (d : Ip) (below : i < length ips) (was : recorded ≡ with_known race known (take i ips)) where
  abbrev next_ip : Ip
  next_ip = get_or ips i d

  pub next-answered : list_all (is_in_answer race) ips ≡ true → is_in_answer recorded next_ip ≡ true
  next-answered h = subst (λ (r : Race). is_in_answer r next_ip ≡ true) (sym was) (all_at (is_in_answer race) ips i d below h)

  pub next-untold : are_distinct ips ≡ true → list_all (λ ip. not (is_told ip race.history.rtts)) ips ≡ true → is_told next_ip recorded.history.rtts ≡ false
  next-untold distinct h =
      let here : is_told next_ip race.history.rtts ≡ false = from_not _ (all_at (λ ip. not (is_told ip race.history.rtts)) ips i d below h) in
      let added : is_told next_ip (rtts_told known (take i ips)) ≡ false = untold-rtts known next_ip (take i ips) (none_before ips i d below distinct) in
      subst (λ (r : Race). is_told next_ip r.history.rtts ≡ false) (sym was)
      (list_any-append (λ (p : Ip × ℕ). same_ip p.0 next_ip) race.history.rtts (rtts_told known (take i ips)) ∙ or_none (is_told next_ip race.history.rtts) _ here added)

  pub next-unused : are_distinct ips ≡ true → list_all (λ ip. not (has_ip ip race.history.used)) ips ≡ true → has_ip next_ip recorded.history.used ≡ false
  next-unused distinct h =
      let here : has_ip next_ip race.history.used ≡ false = from_not _ (all_at (λ ip. not (has_ip ip race.history.used)) ips i d below h) in
      let added : has_ip next_ip (used_told known (take i ips)) ≡ false = none_kept same_ip (known_used known) next_ip (take i ips) (none_before ips i d below distinct) in
      subst (λ (r : Race). has_ip next_ip r.history.used ≡ false) (sym was)
      (list_any-append (λ (other : Ip). same_ip other next_ip) race.history.used (used_told known (take i ips)) ∙ or_none (has_ip next_ip race.history.used) _ here added)

  pub next-known : (new : Race) → new ≡ with_known recorded known (next_ip ∷ []) → new ≡ with_known race known (take (i + 1) ips)
  next-known new is =
      let suc_is : i + 1 ≡ suc i = omega arith in
      is ∙ ap (λ (r : Race). with_known r known (next_ip ∷ [])) was ∙ known_twice race known (take i ips) (next_ip ∷ [])
      ∙ ap (with_known race known) (sym (ap (λ (k : ℕ). take k ips) suc_is ∙ take-suc ips i d below))

all_in : (ips : List Ip) → list_all (λ ip. has_ip ip ips) ips ≡ true
all_in [] = refl
all_in (ip ∷ ips) =
    and_both (has_ip ip (ip ∷ ips)) _ (or_left (same_ip ip ip) _ (ip_self ip))
    (list_all-weaker (λ other. has_ip other ips) (λ other. has_ip other (ip ∷ ips)) ips (λ other h. or_right (same_ip ip other) _ h) (all_in ips))

-- the addresses of an answer stand in it
all_answered : (race : Race) (family : Family) (tick : ℕ) (ips : List Ip) → list_all (is_in_answer (with_answer race family (record { tick = tick; addresses = ips }))) ips ≡ true
all_answered race families.V6 tick ips =
    list_all-weaker (λ ip. has_ip ip ips) (is_in_answer (with_answer race families.V6 (record { tick = tick; addresses = ips }))) ips (λ ip h. or_left (has_ip ip ips) _ h) (all_in ips)
all_answered race families.V4 tick ips =
    list_all-weaker (λ ip. has_ip ip ips) (is_in_answer (with_answer race families.V4 (record { tick = tick; addresses = ips }))) ips (λ ip h. or_right (has_ip ip (addresses_of race.aaaa)) _ h) (all_in ips)

module _ (race : Race) (r : IsRace race) where
  -- an address of a family that has no answer stands in none
  unanswered : (family : Family) → reply_of race family ≡ None → (ip : Ip) → is_of family ip ≡ true → is_in_answer race ip ≡ false
  unanswered families.V6 none ip own =
      or_none (has_ip ip (addresses_of race.aaaa)) _ (ap (λ (o : Option Reply). has_ip ip (addresses_of o)) none)
      (other-family families.V4 ip (addresses_of race.a) (not_six ip own) (answer-own families.V4 race.a r.a))
  unanswered families.V4 none ip own =
      or_none (has_ip ip (addresses_of race.aaaa)) _ (other-family families.V6 ip (addresses_of race.aaaa) (not_four ip own) (answer-own families.V6 race.aaaa r.aaaa))
      (ap (λ (o : Option Reply). has_ip ip (addresses_of o)) none)

  untold_in : (ip : Ip) → is_in_answer race ip ≡ false → (rtts : List (Ip × ℕ)) → list_all (is_rtt race) rtts ≡ true → is_told ip rtts ≡ false
  untold_in ip away [] h = refl
  untold_in ip away (p ∷ rtts) h = or_none (same_ip p.0 ip) _ (by_test (same_ip p.0 ip) refl) (untold_in ip away rtts (and_right (is_rtt race p) _ h))
    where
      by_test : (b : Bool) → same_ip p.0 ip ≡ b → same_ip p.0 ip ≡ false
      by_test true e =
          absurd (clash (is_in_answer race ip) (subst (λ (z : Ip). is_in_answer race z ≡ true) (ip_from p.0 ip e) (and_right (is_duration p.1) _ (and_left (is_rtt race p) _ h))) away)
      by_test false e = e

  unused_in : (ip : Ip) → is_in_answer race ip ≡ false → (used : List Ip) → list_all (is_in_answer race) used ≡ true → has_ip ip used ≡ false
  unused_in ip away [] h = refl
  unused_in ip away (other ∷ used) h = or_none (same_ip other ip) _ (by_test (same_ip other ip) refl) (unused_in ip away used (and_right (is_in_answer race other) _ h))
    where
      by_test : (b : Bool) → same_ip other ip ≡ b → same_ip other ip ≡ false
      by_test true e =
          absurd (clash (is_in_answer race ip) (subst (λ (z : Ip). is_in_answer race z ≡ true) (ip_from other ip e) (and_left (is_in_answer race other) _ h)) away)
      by_test false e = e

  -- of the addresses of a family that had no answer nothing is known
  module _ (family : Family) (none : reply_of race family ≡ None) (reply : Reply) (ips : List Ip) (own : are_of family ips ≡ true) where
    same_rtts : (family : Family) → (with_answer race family reply).history.rtts ≡ race.history.rtts
    same_rtts families.V6 = refl
    same_rtts families.V4 = refl

    same_used : (family : Family) → (with_answer race family reply).history.used ≡ race.history.used
    same_used families.V6 = refl
    same_used families.V4 = refl

    all_untold : list_all (λ ip. not (is_told ip (with_answer race family reply).history.rtts)) ips ≡ true
    all_untold =
        rw (same_rtts family) (list_all-weaker (is_of family) (λ ip. not (is_told ip race.history.rtts)) ips (λ ip of. not_true _ (untold_in ip (unanswered family none ip of) race.history.rtts r.rtts)) own)

    all_unused : list_all (λ ip. not (has_ip ip (with_answer race family reply).history.used)) ips ≡ true
    all_unused =
        rw (same_used family) (list_all-weaker (is_of family) (λ ip. not (has_ip ip race.history.used)) ips (λ ip of. not_true _ (unused_in ip (unanswered family none ip of) race.history.used r.used)) own)

-- an answer that is recorded, with what is told of its addresses and the lines of its family
pub known-heard : (race answered learnt new : Race) (family : Family) (now : ℕ) (answer : AnswerLists) (ips clean : List Ip) → answered ≡ with_answer race family (record { tick = now; addresses = ips }) → learnt ≡ with_known answered answer.known ips → new ≡ with_lines learnt family answer → ips ≡ clean → new ≡ with_heard race family now answer clean
known-heard race answered learnt new family now answer ips clean is known wider same =
    wider ∙ ap (λ (r : Race). with_lines r family answer) known ∙ ap (λ (r : Race). with_lines (with_known r answer.known ips) family answer) is ∙ ap (with_heard race family now answer) same

-- a turn goes on in which it is
pub known-turn : (race answered learnt new : Race) (family : Family) (now : ℕ) (answer : AnswerLists) (ips : List Ip) (xs : List Attempt) → InTurn race now xs false → reply_of race family ≡ None → are_of family ips ≡ true → answered ≡ with_answer race family (record { tick = now; addresses = ips }) → IsRace answered → learnt ≡ with_known answered answer.known ips → new ≡ with_lines learnt family answer → IsRace new → InTurn new now xs false
known-turn race answered learnt new family now answer ips xs t none own is valid known wider fits =
    let one : InTurn answered now xs false = answered-turn race answered family now ips xs t none is valid in
    let all : new ≡ with_heard race family now answer ips = known-heard race answered learnt new family now answer ips ips is known wider refl in
    subst (λ (r : Race). InTurn r now xs false) (sym all)
    (learnt-turn race t.valid family none now answer ips own xs (subst (λ (r : Race). InTurn r now xs false) is one) (subst IsRace all fits))

-- and nothing changes for the attempts that were made
pub known-alike : (race answered learnt new : Race) (family : Family) (now : ℕ) (answer : AnswerLists) (ips : List Ip) (xs : List Attempt) → InTurn race now xs false → reply_of race family ≡ None → are_of family ips ≡ true → answered ≡ with_answer race family (record { tick = now; addresses = ips }) → learnt ≡ with_known answered answer.known ips → new ≡ with_lines learnt family answer → IsAlikeSoFar race new xs
known-alike race answered learnt new family now answer ips xs t none own is known wider =
    subst (λ (r : Race). IsAlikeSoFar race r xs) (sym (known-heard race answered learnt new family now answer ips ips is known wider refl))
    (learnt-alike race t.valid family none now answer ips own xs t.past t.made.in_turn)

pub known-answered : (race answered : Race) (family : Family) (reply : Reply) (ips : List Ip) → ips ≡ reply.addresses → answered ≡ with_answer race family reply → list_all (is_in_answer answered) ips ≡ true
known-answered race answered family reply ips same is =
    subst (λ (r : Race). list_all (is_in_answer r) ips ≡ true) (sym is)
    (subst (λ (xs : List Ip). list_all (is_in_answer (with_answer race family reply)) xs ≡ true) (sym same) (all_answered race family reply.tick reply.addresses))

pub known-untold : (race answered : Race) → IsRace race → (family : Family) → reply_of race family ≡ None → (reply : Reply) (ips : List Ip) → are_of family ips ≡ true → answered ≡ with_answer race family reply → list_all (λ ip. not (is_told ip answered.history.rtts)) ips ≡ true
known-untold race answered r family none reply ips own is =
    subst (λ (z : Race). list_all (λ ip. not (is_told ip z.history.rtts)) ips ≡ true) (sym is) (all_untold race r family none reply ips own)

pub known-unused : (race answered : Race) → IsRace race → (family : Family) → reply_of race family ≡ None → (reply : Reply) (ips : List Ip) → are_of family ips ≡ true → answered ≡ with_answer race family reply → list_all (λ ip. not (has_ip ip answered.history.used)) ips ≡ true
known-unused race answered r family none reply ips own is =
    subst (λ (z : Race). list_all (λ ip. not (has_ip ip z.history.used)) ips ≡ true) (sym is) (all_unused race r family none reply ips own)

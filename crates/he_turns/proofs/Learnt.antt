-- What is learnt of addresses with their answer concerns them alone, and the lines that come with it their family: it
-- changes nothing before the answer's tick.
use Rattle.std.proofs.Common.{◌≡◌, ℕ, zero, suc, ◌+◌, ◌≤◌, ◌<◌, ◌↔◌, ◌&&◌, ◌||◌, ◌++◌, Bool, true, false, not, List, [], ◌∷◌, if◌then◌else◌, filter, find, map, length, take, Option, Some, None, MatchOption, IfSome, IsSomeAnd, nat_le, nat_lt, refl, sym, ◌∙◌, ap, subst, inl, inr}
use Rattle.std.specs.Prelude.{cond, option_and_then, option_map}
use Rattle.std.specs.List.{All, list_all, list_any, slice_get}
use Rattle.std.specs.Option.{option_map_or}
use Rattle.std.proofs.lemmas.List.Elements.{All-weaker}
use Rattle.std.proofs.lemmas.List.Folds.{list_any-append}
use Rattle.he_addr.specs.Ip.{is_usable, is_v6, same_ip}
use Rattle.he_addr.specs.declared.ip.Family.{Family}
use Rattle.he_addr.specs.declared.ip.Family.TheVariants as families
use Rattle.he_addr.specs.declared.ip.Ip.{Ip}
use Rattle.he_select.specs.declared.known.Known.{Known}
use Rattle.he_select.specs.Hosts.{HostLists}
use Rattle.he_select.specs.Selection.{known_of, known_rtt, known_used}
use Rattle.he_select.proofs.Alike.{Alike, order_of_alike}
use Rattle.he_select.proofs.Counting.{Each}
use Rattle.he_select.proofs.Equality.{ip_from}
use Rattle.he_timeline.specs.declared.outcome.Outcome.{Outcome}
use Rattle.he_timeline.specs.declared.outcome.Outcome.TheVariants as outcomes
use Rattle.he_timeline.specs.Building.{with_answer}
use Rattle.he_timeline.specs.Race.{History, Race, Reply, addresses_of, has_ip, is_told, known_of as told_in, outcome_of, reply_of, told_of, usable_addresses}
use Rattle.he_timeline.specs.Seen.{seen}
use Rattle.he_timeline.specs.declared.limits.TheConstants.{MAX_ADDRESSES, MAX_TICK}
use Rattle.he_timeline.specs.Timeline.{IsRace, are_distinct, are_of, is_answer, is_of}
use Rattle.he_timeline.proofs.Bools.{and_left, and_right, clash, lt_from, or_left_none, or_none, or_right_none}
use Rattle.he_plan.specs.declared.attempts.Attempt.{Attempt}
use Rattle.he_plan.specs.Alternating.{interlace}
use Rattle.he_plan.specs.Attempts.{AreNextInTurn, HasWaited, HaveFailed, IsNext, MayBegin, MayFollow, MayStart, has_failed, has_failed_by, is_untried, last_of, order, order_at, received, received_of}
use Rattle.he_plan.specs.Planning.{is_received}
use Rattle.he_plan.specs.RaceState.{IsAlikeSoFar, IsReceivedAlike}
use Rattle.he_plan.proofs.Later.{attempts-before, order-before, received-alike, received-before, starts-before}
use Rattle.he_turns.specs.Heard.{AnswerLists, rtt_told, rtts_told, used_told, widened, with_heard, with_lines}
use Rattle.he_turns.specs.Kept.{InTurn}
use Rattle.he_turns.specs.Recording.{EndedBy}
use Rattle.he_turns.proofs.Widening.{more_routes, more_sources, routes-own, sources-own}
use Rattle.he_turns.proofs.Once.{all_kept, none_kept}
use Rattle.he_turns.proofs.Reached.{order-wider}
use Rattle.he_turns.proofs.Recorded.{all_before, last_before}

-- of an address that isn't among these no round trip time is told
pub untold-rtts : (known : List Known) (ip : Ip) (ips : List Ip) → has_ip ip ips ≡ false → is_told ip (rtts_told known ips) ≡ false
untold-rtts known ip [] h = refl
untold-rtts known ip (other ∷ ips) h = by_rtt (known_rtt known other) (untold-rtts known ip ips (or_right_none (same_ip other ip) _ h))
  where
    by_rtt : (o : Option ℕ) → is_told ip (rtts_told known ips) ≡ false → is_told ip (rtt_told other o ++ rtts_told known ips) ≡ false
    by_rtt None rest = rest
    by_rtt (Some rtt) rest = or_none (same_ip other ip) _ (or_left_none (same_ip other ip) _ h) rest

none_found : {X : Type 0} (p : X → Bool) (xs : List X) → list_any p xs ≡ false → find p xs ≡ None
none_found p [] h = refl
none_found p (x ∷ xs) h = rw (or_left_none (p x) _ h) (none_found p xs (or_right_none (p x) _ h))

found_before : {X : Type 0} (p : X → Bool) (xs more : List X) → list_any p more ≡ false → find p (xs ++ more) ≡ find p xs
found_before p [] more h = none_found p more h
found_before p (x ∷ xs) more h = ap (λ o. cond (p x) (Some x) o) (found_before p xs more h)

or_nothing : (a b : Bool) → b ≡ false → (a || b) ≡ a
or_nothing true b h = refl
or_nothing false b h = h

-- of an address that isn't among those of which more is told, the same is known
same_told : (history : History) (rtts : List (Ip × ℕ)) (used : List Ip) (ip : Ip) → is_told ip rtts ≡ false → has_ip ip used ≡ false → told_in history ip ≡ told_in (record { rtts = history.rtts ++ rtts; used = history.used ++ used }) ip
same_told history rtts used ip h k =
    let found : told_of (history.rtts ++ rtts) ip ≡ told_of history.rtts ip = ap (option_map (λ (p : Ip × ℕ). p.1)) (found_before (λ (p : Ip × ℕ). same_ip p.0 ip) history.rtts rtts h) in
    let used_too : has_ip ip (history.used ++ used) ≡ has_ip ip history.used = list_any-append (λ (other : Ip). same_ip other ip) history.used used ∙ or_nothing (has_ip ip history.used) (has_ip ip used) k in
    ap (λ (o : Option ℕ). record (told_in history ip) { rtt = o }) (sym found)
    ∙ ap (λ (b : Bool). record (told_in (record { rtts = history.rtts ++ rtts; used = history.used }) ip) { used = b }) (sym used_too)

-- what two histories know alike of an address, they know alike among the addresses of a race
same_known : (x y : History) (ips : List Ip) (ip : Ip) → told_in x ip ≡ told_in y ip → known_of (map (told_in x) ips) ip ≡ known_of (map (told_in y) ips) ip
same_known x y [] ip h = refl
same_known x y (other ∷ ips) ip h = by_test (same_ip other ip) refl (same_known x y ips ip h)
  where
    by_test : (b : Bool) → same_ip other ip ≡ b → known_of (map (told_in x) ips) ip ≡ known_of (map (told_in y) ips) ip → known_of (map (told_in x) (other ∷ ips)) ip ≡ known_of (map (told_in y) (other ∷ ips)) ip
    by_test true e rest = rw e (ap Some (subst (λ (z : Ip). told_in x z ≡ told_in y z) (sym (ip_from other ip e)) h))
    by_test false e rest = rw e rest

-- an address of the other family is none of these
pub other-family : (family : Family) (ip : Ip) (ips : List Ip) → is_of family ip ≡ false → are_of family ips ≡ true → has_ip ip ips ≡ false
other-family family ip [] away own = refl
other-family family ip (other ∷ ips) away own =
    or_none (same_ip other ip) _ (by_test (same_ip other ip) refl) (other-family family ip ips away (and_right (is_of family other) _ own))
  where
    by_test : (b : Bool) → same_ip other ip ≡ b → same_ip other ip ≡ false
    by_test true e = absurd (clash (is_of family ip) (subst (λ (z : Ip). is_of family z ≡ true) (ip_from other ip e) (and_left (is_of family other) _ own)) away)
    by_test false e = e

each_append : {X : Type 0} (P : X → Type 0) (xs ys : List X) → Each P xs → Each P ys → Each P (xs ++ ys)
each_append P [] ys h k = k
each_append P (x ∷ xs) ys h k = (h.0, each_append P xs ys h.1 k)

each_weaker : {X : Type 0} (P Q : X → Type 0) (xs : List X) → ((x : X) → P x → Q x) → Each P xs → Each Q xs
each_weaker P Q [] weaker h = tt
each_weaker P Q (x ∷ xs) weaker h = (weaker x h.0, each_weaker P Q xs weaker h.1)

each_of : {X : Type 0} (p : X → Bool) (xs : List X) → list_all p xs ≡ true → Each (λ (x : X). p x ≡ true) xs
each_of p [] h = tt
each_of p (x ∷ xs) h = (and_left (p x) _ h, each_of p xs (and_right (p x) _ h))

-- a race of which more is known, or that has another host, is the same in all that starts depend on but the order
module _ (race : Race) (history : History) (host : HostLists) where
  abbrev pub relearnt : Race
  relearnt = record race { history = history; host = host }

  received_again : (t : ℕ) (o : Option Reply) → received_of relearnt t o ≡ received_of race t o
  received_again t None = refl
  received_again t (Some reply) = refl

  pub same-received : (t : ℕ) → received relearnt t ≡ received race t
  same-received t =
      ap (λ (ips : List Ip). ips ++ received_of relearnt t race.a) (received_again t race.aaaa) ∙ ap (λ (ips : List Ip). received_of race t race.aaaa ++ ips) (received_again t race.a)

  flag_again : (t : ℕ) (o : Option Reply) → is_received relearnt t o ≡ is_received race t o
  flag_again t None = refl
  flag_again t (Some reply) = refl

  failed_again : (t start : ℕ) (o : Option Outcome) → has_failed_by relearnt t start o ≡ has_failed_by race t start o
  failed_again t start None = refl
  failed_again t start (Some (outcomes.Ok duration)) = refl
  failed_again t start (Some (outcomes.Fail duration)) = refl

  all_failed_again : (t : ℕ) (done : List Attempt) → list_all (has_failed relearnt t) done ≡ list_all (has_failed race t) done
  all_failed_again t [] = refl
  all_failed_again t (x ∷ done) =
      let one : has_failed relearnt t x ≡ has_failed race t x = failed_again t x.tick (outcome_of race x.ip) in
      rw (one, all_failed_again t done)

  waited_to : (done : List Attempt) (t : ℕ) (last : Attempt) → HasWaited race done t last → HasWaited relearnt done t last
  waited_to done t last (inl over) = inl over
  waited_to done t last (inr h) = inr (by_floor race.settings.floor h)
    where
      by_floor : (floor : Option ℕ) → IsSomeAnd floor (λ f. (last.tick + f ≤ t) × HaveFailed race done t) → IsSomeAnd floor (λ f. (last.tick + f ≤ t) × HaveFailed relearnt done t)
      by_floor None h = absurd h
      by_floor (Some f) h = (h.0, all_failed_again t done ∙ h.1)

  waited_from : (done : List Attempt) (t : ℕ) (last : Attempt) → HasWaited relearnt done t last → HasWaited race done t last
  waited_from done t last (inl over) = inl over
  waited_from done t last (inr h) = inr (by_floor race.settings.floor h)
    where
      by_floor : (floor : Option ℕ) → IsSomeAnd floor (λ f. (last.tick + f ≤ t) × HaveFailed relearnt done t) → IsSomeAnd floor (λ f. (last.tick + f ≤ t) × HaveFailed race done t)
      by_floor None h = absurd h
      by_floor (Some f) h = (h.0, sym (all_failed_again t done) ∙ h.1)

  starts_to : (done : List Attempt) (t : ℕ) → MayStart race done t → MayStart relearnt done t
  starts_to done t m = (m.0, by_last (last_of done) m.1)
    where
      by_last : (o : Option Attempt) → MatchOption o (MayBegin race t) (MayFollow race done t) → MatchOption o (MayBegin relearnt t) (MayFollow relearnt done t)
      by_last None h = h
      by_last (Some last) h = record {
        free = h.free;
        waited = waited_to done t last h.waited;
        some = subst (λ (ips : List Ip). list_any (is_untried done) ips ≡ true) (sym (same-received t)) h.some;
      }

  starts_from : (done : List Attempt) (t : ℕ) → MayStart relearnt done t → MayStart race done t
  starts_from done t m = (m.0, by_last (last_of done) m.1)
    where
      by_last : (o : Option Attempt) → MatchOption o (MayBegin relearnt t) (MayFollow relearnt done t) → MatchOption o (MayBegin race t) (MayFollow race done t)
      by_last None h = h
      by_last (Some last) h = record {
        free = h.free;
        waited = waited_from done t last h.waited;
        some = subst (λ (ips : List Ip). list_any (is_untried done) ips ≡ true) (same-received t) h.some;
      }

  pub same-starts : (done : List Attempt) (t : ℕ) → MayStart race done t ↔ MayStart relearnt done t
  same-starts done t = (starts_to done t, starts_from done t)

  next_again : (done : List Attempt) (next : Attempt) → order_at race next.tick ≡ order_at relearnt next.tick → IsNext race done next → IsNext relearnt done next
  next_again done next ordered is = record {
    place = is.place;
    tick = record { holds = starts_to done next.tick is.tick.holds; least = λ t m. is.tick.least t (starts_from done t m) };
    ip = subst (λ (ips : List Ip). find (is_untried done) ips ≡ Some next.ip) ordered is.ip;
  }

  below_at : (before : ℕ) (attempts : List Attempt) (n : ℕ) (next : Attempt) → list_all (λ (x : Attempt). nat_lt x.tick before) attempts ≡ true → slice_get attempts n ≡ Some next → next.tick < before
  below_at before [] n next all at = cc
  below_at before (x ∷ xs) zero next all at =
      let same : x ≡ next = cc in
      subst (λ (y : Attempt). y.tick < before) same (lt_from x.tick before (and_left (nat_lt x.tick before) _ all))
  below_at before (x ∷ xs) (suc n) next all at = below_at before xs n next (and_right (nat_lt x.tick before) _ all) at

  -- where the order stays below a tick, the attempts below it stay next in turn
  pub same-attempts : (before : ℕ) → ((t : ℕ) → t < before → order_at race t ≡ order_at relearnt t) → (attempts : List Attempt) → list_all (λ (x : Attempt). nat_lt x.tick before) attempts ≡ true → AreNextInTurn race attempts → AreNextInTurn relearnt attempts
  same-attempts before ordered attempts all in_turn = λ n next at. next_again (take n attempts) next (ordered next.tick (below_at before attempts n next all at)) (in_turn n next at)

  ended_again : (now : ℕ) (xs : List Attempt) → All (λ (x : Attempt). IfSome (outcome_of race x.ip) (EndedBy race now false x)) xs → All (λ (x : Attempt). IfSome (outcome_of race x.ip) (EndedBy relearnt now false x)) xs
  ended_again now xs ended = All-weaker (λ (x : Attempt). IfSome (outcome_of race x.ip) (EndedBy race now false x)) (λ (x : Attempt). IfSome (outcome_of race x.ip) (EndedBy relearnt now false x)) (λ x h. by_outcome x (outcome_of race x.ip) h) xs ended
    where
      by_outcome : (x : Attempt) (o : Option Outcome) → IfSome o (EndedBy race now false x) → IfSome o (EndedBy relearnt now false x)
      by_outcome x None h = tt
      by_outcome x (Some (outcomes.Ok d)) h = h
      by_outcome x (Some (outcomes.Fail d)) h = h

  -- a turn goes on where more is learnt in it, if the order below its tick stays
  pub relearnt-turn : (now : ℕ) (xs : List Attempt) → InTurn race now xs false → ((t : ℕ) → t < now → order_at race t ≡ order_at relearnt t) → IsRace relearnt → InTurn relearnt now xs false
  relearnt-turn now xs t ordered valid = record {
    valid = valid;
    made = record { in_turn = same-attempts now ordered xs (all_before now xs t.past) t.made.in_turn; tried = t.made.tried };
    past = t.past;
    over = t.over;
    ended = ended_again now xs t.ended;
    stops = λ s m. t.stops s (starts_from xs s m);
    success = λ e. cc;
    few = t.few;
    starts = λ waits early. starts_to xs now (t.starts waits early);
  }

-- the order of addresses of which two histories know the same
same_order : (race : Race) (history : History) (ips : List Ip) → Each (λ (ip : Ip). told_in race.history ip ≡ told_in history ip) ips → order race ips ≡ order (record race { history = history }) ips
same_order race history ips same =
    let known : List Known = map (told_in race.history) (usable_addresses race) in
    let other : List Known = map (told_in history) (usable_addresses race) in
    let alike : Each (Alike race.policy race.host known other) ips =
    each_weaker (λ (ip : Ip). told_in race.history ip ≡ told_in history ip) (Alike race.policy race.host known other) ips (λ ip told.
    let found : known_of known ip ≡ known_of other ip = same_known race.history history (usable_addresses race) ip told in
    (ap (option_and_then (λ (one : Known). one.rtt)) found, ap (λ (o : Option Known). option_map_or (λ (one : Known). one.used) o false) found)) same in
    order_of_alike race.policy race.host known other ips alike

-- the order of addresses of the other family on the host that has more lines
wider_order : (race : Race) (family : Family) (answer : AnswerLists) (ips : List Ip) → Each (λ (ip : Ip). is_of family ip ≡ false) ips → order race ips ≡ order (with_lines race family answer) ips
wider_order race family answer ips away =
    order-wider race.policy (map (told_in race.history) (usable_addresses race)) family race.host (more_sources family answer race.host) (more_routes family answer race.host) (sources-own family answer race.host) (routes-own family answer race.host) ips away

own_part : (a b c d : Bool) → (a && b && c && d) ≡ true → c ≡ true
own_part a b c d h = and_right (a && b) c (and_left (a && b && c) d h)

-- the addresses of an answer are of its family
pub answer-own : (family : Family) (o : Option Reply) → is_answer family o ≡ true → are_of family (addresses_of o) ≡ true
answer-own family None h = refl
answer-own family (Some reply) h = own_part (nat_le reply.tick MAX_TICK) (nat_le (length reply.addresses) MAX_ADDRESSES) (are_of family reply.addresses) (are_distinct reply.addresses) h

-- what was received of an answer is of its family
part_of : (race : Race) (t : ℕ) (family : Family) (o : Option Reply) → is_answer family o ≡ true → Each (λ (ip : Ip). is_of family ip ≡ true) (received_of race t o)
part_of race t family None h = tt
part_of race t family (Some reply) h = by_test (nat_le (seen race reply.tick) t)
  where
    by_test : (b : Bool) → Each (λ (ip : Ip). is_of family ip ≡ true) (if b then filter is_usable reply.addresses else [])
    by_test true = each_of (is_of family) (filter is_usable reply.addresses) (all_kept (is_of family) is_usable reply.addresses (answer-own family (Some reply) h))
    by_test false = tt

pub not_four : (ip : Ip) → is_of families.V4 ip ≡ true → is_of families.V6 ip ≡ false
not_four ip h = by_test (is_v6 ip) h
  where
    by_test : (b : Bool) → not b ≡ true → b ≡ false
    by_test true e = cc
    by_test false e = refl

pub not_six : (ip : Ip) → is_of families.V6 ip ≡ true → is_of families.V4 ip ≡ false
not_six ip h = ap not h

-- while a family has no answer, what was received is of the other one
received_others : (race : Race) → IsRace race → (t : ℕ) (family : Family) → reply_of race family ≡ None → Each (λ (ip : Ip). is_of family ip ≡ false) (received race t)
received_others race r t families.V6 none =
    each_append (λ (ip : Ip). is_of families.V6 ip ≡ false) (received_of race t race.aaaa) (received_of race t race.a)
    (subst (λ (o : Option Reply). Each (λ (ip : Ip). is_of families.V6 ip ≡ false) (received_of race t o)) (sym none) tt)
    (each_weaker (λ (ip : Ip). is_of families.V4 ip ≡ true) (λ (ip : Ip). is_of families.V6 ip ≡ false) (received_of race t race.a) not_four (part_of race t families.V4 race.a r.a))
received_others race r t families.V4 none =
    each_append (λ (ip : Ip). is_of families.V4 ip ≡ false) (received_of race t race.aaaa) (received_of race t race.a)
    (each_weaker (λ (ip : Ip). is_of families.V6 ip ≡ true) (λ (ip : Ip). is_of families.V4 ip ≡ false) (received_of race t race.aaaa) not_six (part_of race t families.V6 race.aaaa r.aaaa))
    (subst (λ (o : Option Reply). Each (λ (ip : Ip). is_of families.V4 ip ≡ false) (received_of race t o)) (sym none) tt)

-- what an answer leaves as it was
module _ (race : Race) (reply : Reply) where
  same_settings : (family : Family) → (with_answer race family reply).settings ≡ race.settings
  same_settings families.V6 = refl
  same_settings families.V4 = refl

  same_outcomes : (family : Family) → (with_answer race family reply).outcomes ≡ race.outcomes
  same_outcomes families.V6 = refl
  same_outcomes families.V4 = refl

  same_pauses : (family : Family) → (with_answer race family reply).pauses ≡ race.pauses
  same_pauses families.V6 = refl
  same_pauses families.V4 = refl

module _ (race : Race) (r : IsRace race) (family : Family) (none : reply_of race family ≡ None) (now : ℕ) (answer : AnswerLists) (ips : List Ip) (own : are_of family ips ≡ true) where
  abbrev reply : Reply
  reply = record { tick = now; addresses = ips }

  abbrev answered : Race
  answered = with_answer race family reply

  abbrev learnt : History
  learnt = record { rtts = answered.history.rtts ++ rtts_told answer.known ips; used = answered.history.used ++ used_told answer.known ips }

  abbrev host : HostLists
  host = widened family answer answered.host

  -- what was received before the answer is of the other family
  others : (t : ℕ) → t < now → Each (λ (ip : Ip). is_of family ip ≡ false) (received answered t)
  others t below = subst (Each (λ (ip : Ip). is_of family ip ≡ false)) (received-before race r reply family none t below) (received_others race r t family none)

  -- what is learnt with the answer leaves what is known of those
  others_same : (t : ℕ) → t < now → Each (λ (ip : Ip). told_in answered.history ip ≡ told_in learnt ip) (received answered t)
  others_same t below =
      each_weaker (λ (ip : Ip). is_of family ip ≡ false) (λ (ip : Ip). told_in answered.history ip ≡ told_in learnt ip) (received answered t) (λ ip other.
      let away : has_ip ip ips ≡ false = other-family family ip ips other own in
      same_told answered.history (rtts_told answer.known ips) (used_told answer.known ips) ip (untold-rtts answer.known ip ips away) (none_kept same_ip (known_used answer.known) ip ips away)) (others t below)

  -- and so do the lines
  ordered_learnt : (t : ℕ) → t < now → order answered (received answered t) ≡ order (relearnt answered learnt host) (received (relearnt answered learnt host) t)
  ordered_learnt t below =
      let known : Race = record answered { history = learnt } in
      same_order answered learnt (received answered t) (others_same t below) ∙ wider_order known family answer (received answered t) (others t below)
      ∙ ap (order (relearnt answered learnt host)) (sym (same-received answered learnt host t))

  learnt_order : (t : ℕ) → t < now → order_at answered t ≡ order_at (relearnt answered learnt host) t
  learnt_order t below = ap (λ (all : List Ip). interlace all answered.settings.count) (ordered_learnt t below)

  pub heard-starts : (done : List Attempt) (t : ℕ) → t < now → MayStart race done t ↔ MayStart (with_heard race family now answer ips) done t
  heard-starts done t below =
      let one : MayStart race done t ↔ MayStart answered done t = starts-before race r reply family none done t below in
      let two : MayStart answered done t ↔ MayStart (relearnt answered learnt host) done t = same-starts answered learnt host done t in
      ((λ m. two.0 (one.0 m)), (λ m. one.1 (two.1 m)))

  pub heard-order : (t : ℕ) → t < now → order_at race t ≡ order_at (with_heard race family now answer ips) t
  heard-order t below = order-before race r reply family none t below ∙ learnt_order t below

  pub heard-attempts : (attempts : List Attempt) → list_all (λ (x : Attempt). nat_lt x.tick now) attempts ≡ true → AreNextInTurn race attempts → AreNextInTurn (with_heard race family now answer ips) attempts
  heard-attempts attempts all in_turn =
      same-attempts answered learnt host now learnt_order attempts all (attempts-before race r reply family none attempts all in_turn)

  -- before the answer the same is received, in the same order
  received_learnt : (t : ℕ) → t < now → IsReceivedAlike race (with_heard race family now answer ips) t
  received_learnt t below =
      let one : IsReceivedAlike race answered t = received-alike race r reply family none t below in
      record {
        six = flag_again answered learnt host t answered.aaaa ∙ one.six;
        four = flag_again answered learnt host t answered.a ∙ one.four;
        addresses = same-received answered learnt host t ∙ one.addresses;
        ordered = sym (ordered_learnt t below) ∙ one.ordered;
      }

  -- so nothing changes for attempts that started before
  pub learnt-alike : (attempts : List Attempt) → All (λ (x : Attempt). x.tick < now) attempts → AreNextInTurn race attempts → IsAlikeSoFar race (with_heard race family now answer ips) attempts
  learnt-alike attempts past in_turn = record {
    in_turn = heard-attempts attempts (all_before now attempts past) in_turn;
    settings = same_settings race reply family;
    outcomes = same_outcomes race reply family;
    pauses = same_pauses race reply family;
    last = by_last (last_of attempts) (last_before now attempts past);
  }
    where
      by_last : (o : Option Attempt) → IfSome o (λ x. x.tick < now) → IfSome o (λ x. IsReceivedAlike race (with_heard race family now answer ips) x.tick)
      by_last None h = tt
      by_last (Some x) h = received_learnt x.tick h

  -- a turn goes on where what is told with an answer is recorded in it
  pub learnt-turn : (xs : List Attempt) → InTurn answered now xs false → IsRace (with_heard race family now answer ips) → InTurn (with_heard race family now answer ips) now xs false
  learnt-turn xs t valid = relearnt-turn answered learnt host now xs t learnt_order valid

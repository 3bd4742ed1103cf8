-- One more answer changes nothing before its tick.
use Rattle.std.proofs.Common.{◌≡◌, ℕ, zero, suc, ◌+◌, ◌≤◌, ◌<◌, ◌↔◌, ◌++◌, Bool, true, false, List, [], ◌∷◌, if◌then◌else◌, find, filter, map, take, Option, Some, None, MatchOption, IsSomeAnd, nat_le, nat_lt, refl, sym, ◌∙◌, ap, subst, arith, inl, inr}
use Rattle.std.specs.List.{list_all, list_any, slice_get}
use Rattle.std.specs.Option.{option_and_then, option_map_or}
use Rattle.std.proofs.lemmas.Bool.{cases_lt}
use Rattle.he_addr.specs.Ip.{is_usable}
use Rattle.he_addr.specs.declared.ip.Family.{Family}
use Rattle.he_addr.specs.declared.ip.Family.TheVariants as families
use Rattle.he_addr.specs.declared.ip.Ip.{Ip}
use Rattle.he_plan.specs.declared.attempts.Attempt.{Attempt}
use Rattle.he_timeline.specs.declared.outcome.Outcome.{Outcome}
use Rattle.he_timeline.specs.declared.outcome.Outcome.TheVariants as outcomes
use Rattle.he_plan.specs.Alternating.{interlace}
use Rattle.he_plan.specs.Attempts.{AreNextInTurn, HasWaited, HaveFailed, IsAnswered, IsNext, IsPositive, MayBegin, MayFollow, MayStart, has_failed, has_failed_by, is_untried, last_of, order, order_at, received, received_of}
use Rattle.he_plan.specs.Planning.{is_received}
use Rattle.he_plan.specs.RaceState.{IsReceivedAlike}
use Rattle.he_timeline.specs.Seen.{seen}
use Rattle.he_timeline.specs.Building.{with_answer}
use Rattle.he_timeline.specs.Race.{outcome_of, History, Race, Reply, addresses_of, known_of as told_in, reply_of, usable_addresses}
use Rattle.he_timeline.specs.Timeline.{IsRace}
use Rattle.he_timeline.proofs.Bools.{and_left, and_right, lt_from, not_le}
use Rattle.he_timeline.proofs.Seen.{IsSeen-seen}
use Rattle.he_select.specs.declared.known.Known.{Known}
use Rattle.he_select.specs.Selection.{known_of}
use Rattle.he_select.proofs.Alike.{Alike, order_of_alike}
use Rattle.he_select.proofs.Counting.{Each}
use Rattle.he_select.proofs.KnownLists.{known_in}

-- the address stands in the list
abbrev Stands : List Ip → Ip → Type 0
Stands ips ip = (i : ℕ) × (slice_get ips i ≡ Some ip)

each_append : {X : Type 0} (P : X → Type 0) (xs ys : List X) → Each P xs → Each P ys → Each P (xs ++ ys)
each_append P [] ys h k = k
each_append P (x ∷ xs) ys h k = (h.0, each_append P xs ys h.1 k)

each_weaker : {X : Type 0} (P Q : X → Type 0) (xs : List X) → ((x : X) → P x → Q x) → Each P xs → Each Q xs
each_weaker P Q [] weaker h = tt
each_weaker P Q (x ∷ xs) weaker h = (weaker x h.0, each_weaker P Q xs weaker h.1)

each_both : {X : Type 0} (P Q R : X → Type 0) (xs : List X) → ((x : X) → P x → Q x → R x) → Each P xs → Each Q xs → Each R xs
each_both P Q R [] both h k = tt
each_both P Q R (x ∷ xs) both h k = (both x h.0 k.0, each_both P Q R xs both h.1 k.1)

stands_left : (xs ys : List Ip) (ip : Ip) (i : ℕ) → slice_get xs i ≡ Some ip → slice_get (xs ++ ys) i ≡ Some ip
stands_left [] ys ip i h = cc
stands_left (x ∷ xs) ys ip zero h = h
stands_left (x ∷ xs) ys ip (suc i) h = stands_left xs ys ip i h

stands_right : (xs ys : List Ip) (ip : Ip) → Stands ys ip → Stands (xs ++ ys) ip
stands_right [] ys ip h = h
stands_right (x ∷ xs) ys ip h = let later : Stands (xs ++ ys) ip = stands_right xs ys ip h in (suc later.0, later.1)

each_stands : (ips : List Ip) → Each (Stands ips) ips
each_stands [] = tt
each_stands (ip ∷ ips) = ((zero, refl), each_weaker (Stands ips) (Stands (ip ∷ ips)) ips (λ other h. (suc h.0, h.1)) (each_stands ips))

-- what is received of an answer stands among its usable addresses
part_stands : (race : Race) (t : ℕ) (o : Option Reply) → Each (Stands (filter is_usable (addresses_of o))) (received_of race t o)
part_stands race t None = tt
part_stands race t (Some reply) = by_test (nat_le (seen race reply.tick) t)
  where
    by_test : (b : Bool) → Each (Stands (filter is_usable reply.addresses)) (if b then filter is_usable reply.addresses else [])
    by_test true = each_stands (filter is_usable reply.addresses)
    by_test false = tt

received_stands : (race : Race) (t : ℕ) → Each (Stands (usable_addresses race)) (received race t)
received_stands race t =
    let six : List Ip = filter is_usable (addresses_of race.aaaa) in
    let four : List Ip = filter is_usable (addresses_of race.a) in
    each_append (Stands (six ++ four)) (received_of race t race.aaaa) (received_of race t race.a)
    (each_weaker (Stands six) (Stands (six ++ four)) (received_of race t race.aaaa) (λ ip h. (h.0, stands_left six four ip h.0 h.1)) (part_stands race t race.aaaa))
    (each_weaker (Stands four) (Stands (six ++ four)) (received_of race t race.a) (λ ip h. stands_right six four ip h) (part_stands race t race.a))

-- of an address that stands in two lists the same is known by both
known_both : (history : History) (xs ys : List Ip) (ip : Ip) → Stands xs ip → Stands ys ip → known_of (map (told_in history) xs) ip ≡ known_of (map (told_in history) ys) ip
known_both history xs ys ip x y =
    known_in (told_in history) (λ other. refl) xs x.0 ip x.1 ∙ sym (known_in (told_in history) (λ other. refl) ys y.0 ip y.1)

-- the order of addresses that stand in the answers of two races with one policy, host and history
order_both : (x y : Race) → y.policy ≡ x.policy → y.host ≡ x.host → y.history ≡ x.history → (ips : List Ip) → Each (Stands (usable_addresses x)) ips → Each (Stands (usable_addresses y)) ips → order x ips ≡ order y ips
order_both x y policy host history ips h k =
    let known : List Known = map (told_in x.history) (usable_addresses x) in
    let other : List Known = map (told_in x.history) (usable_addresses y) in
    let alike : Each (Alike x.policy x.host known other) ips =
    each_both (Stands (usable_addresses x)) (Stands (usable_addresses y)) (Alike x.policy x.host known other) ips (λ ip one two.
    let same : known_of known ip ≡ known_of other ip = known_both x.history (usable_addresses x) (usable_addresses y) ip one two in
    (ap (option_and_then (λ (found : Known). found.rtt)) same, ap (λ (o : Option Known). option_map_or (λ (found : Known). found.used) o false) same)) h k in
    order_of_alike x.policy x.host known other ips alike ∙ rw (policy, host, history) refl

module _ (race : Race) (r : IsRace race) (reply : Reply) where
  -- an answer isn't seen before its tick
  unseen : (t : ℕ) → t < reply.tick → seen race reply.tick ≤ t → ⊥
  unseen t below h = omega (arith, (IsSeen-seen race r reply.tick).holds.0)

  none_received : (t : ℕ) → t < reply.tick → received_of race t (Some reply) ≡ []
  none_received t below =
      ap (λ (b : Bool). if b then filter is_usable reply.addresses else []) (not_le (seen race reply.tick) t (omega (arith, below, (IsSeen-seen race r reply.tick).holds.0)))

  received_again : (family : Family) (t : ℕ) (o : Option Reply) → received_of (with_answer race family reply) t o ≡ received_of race t o
  received_again families.V6 t None = refl
  received_again families.V6 t (Some other) = refl
  received_again families.V4 t None = refl
  received_again families.V4 t (Some other) = refl

  pub received-before : (family : Family) → reply_of race family ≡ None → (t : ℕ) → t < reply.tick → received race t ≡ received (with_answer race family reply) t
  received-before families.V6 none t below =
      ap (λ (o : Option Reply). received_of race t o ++ received_of race t race.a) none
      ∙ ap (λ (ips : List Ip). ips ++ received_of race t race.a) (sym (none_received t below))
      ∙ ap (λ (ips : List Ip). ips ++ received_of race t race.a) (sym (received_again families.V6 t (Some reply)))
      ∙ ap (λ (ips : List Ip). received_of (with_answer race families.V6 reply) t (Some reply) ++ ips) (sym (received_again families.V6 t race.a))
  received-before families.V4 none t below =
      ap (λ (o : Option Reply). received_of race t race.aaaa ++ received_of race t o) none
      ∙ ap (λ (ips : List Ip). received_of race t race.aaaa ++ ips) (sym (none_received t below))
      ∙ ap (λ (ips : List Ip). received_of race t race.aaaa ++ ips) (sym (received_again families.V4 t (Some reply)))
      ∙ ap (λ (ips : List Ip). ips ++ received_of (with_answer race families.V4 reply) t (Some reply)) (sym (received_again families.V4 t race.aaaa))

  same_policy : (family : Family) → (with_answer race family reply).policy ≡ race.policy
  same_policy families.V6 = refl
  same_policy families.V4 = refl

  same_host : (family : Family) → (with_answer race family reply).host ≡ race.host
  same_host families.V6 = refl
  same_host families.V4 = refl

  same_history : (family : Family) → (with_answer race family reply).history ≡ race.history
  same_history families.V6 = refl
  same_history families.V4 = refl

  same_settings : (family : Family) → (with_answer race family reply).settings ≡ race.settings
  same_settings families.V6 = refl
  same_settings families.V4 = refl

  ordered_before : (family : Family) → reply_of race family ≡ None → (t : ℕ) → t < reply.tick → order race (received race t) ≡ order (with_answer race family reply) (received (with_answer race family reply) t)
  ordered_before family none t below =
      let new : Race = with_answer race family reply in
      let same : received race t ≡ received new t = received-before family none t below in
      let stands : Each (Stands (usable_addresses new)) (received race t) = subst (Each (Stands (usable_addresses new))) (sym same) (received_stands new t) in
      order_both race new (same_policy family) (same_host family) (same_history family) (received race t) (received_stands race t) stands ∙ ap (order new) same

  pub order-before : (family : Family) → reply_of race family ≡ None → (t : ℕ) → t < reply.tick → order_at race t ≡ order_at (with_answer race family reply) t
  order-before family none t below =
      let new : Race = with_answer race family reply in
      ap (λ (ips : List Ip). interlace ips race.settings.count) (ordered_before family none t below)
      ∙ ap (λ (count : ℕ). interlace (order new (received new t)) count) (sym (ap (λ settings. settings.count) (same_settings family)))

  flag_again : (family : Family) (t : ℕ) (o : Option Reply) → is_received (with_answer race family reply) t o ≡ is_received race t o
  flag_again families.V6 t None = refl
  flag_again families.V6 t (Some other) = refl
  flag_again families.V4 t None = refl
  flag_again families.V4 t (Some other) = refl

  flag_new : (t : ℕ) → t < reply.tick → (o : Option Reply) → o ≡ None → is_received race t (Some reply) ≡ is_received race t o
  flag_new t below o none =
      not_le (seen race reply.tick) t (omega (arith, below, (IsSeen-seen race r reply.tick).holds.0)) ∙ sym (ap (is_received race t) none)

  -- before its tick the answer isn't received, and the others are in the order in which they were
  pub received-alike : (family : Family) → reply_of race family ≡ None → (t : ℕ) → t < reply.tick → IsReceivedAlike race (with_answer race family reply) t
  received-alike families.V6 none t below = record {
    six = flag_again families.V6 t (Some reply) ∙ flag_new t below race.aaaa none;
    four = flag_again families.V6 t race.a;
    addresses = sym (received-before families.V6 none t below);
    ordered = sym (ordered_before families.V6 none t below);
  }
  received-alike families.V4 none t below = record {
    six = flag_again families.V4 t race.aaaa;
    four = flag_again families.V4 t (Some reply) ∙ flag_new t below race.a none;
    addresses = sym (received-before families.V4 none t below);
    ordered = sym (ordered_before families.V4 none t below);
  }

  failed_again : (family : Family) (t start : ℕ) (o : Option Outcome) → has_failed_by (with_answer race family reply) t start o ≡ has_failed_by race t start o
  failed_again families.V6 t start None = refl
  failed_again families.V6 t start (Some (outcomes.Ok duration)) = refl
  failed_again families.V6 t start (Some (outcomes.Fail duration)) = refl
  failed_again families.V4 t start None = refl
  failed_again families.V4 t start (Some (outcomes.Ok duration)) = refl
  failed_again families.V4 t start (Some (outcomes.Fail duration)) = refl

  same_outcome : (family : Family) (ip : Ip) → outcome_of (with_answer race family reply) ip ≡ outcome_of race ip
  same_outcome families.V6 ip = refl
  same_outcome families.V4 ip = refl

  all_failed_again : (family : Family) (t : ℕ) (done : List Attempt) → list_all (has_failed (with_answer race family reply) t) done ≡ list_all (has_failed race t) done
  all_failed_again family t [] = refl
  all_failed_again family t (x ∷ done) =
      let one : has_failed (with_answer race family reply) t x ≡ has_failed race t x = ap (has_failed_by (with_answer race family reply) t x.tick) (same_outcome family x.ip) ∙ failed_again family t x.tick (outcome_of race x.ip) in
      rw (one, all_failed_again family t done)

  waited_to : (family : Family) (done : List Attempt) (t : ℕ) (last : Attempt) → HasWaited race done t last → HasWaited (with_answer race family reply) done t last
  waited_to families.V6 done t last (inl over) = inl over
  waited_to families.V4 done t last (inl over) = inl over
  waited_to families.V6 done t last (inr h) = inr (by_floor race.settings.floor h)
    where
      by_floor : (floor : Option ℕ) → IsSomeAnd floor (λ f. (last.tick + f ≤ t) × HaveFailed race done t) → IsSomeAnd floor (λ f. (last.tick + f ≤ t) × HaveFailed (with_answer race families.V6 reply) done t)
      by_floor None h = absurd h
      by_floor (Some f) h = (h.0, all_failed_again families.V6 t done ∙ h.1)
  waited_to families.V4 done t last (inr h) = inr (by_floor race.settings.floor h)
    where
      by_floor : (floor : Option ℕ) → IsSomeAnd floor (λ f. (last.tick + f ≤ t) × HaveFailed race done t) → IsSomeAnd floor (λ f. (last.tick + f ≤ t) × HaveFailed (with_answer race families.V4 reply) done t)
      by_floor None h = absurd h
      by_floor (Some f) h = (h.0, all_failed_again families.V4 t done ∙ h.1)

  waited_from : (family : Family) (done : List Attempt) (t : ℕ) (last : Attempt) → HasWaited (with_answer race family reply) done t last → HasWaited race done t last
  waited_from families.V6 done t last (inl over) = inl over
  waited_from families.V4 done t last (inl over) = inl over
  waited_from families.V6 done t last (inr h) = inr (by_floor race.settings.floor h)
    where
      by_floor : (floor : Option ℕ) → IsSomeAnd floor (λ f. (last.tick + f ≤ t) × HaveFailed (with_answer race families.V6 reply) done t) → IsSomeAnd floor (λ f. (last.tick + f ≤ t) × HaveFailed race done t)
      by_floor None h = absurd h
      by_floor (Some f) h = (h.0, sym (all_failed_again families.V6 t done) ∙ h.1)
  waited_from families.V4 done t last (inr h) = inr (by_floor race.settings.floor h)
    where
      by_floor : (floor : Option ℕ) → IsSomeAnd floor (λ f. (last.tick + f ≤ t) × HaveFailed (with_answer race families.V4 reply) done t) → IsSomeAnd floor (λ f. (last.tick + f ≤ t) × HaveFailed race done t)
      by_floor None h = absurd h
      by_floor (Some f) h = (h.0, sym (all_failed_again families.V4 t done) ∙ h.1)

  begins_to : (family : Family) → reply_of race family ≡ None → (t : ℕ) → MayBegin race t → MayBegin (with_answer race family reply) t
  begins_to families.V6 none t m = (
    m.0,
    elim m.1 [
      | inl six ↦ absurd (subst (IsPositive race t) none six)
      | inr four ↦ inr (
        four.0,
        elim four.1 [
          | inl answered ↦ absurd (subst (IsAnswered race t) none answered)
          | inr over ↦ inr over
        ],
      )
    ],
  )
  begins_to families.V4 none t m = (
    m.0,
    elim m.1 [
      | inl six ↦ inl six
      | inr four ↦ absurd (subst (IsPositive race t) none four.0)
    ],
  )

  begins_from : (family : Family) (t : ℕ) → t < reply.tick → MayBegin (with_answer race family reply) t → MayBegin race t
  begins_from families.V6 t below m = (
    m.0,
    elim m.1 [
      | inl six ↦ absurd (unseen t below six.1)
      | inr four ↦ inr (
        four.0,
        elim four.1 [
          | inl answered ↦ absurd (unseen t below answered)
          | inr over ↦ inr over
        ],
      )
    ],
  )
  begins_from families.V4 t below m = (
    m.0,
    elim m.1 [
      | inl six ↦ inl six
      | inr four ↦ absurd (unseen t below four.0.1)
    ],
  )

  follows_to : (family : Family) → reply_of race family ≡ None → (done : List Attempt) (t : ℕ) → t < reply.tick → (last : Attempt) → MayFollow race done t last → MayFollow (with_answer race family reply) done t last
  follows_to families.V6 none done t below last m = record {
    free = m.free;
    waited = waited_to families.V6 done t last m.waited;
    some = subst (λ (ips : List Ip). list_any (is_untried done) ips ≡ true) (received-before families.V6 none t below) m.some;
  }
  follows_to families.V4 none done t below last m = record {
    free = m.free;
    waited = waited_to families.V4 done t last m.waited;
    some = subst (λ (ips : List Ip). list_any (is_untried done) ips ≡ true) (received-before families.V4 none t below) m.some;
  }

  follows_from : (family : Family) → reply_of race family ≡ None → (done : List Attempt) (t : ℕ) → t < reply.tick → (last : Attempt) → MayFollow (with_answer race family reply) done t last → MayFollow race done t last
  follows_from families.V6 none done t below last m = record {
    free = m.free;
    waited = waited_from families.V6 done t last m.waited;
    some = subst (λ (ips : List Ip). list_any (is_untried done) ips ≡ true) (sym (received-before families.V6 none t below)) m.some;
  }
  follows_from families.V4 none done t below last m = record {
    free = m.free;
    waited = waited_from families.V4 done t last m.waited;
    some = subst (λ (ips : List Ip). list_any (is_untried done) ips ≡ true) (sym (received-before families.V4 none t below)) m.some;
  }

  starts_to : (family : Family) → reply_of race family ≡ None → (done : List Attempt) (t : ℕ) → t < reply.tick → MayStart race done t → MayStart (with_answer race family reply) done t
  starts_to family none done t below m = (rw (same_settings family) m.0, by_last (last_of done) m.1)
    where
      by_last : (o : Option Attempt) → MatchOption o (MayBegin race t) (MayFollow race done t) → MatchOption o (MayBegin (with_answer race family reply) t) (MayFollow (with_answer race family reply) done t)
      by_last None h = begins_to family none t h
      by_last (Some last) h = follows_to family none done t below last h

  starts_from : (family : Family) → reply_of race family ≡ None → (done : List Attempt) (t : ℕ) → t < reply.tick → MayStart (with_answer race family reply) done t → MayStart race done t
  starts_from family none done t below m = (rw (sym (same_settings family)) m.0, by_last (last_of done) m.1)
    where
      by_last : (o : Option Attempt) → MatchOption o (MayBegin (with_answer race family reply) t) (MayFollow (with_answer race family reply) done t) → MatchOption o (MayBegin race t) (MayFollow race done t)
      by_last None h = begins_from family t below h
      by_last (Some last) h = follows_from family none done t below last h

  pub starts-before : (family : Family) → reply_of race family ≡ None → (done : List Attempt) (t : ℕ) → t < reply.tick → MayStart race done t ↔ MayStart (with_answer race family reply) done t
  starts-before family none done t below = (starts_to family none done t below, starts_from family none done t below)

  next_before : (family : Family) → reply_of race family ≡ None → (done : List Attempt) (next : Attempt) → next.tick < reply.tick → IsNext race done next → IsNext (with_answer race family reply) done next
  next_before family none done next below is = record {
    place = is.place;
    tick = record {
      holds = starts_to family none done next.tick below is.tick.holds;
      least = λ t m. elim (cases_lt t next.tick) [
        | inl sooner ↦ is.tick.least t (starts_from family none done t (omega (arith, sooner, below)) m)
        | inr later ↦ omega arith
      ];
    };
    ip = subst (λ (ips : List Ip). find (is_untried done) ips ≡ Some next.ip) (order-before family none next.tick below) is.ip;
  }

  below_at : (attempts : List Attempt) (n : ℕ) (next : Attempt) → list_all (λ (x : Attempt). nat_lt x.tick reply.tick) attempts ≡ true → slice_get attempts n ≡ Some next → next.tick < reply.tick
  below_at [] n next all at = cc
  below_at (x ∷ xs) zero next all at =
      let same : x ≡ next = cc in
      subst (λ (y : Attempt). y.tick < reply.tick) same (lt_from x.tick reply.tick (and_left (nat_lt x.tick reply.tick) _ all))
  below_at (x ∷ xs) (suc n) next all at = below_at xs n next (and_right (nat_lt x.tick reply.tick) _ all) at

  pub attempts-before : (family : Family) → reply_of race family ≡ None → (attempts : List Attempt) → list_all (λ (x : Attempt). nat_lt x.tick reply.tick) attempts ≡ true → AreNextInTurn race attempts → AreNextInTurn (with_answer race family reply) attempts
  attempts-before family none attempts all in_turn = λ n next at. next_before family none (take n attempts) next (below_at attempts n next all at) (in_turn n next at)

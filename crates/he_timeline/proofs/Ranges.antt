-- Adding to a race keeps its ranges.
use Rattle.std.proofs.Common.{◌≡◌, ℕ, suc, ◌-◌, ◌<◌, ◌≤◌, ◌||◌, Bool, true, false, not, List, [], ◌∷◌, ◌++◌, length, Option, Some, None, is_some, nat_le, nat_lt, refl, sym, ◌∙◌, arith, length-append}
use Rattle.std.specs.List.{list_all, slice_get}
use Rattle.std.specs.Option.{option_map_or}
use Rattle.std.proofs.lemmas.Grind.{common_steps}
use Rattle.std.proofs.lemmas.List.Folds.{list_any-append, list_all-append}
use Rattle.he_addr.specs.Ip.{same_ip}
use Rattle.he_addr.specs.declared.ip.Family.{Family}
use Rattle.he_addr.specs.declared.ip.Family.TheVariants as families
use Rattle.he_addr.specs.declared.ip.Ip.{Ip}
use Rattle.he_addr.specs.declared.ip.Ip.TheVariants.{V4, V6}
use Rattle.he_timeline.specs.declared.outcome.Outcome.{Outcome}
use Rattle.he_timeline.specs.declared.limits.TheConstants.{MAX_TICK, MAX_ADDRESSES, MAX_PAUSES, MAX_PAUSE_END}
use Rattle.he_timeline.specs.Race.{Race, Reply, reply_of, addresses_of, has_ip, has_outcome, is_in_answer, is_told}
use Rattle.he_timeline.specs.Timeline.{IsRace, is_outcome, is_rtt, is_duration, duration_of, are_told_once, are_of, are_distinct, are_pauses}
use Rattle.he_timeline.proofs.Bools.{and_left, and_right, and_both, or_left_none, or_none, or_right_none}
use Rattle.he_timeline.specs.Building.{with_answer, with_outcome, with_pause, with_rtt, with_used, last_end}

pub same_ip-sym : (x y : Ip) → same_ip x y ≡ same_ip y x
same_ip-sym (V4 m) (V4 n) = grind (arith, common_steps)
same_ip-sym (V6 m) (V6 n) = grind (arith, common_steps)
same_ip-sym (V4 m) (V6 n) = refl
same_ip-sym (V6 m) (V4 n) = refl

pub list_all-weaker : {X : Type 0} (p q : X → Bool) (xs : List X) → ((x : X) → p x ≡ true → q x ≡ true) → list_all p xs ≡ true → list_all q xs ≡ true
list_all-weaker p q [] weaker h = refl
list_all-weaker p q (x ∷ xs) weaker h =
    let head : p x ≡ true = grind (arith, common_steps) in
    let tail : list_all p xs ≡ true = grind (arith, common_steps) in
    let first : q x ≡ true = weaker x head in
    let rest : list_all q xs ≡ true = list_all-weaker p q xs weaker tail in
    grind (arith, common_steps)

once_more : {V : Type 0} (told : List (Ip × V)) (p : Ip × V) → are_told_once told ≡ true → is_told p.0 told ≡ false → are_told_once (told ++ p ∷ []) ≡ true
once_more {V} [] p once new = refl
once_more {V} (q ∷ told) p once new =
    let rest : are_told_once (told ++ p ∷ []) ≡ true = once_more told p (grind (arith, common_steps)) (grind (arith, common_steps)) in
    let apart : same_ip p.0 q.0 ≡ false = rw (same_ip-sym p.0 q.0) (grind (arith, common_steps)) in
    let none : is_told q.0 (told ++ p ∷ []) ≡ false = rw (list_any-append (λ (x : Ip × V). same_ip x.0 q.0) told (p ∷ [])) (grind (arith, common_steps)) in
    grind (arith, common_steps)

pub IsRace-with_outcome : (race : Race) (ip : Ip) (outcome : Outcome) → IsRace race → is_duration (duration_of outcome) ≡ true → is_in_answer race ip ≡ true → has_outcome ip race.outcomes ≡ false → IsRace (with_outcome race ip outcome)
IsRace-with_outcome race ip outcome r lasts known new = record {
  settings = r.settings;
  policy = r.policy;
  host = r.host;
  aaaa = r.aaaa;
  a = r.a;
  rtts = r.rtts;
  rtts_once = r.rtts_once;
  used = r.used;
  used_once = r.used_once;
  outcomes = rw (list_all-append (is_outcome race) race.outcomes ((ip, outcome) ∷ [])) (let old : list_all (is_outcome race) race.outcomes ≡ true = r.outcomes in grind (arith, common_steps));
  once = once_more race.outcomes (ip, outcome) r.once new;
  pauses = r.pauses;
  few = r.few;
}

pub IsRace-with_rtt : (race : Race) (ip : Ip) (rtt : ℕ) → IsRace race → is_duration rtt ≡ true → is_in_answer race ip ≡ true → is_told ip race.history.rtts ≡ false → IsRace (with_rtt race ip rtt)
IsRace-with_rtt race ip rtt r lasts known new = record {
  settings = r.settings;
  policy = r.policy;
  host = r.host;
  aaaa = r.aaaa;
  a = r.a;
  rtts = rw (list_all-append (is_rtt race) race.history.rtts ((ip, rtt) ∷ [])) (let old : list_all (is_rtt race) race.history.rtts ≡ true = r.rtts in grind (arith, common_steps));
  rtts_once = once_more race.history.rtts (ip, rtt) r.rtts_once new;
  used = r.used;
  used_once = r.used_once;
  outcomes = r.outcomes;
  once = r.once;
  pauses = r.pauses;
  few = r.few;
}

-- a new address stands twice nowhere
pub distinct_more : (ips : List Ip) (ip : Ip) → are_distinct ips ≡ true → has_ip ip ips ≡ false → are_distinct (ips ++ ip ∷ []) ≡ true
distinct_more [] ip distinct new = refl
distinct_more (other ∷ ips) ip distinct new =
    let apart : same_ip ip other ≡ false = same_ip-sym ip other ∙ or_left_none (same_ip other ip) (has_ip ip ips) new in
    let none : has_ip other (ips ++ ip ∷ []) ≡ false = list_any-append (λ (x : Ip). same_ip x other) ips (ip ∷ []) ∙ or_none _ _ (is_no _ (and_left _ _ distinct)) (or_none _ _ apart refl) in
    and_both _ _ (not_no _ none) (distinct_more ips ip (and_right _ _ distinct) (or_right_none (same_ip other ip) (has_ip ip ips) new))
  where
    is_no : (b : Bool) → not b ≡ true → b ≡ false
    is_no true e = cc
    is_no false e = refl

    not_no : (b : Bool) → b ≡ false → not b ≡ true
    not_no true e = sym e
    not_no false e = refl

pub IsRace-with_used : (race : Race) (ip : Ip) → IsRace race → is_in_answer race ip ≡ true → has_ip ip race.history.used ≡ false → IsRace (with_used race ip)
IsRace-with_used race ip r known new = record {
  settings = r.settings;
  policy = r.policy;
  host = r.host;
  aaaa = r.aaaa;
  a = r.a;
  rtts = r.rtts;
  rtts_once = r.rtts_once;
  used = rw (list_all-append (is_in_answer race) race.history.used (ip ∷ [])) (let old : list_all (is_in_answer race) race.history.used ≡ true = r.used in grind (arith, common_steps));
  used_once = distinct_more race.history.used ip r.used_once new;
  outcomes = r.outcomes;
  once = r.once;
  pauses = r.pauses;
  few = r.few;
}

stands_still : (old : Option Reply) (ip : Ip) (ips : List Ip) (b : Bool) → is_some old ≡ false → (has_ip ip (addresses_of old) || b) ≡ true → (has_ip ip ips || b) ≡ true
stands_still None ip ips b none h = grind (arith, common_steps)
stands_still (Some reply) ip ips b none h = cc

stands_still_right : (old : Option Reply) (ip : Ip) (ips : List Ip) (b : Bool) → is_some old ≡ false → (b || has_ip ip (addresses_of old)) ≡ true → (b || has_ip ip ips) ≡ true
stands_still_right None ip ips b none h = grind (arith, common_steps)
stands_still_right (Some reply) ip ips b none h = cc

pub IsRace-with_answer : (race : Race) (family : Family) (tick : ℕ) (addresses : List Ip) → IsRace race → is_some (reply_of race family) ≡ false → nat_lt MAX_TICK tick ≡ false → nat_lt MAX_ADDRESSES (length addresses) ≡ false → are_of family addresses ≡ true → are_distinct addresses ≡ true → IsRace (with_answer race family (record { tick = tick; addresses = addresses }))
IsRace-with_answer race families.V6 tick addresses r none early few of distinct = record {
  settings = r.settings;
  policy = r.policy;
  host = r.host;
  aaaa = grind (arith, common_steps);
  a = r.a;
  rtts = list_all-weaker _ _ race.history.rtts (λ p h. and_both _ _ (and_left _ _ h) (stands_still race.aaaa p.0 addresses _ none (and_right _ _ h))) r.rtts;
  rtts_once = r.rtts_once;
  used = list_all-weaker _ _ race.history.used (λ ip h. stands_still race.aaaa ip addresses _ none h) r.used;
  used_once = r.used_once;
  outcomes = list_all-weaker _ _ race.outcomes (λ p h. and_both _ _ (and_left _ _ h) (stands_still race.aaaa p.0 addresses _ none (and_right _ _ h))) r.outcomes;
  once = r.once;
  pauses = r.pauses;
  few = r.few;
}
IsRace-with_answer race families.V4 tick addresses r none early few of distinct = record {
  settings = r.settings;
  policy = r.policy;
  host = r.host;
  aaaa = r.aaaa;
  a = grind (arith, common_steps);
  rtts = list_all-weaker _ _ race.history.rtts (λ p h. and_both _ _ (and_left _ _ h) (stands_still_right race.a p.0 addresses _ none (and_right _ _ h))) r.rtts;
  rtts_once = r.rtts_once;
  used = list_all-weaker _ _ race.history.used (λ ip h. stands_still_right race.a ip addresses _ none h) r.used;
  used_once = r.used_once;
  outcomes = list_all-weaker _ _ race.outcomes (λ p h. and_both _ _ (and_left _ _ h) (stands_still_right race.a p.0 addresses _ none (and_right _ _ h))) r.outcomes;
  once = r.once;
  pauses = r.pauses;
  few = r.few;
}

-- the end of the last pause, `low` where there is none
abbrev pub end_from : ℕ → List (ℕ × ℕ) → ℕ
end_from low [] = low
end_from low (p ∷ pauses) = end_from p.1 pauses

pub end_from-is : (low : ℕ) (pauses : List (ℕ × ℕ)) → option_map_or (λ (p : ℕ × ℕ). p.1) (slice_get pauses (length pauses - 1)) low ≡ end_from low pauses
end_from-is low [] = refl
end_from-is low (p ∷ []) = refl
end_from-is low (p ∷ q ∷ pauses) =
    let e : length (p ∷ q ∷ pauses) - 1 ≡ suc (length (q ∷ pauses) - 1) = omega arith in
    rw e (end_from-is low (q ∷ pauses))

pauses_more : (low : ℕ) (pauses : List (ℕ × ℕ)) (from to : ℕ) → are_pauses low pauses ≡ true → nat_le (end_from low pauses) from ≡ true → nat_lt from to ≡ true → nat_le to MAX_PAUSE_END ≡ true → are_pauses low (pauses ++ (from, to) ∷ []) ≡ true
pauses_more low [] from to are after before most = and_both _ _ (and_both _ _ (and_both _ _ after before) most) refl
pauses_more low (p ∷ pauses) from to are after before most =
    and_both _ _ (and_left _ _ are)
    (pauses_more p.1 pauses from to (and_right _ _ are) after before most)

pub IsRace-with_pause : (race : Race) (from to : ℕ) → IsRace race → last_end race.pauses ≤ from → from < to → to ≤ MAX_PAUSE_END → length race.pauses < MAX_PAUSES → IsRace (with_pause race from to)
IsRace-with_pause race from to r after before most few = record {
  settings = r.settings;
  policy = r.policy;
  host = r.host;
  aaaa = r.aaaa;
  a = r.a;
  rtts = r.rtts;
  rtts_once = r.rtts_once;
  used = r.used;
  used_once = r.used_once;
  outcomes = r.outcomes;
  once = r.once;
  pauses = pauses_more 0 race.pauses from to r.pauses (let e : last_end race.pauses ≡ end_from 0 race.pauses = end_from-is 0 race.pauses in grind (arith, common_steps)) (grind (arith, common_steps)) (grind (arith, common_steps));
  few = omega (arith, length-append race.pauses ((from, to) ∷ []));
}

-- What stays when a race gains an answer, something known of an address, an outcome or a pause.
use Rattle.std.proofs.Common.{◌≡◌, ℕ, ◌≤◌, ◌<◌, ◌++◌, ◌||◌, ◌&&◌, Bool, true, false, not, List, [], ◌∷◌, if◌then◌else◌, length, find, Some, Result, Ok, Err, nat_le, nat_lt, refl, sym, ◌∙◌, subst, arith}
use Rattle.std.specs.Option.{option_map}
use Rattle.std.proofs.lemmas.Bool.Decides.{Decides-eqb}
use Rattle.he_addr.specs.declared.ip.Family.{Family}
use Rattle.he_addr.specs.declared.ip.Ip.{Ip}
use Rattle.he_addr.specs.declared.ip.Ip.TheVariants.{V4, V6}
use Rattle.he_addr.specs.Ip.{same_ip}
use Rattle.he_timeline.specs.declared.builder.BuildFault.{BuildFault}
use Rattle.he_timeline.specs.declared.limits.TheConstants.{MAX_PAUSES, MAX_PAUSE_END}
use Rattle.he_timeline.specs.declared.outcome.Outcome.{Outcome}
use Rattle.he_plan.specs.Agreement.{AgreeBelow}
use Rattle.he_timeline.specs.Seen.{IsFree, is_paused}
use Rattle.he_timeline.specs.Building.{add_answer, add_outcome, add_pause, add_rtt, add_used, empty_race, last_end, with_answer, with_outcome, with_pause, with_rtt, with_used}
use Rattle.he_timeline.specs.Race.{outcome_in, outcome_of, Race, has_outcome}
use Rattle.he_timeline.specs.Settings.{IsSettings, SettingValues}
use Rattle.he_timeline.specs.Timeline.{IsRace, are_pauses}
use Rattle.he_timeline.proofs.Bools.{above, and_left, and_right, before, le_from, le_test, lt_from, lt_test, or_left_none, or_none, or_right, or_right_none, outside}
use Rattle.he_plan.proofs.Lawful.{is_paused-more}
use Rattle.he_timeline.proofs.Seen.{IsFirst, first}
use Rattle.he_timeline.proofs.Ranges.{IsRace-with_answer, IsRace-with_outcome, IsRace-with_pause, IsRace-with_rtt, IsRace-with_used, end_from, end_from-is}
use Rattle.he_select.specs.declared.policy.Row.{Row}
use Rattle.he_select.specs.Hosts.{HostLists, IsHost}
use Rattle.he_select.specs.Tables.{IsAdmitted}

-- a tick that one more pause does not cover is covered as before
not_more : (pauses : List (ℕ × ℕ)) (p : ℕ × ℕ) (t : ℕ) → is_paused (p ∷ []) t ≡ false → is_paused (pauses ++ p ∷ []) t ≡ is_paused pauses t
not_more pauses p t out = is_paused-more pauses p t ∙ drop_none (is_paused pauses t) (is_paused (p ∷ []) t) out
  where
    drop_none : (a b : Bool) → b ≡ false → (a || b) ≡ a
    drop_none true b e = refl
    drop_none false b e = e

pub pause-below : (race : Race) (from to : ℕ) → AgreeBelow from race (with_pause race from to)
pause-below race from to = record {
  alike = refl;
  free = λ t lt. let same : is_paused (race.pauses ++ (from, to) ∷ []) t ≡ is_paused race.pauses t = not_more race.pauses (from, to) t (or_none _ _ (before from to t lt) refl) in (λ free. same ∙ free, λ free. sym same ∙ free);
}

pub pause-away : (race : Race) (from to t : ℕ) → from ≤ t → t < to → is_paused (race.pauses ++ (from, to) ∷ []) t ≡ true
pause-away race from to t begun early =
    is_paused-more race.pauses (from, to) t ∙ or_right _ _ (covered (le_test from t begun) (lt_test t to early))
  where
    covered : nat_le from t ≡ true → nat_lt t to ≡ true → is_paused ((from, to) ∷ []) t ≡ true
    covered e f = rw (e, f)

free_from : (low : ℕ) (pauses : List (ℕ × ℕ)) (t : ℕ) → are_pauses low pauses ≡ true → end_from low pauses ≤ t → is_paused pauses t ≡ false
free_from low [] t are over = refl
free_from low (p ∷ pauses) t are over =
    or_none _ _ (outside p.0 p.1 t (omega (arith, ends_late p.1 pauses (and_right _ _ are)))) (free_from p.1 pauses t (and_right _ _ are) over)
  where
    ends_late : (low : ℕ) (pauses : List (ℕ × ℕ)) → are_pauses low pauses ≡ true → low ≤ end_from low pauses
    ends_late low [] are = omega arith
    ends_late low (q ∷ qs) are =
        let f : IsFirst low q qs = first low q qs are in
        omega (arith, f.after, f.some, ends_late q.1 qs f.rest)

pub pauses-over : (race : Race) → IsRace race → (t : ℕ) → last_end race.pauses ≤ t → IsFree race t
pauses-over race r t over = free_from 0 race.pauses t r.pauses (let e : last_end race.pauses ≡ end_from 0 race.pauses = end_from-is 0 race.pauses in omega arith)

pub outcome-below : (race : Race) (ip : Ip) (outcome : Outcome) (tick : ℕ) → AgreeBelow tick race (with_outcome race ip outcome)
outcome-below race ip outcome tick = record { alike = refl; free = λ t lt. (λ free. free, λ free. free) }

same_ip-self : (ip : Ip) → same_ip ip ip ≡ true
same_ip-self (V4 n) = (Decides-eqb n n).1 refl
same_ip-self (V6 n) = (Decides-eqb n n).1 refl

own_in : (told : List (Ip × Outcome)) (ip : Ip) (outcome : Outcome) → has_outcome ip told ≡ false → outcome_in (told ++ (ip, outcome) ∷ []) ip ≡ Some outcome
own_in [] ip outcome none = rw (same_ip-self ip)
own_in (p ∷ told) ip outcome none = by_head (same_ip p.0 ip) (or_left_none _ _ none) (own_in told ip outcome (or_right_none _ _ none))
  where
    by_head : (b : Bool) → b ≡ false → outcome_in (told ++ (ip, outcome) ∷ []) ip ≡ Some outcome → option_map (λ (q : Ip × Outcome). q.1) (if b then Some p else find (λ (q : Ip × Outcome). same_ip q.0 ip) (told ++ (ip, outcome) ∷ [])) ≡ Some outcome
    by_head true e rest = cc
    by_head false e rest = rest

pub outcome-own : (race : Race) (ip : Ip) (outcome : Outcome) → has_outcome ip race.outcomes ≡ false → outcome_of (with_outcome race ip outcome) ip ≡ Some outcome
outcome-own race ip outcome none = own_in race.outcomes ip outcome none

others_in : (told : List (Ip × Outcome)) (ip other : Ip) (outcome : Outcome) → same_ip ip other ≡ false → outcome_in (told ++ (ip, outcome) ∷ []) other ≡ outcome_in told other
others_in [] ip other outcome apart = rw apart
others_in (p ∷ told) ip other outcome apart = by_head (same_ip p.0 other) (others_in told ip other outcome apart)
  where
    by_head : (b : Bool) → outcome_in (told ++ (ip, outcome) ∷ []) other ≡ outcome_in told other → option_map (λ (q : Ip × Outcome). q.1) (if b then Some p else find (λ (q : Ip × Outcome). same_ip q.0 other) (told ++ (ip, outcome) ∷ [])) ≡ option_map (λ (q : Ip × Outcome). q.1) (if b then Some p else find (λ (q : Ip × Outcome). same_ip q.0 other) told)
    by_head true rest = refl
    by_head false rest = rest

pub outcome-others : (race : Race) (ip other : Ip) (outcome : Outcome) → same_ip ip other ≡ false → outcome_of (with_outcome race ip outcome) other ≡ outcome_of race other
outcome-others race ip other outcome apart = others_in race.outcomes ip other outcome apart

pub empty-grows : (settings : SettingValues) (policy : List Row) (host : HostLists) → IsSettings settings → IsAdmitted policy → IsHost host → IsRace (empty_race settings policy host)
empty-grows settings policy host s p h = record { settings = s; policy = p; host = h; aaaa = refl; a = refl; rtts = refl; rtts_once = refl; used = refl; used_once = refl; outcomes = refl; once = refl; pauses = refl; few = omega arith }

-- a choice that answers Ok was not the fault
no_fault : (b : Bool) (fault : BuildFault) (rest : Result Race BuildFault) (new : Race) → (if b then Err fault else rest) ≡ Ok new → (b ≡ false) × (rest ≡ Ok new)
no_fault true fault rest new h = cc
no_fault false fault rest new h = (refl, h)

abbrev taken : Race → Result Race BuildFault
taken race = Ok race

ok_is : (x y : Race) → taken x ≡ taken y → x ≡ y
ok_is x y h = cc

not_none : (b : Bool) → not b ≡ false → b ≡ true
not_none true h = refl
not_none false h = cc

pub rtt-grows : (race new : Race) (ip : Ip) (rtt : ℕ) → IsRace race → add_rtt ip rtt race ≡ Ok new → IsRace new
rtt-grows race new ip rtt r h =
    let first = no_fault _ _ _ new h in
    let second = no_fault _ _ _ new first.1 in
    let third = no_fault _ _ _ new second.1 in
    subst IsRace (ok_is (with_rtt race ip rtt) new third.1) (IsRace-with_rtt race ip rtt r (not_none _ first.0) (not_none _ second.0) third.0)

pub used-grows : (race new : Race) (ip : Ip) → IsRace race → add_used ip race ≡ Ok new → IsRace new
used-grows race new ip r h =
    let first = no_fault _ _ _ new h in
    let second = no_fault _ _ _ new first.1 in
    subst IsRace (ok_is (with_used race ip) new second.1) (IsRace-with_used race ip r (not_none _ first.0) second.0)

pub outcome-grows : (race new : Race) (ip : Ip) (outcome : Outcome) → IsRace race → add_outcome ip outcome race ≡ Ok new → IsRace new
outcome-grows race new ip outcome r h =
    let first = no_fault _ _ _ new h in
    let second = no_fault _ _ _ new first.1 in
    let third = no_fault _ _ _ new second.1 in
    subst IsRace (ok_is (with_outcome race ip outcome) new third.1) (IsRace-with_outcome race ip outcome r (not_none _ first.0) (not_none _ second.0) third.0)

pub pause-grows : (race new : Race) (from to : ℕ) → IsRace race → add_pause from to race ≡ Ok new → IsRace new
pause-grows race new from to r h =
    let first = no_fault _ _ _ new h in
    let second = no_fault _ _ _ new first.1 in
    let fits : (nat_le (last_end race.pauses) from && nat_lt from to && nat_le to MAX_PAUSE_END) ≡ true = not_none _ first.0 in
    subst IsRace (ok_is (with_pause race from to) new second.1) (IsRace-with_pause race from to r (le_from _ _ (and_left _ _ (and_left _ _ fits))) (lt_from _ _ (and_right _ _ (and_left _ _ fits))) (le_from _ _ (and_right _ _ fits)) (above MAX_PAUSES (length race.pauses) second.0))

pub answer-grows : (race new : Race) (family : Family) (tick : ℕ) (addresses : List Ip) → IsRace race → add_answer family tick addresses race ≡ Ok new → IsRace new
answer-grows race new family tick addresses r h =
    let first = no_fault _ _ _ new h in
    let second = no_fault _ _ _ new first.1 in
    let third = no_fault _ _ _ new second.1 in
    let fourth = no_fault _ _ _ new third.1 in
    let fifth = no_fault _ _ _ new fourth.1 in
    subst IsRace (ok_is (with_answer race family (record { tick = tick; addresses = addresses })) new fifth.1) (IsRace-with_answer race family tick addresses r first.0 second.0 third.0 (not_none _ fourth.0) (not_none _ fifth.0))

-- What a race is made of can be written, where the race is in range.
use Rattle.std.proofs.Common.{◌≡◌, ℕ, ◌+◌, ◌≤◌, ◌<◌, ◌==◌, ◌&&◌, ◌||◌, Bool, true, false, not, leb, ltb, List, [], ◌∷◌, ◌++◌, length, map, Option, Some, None, refl, ap, subst, inl, inr, arith}
use Rattle.std.specs.Prelude.{IfSome, is_none, IsTrue}
use Rattle.std.specs.List.{AllByRecursion, list_all, position_from}
use Rattle.std.proofs.lemmas.Bool.{leb-true, ltb-true, and_parts, eqb-true, eqb-false, cases_Bool, false≢true}
use Rattle.std.proofs.lemmas.List.Elements.{recursion_from_All}
use Rattle.he_addr.specs.declared.ip.Family.{Family}
use Rattle.he_addr.specs.declared.ip.Family.TheVariants as families
use Rattle.he_addr.specs.declared.ip.Ip.{Ip}
use Rattle.he_addr.specs.declared.ip.Ip.TheVariants.{V4, V6}
use Rattle.he_addr.specs.Ip.{InRange, is_usable, same_ip}
use Rattle.he_addr.specs.Prefix.{width_of}
use Rattle.he_timeline.specs.declared.limits.TheConstants.{MAX_TICK, MAX_ADDRESSES, MAX_PAUSE_END, MIN_DURATION, MAX_DURATION, MIN_FLOOR, MAX_ATTEMPT}
use Rattle.he_timeline.specs.declared.outcome.Outcome.{Outcome}
use Rattle.he_timeline.specs.Race.{Race, Reply, addresses_of, has_ip, is_in_answer}
use Rattle.he_timeline.specs.Settings.{SettingValues, IsSettings}
use Rattle.he_timeline.specs.Timeline.{IsRace, are_of, are_distinct, is_answer, is_outcome, is_rtt, is_duration, duration_of, are_pauses}
use Rattle.he_select.proofs.Causes.{none_stands, unmapped}
use Rattle.he_select.proofs.Hosted.{no_fault as no_host_fault}
use Rattle.he_select.specs.Hosts.{IsHost}
use Rattle.he_select.specs.declared.host.HostFault.TheVariants as hosts
use Rattle.he_select.specs.declared.host.Source.{Source}
use Rattle.he_select.specs.declared.host.Route.{Route}
use Rattle.he_select.specs.declared.policy.Row.{Row}
use Rattle.he_select.specs.HostFaults.{host_causes, host_fault, is_sound_source, is_sound_route}
use Rattle.he_text.specs.InRange.{RowInRange, SourceInRange, RouteInRange, RaceInRange}
use Rattle.he_reading.specs.Said.{Said, PolicyRow, HostSource, HostRoute, UsedBefore}
use Rattle.he_reading.proofs.CompleteRaces.{admitted_host}
use Rattle.he_text.proofs.RereadRaces.{floor_as, settings_said, answer_as, rtt_as, told_as, paused_as, told_on, used_on, rtts_on, a_on, aaaa_on, routes_on, sources_on, rows_on, race_said}
use Rattle.he_text.proofs.RereadSaid.{Spellable}

abbrev pub AllSpellable : List Said → Type 0
AllSpellable said = AllByRecursion Spellable said

also : (xs ys : List Said) → AllSpellable xs → AllSpellable ys → AllSpellable (xs ++ ys)
also [] ys hx hy = hy
also (x ∷ xs) ys hx hy = (hx.0, also xs ys hx.1 hy)

floor_can : (attempt : ℕ) (floor : Option ℕ) → attempt ≤ MAX_ATTEMPT → IfSome floor (λ floor. (MIN_FLOOR ≤ floor) × (floor ≤ attempt)) → AllSpellable (floor_as floor)
floor_can attempt None most h = tt
floor_can attempt (Some floor) most h = ((h.0, omega (arith, h.1, most)), tt)

settings_can : (settings : SettingValues) → IsSettings settings → AllSpellable (settings_said settings)
settings_can settings h = ((omega arith, h.resolution), ((h.attempt_least, h.attempt_most), ((h.count_least, h.count_most), ((h.limit_least, h.limit_most), floor_can settings.attempt settings.floor h.attempt_most h.floor))))

rows_can : (rows : List Row) → AllByRecursion RowInRange rows → AllSpellable (map PolicyRow rows)
rows_can [] h = tt
rows_can (row ∷ rows) h = (h.0, rows_can rows h.1)

not_zero : (n : ℕ) → not (n == 0) ≡ true → 1 ≤ n
not_zero n h = by_test (n == 0) refl h
  where
    by_test : (b : Bool) → (n == 0) ≡ b → not b ≡ true → 1 ≤ n
    by_test true e h = cc
    by_test false e h = let differ = eqb-false n 0 e in omega arith

sources_can : (sources : List Source) → list_all is_sound_source sources ≡ true → AllByRecursion SourceInRange sources → AllSpellable (map HostSource sources)
sources_can [] sound h = tt
sources_can (source ∷ sources) sound h =
    let parts = and_parts (is_sound_source source) (list_all is_sound_source sources) sound in
    let one = and_parts (is_usable source.ip && leb source.plen (width_of source.ip)) (not (source.interface == 0)) parts.0 in
    let address = and_parts (is_usable source.ip) (leb source.plen (width_of source.ip)) one.0 in
    ((h.0.0, leb-true source.plen (width_of source.ip) address.1, not_zero source.interface one.1, h.0.1), sources_can sources parts.1 h.1)

no_bad : {X : Type 0} (p : X → Bool) (xs : List X) (place : ℕ) → IsTrue (is_none (position_from (λ x. not (p x)) place xs)) → list_all p xs ≡ true
no_bad p [] place h = refl
no_bad p (x ∷ xs) place h =
    elim (cases_Bool (p x)) [
      | inl here ↦ rw here (no_bad p xs (place + 1) (rw here at h))
      | inr gone ↦ absurd (false≢true (rw gone at h))
    ]

sound_routes : (sources : List Source) (routes : List Route) → IsHost (record { sources = sources; routes = routes }) → list_all is_sound_route routes ≡ true
unfolding host_fault
sound_routes sources routes h =
    let bad : Option ℕ = position_from (λ route. not (is_sound_route route)) 0 routes in
    no_bad is_sound_route routes 0 (unmapped hosts.BadRoute bad (none_stands (host_causes sources routes) (no_host_fault (record { sources = sources; routes = routes }) h)).1.1.1.1.0)

routes_can : (routes : List Route) → list_all is_sound_route routes ≡ true → AllByRecursion RouteInRange routes → AllSpellable (map HostRoute routes)
routes_can [] sound h = tt
routes_can (route ∷ routes) sound h =
    let parts = and_parts (is_sound_route route) (list_all is_sound_route routes) sound in
    ((h.0, not_zero route.interface parts.0), routes_can routes parts.1 h.1)

answer_can : (family : Family) (answer : Option Reply) → is_answer family answer ≡ true → AllByRecursion InRange (addresses_of answer) → AllSpellable (answer_as family answer)
answer_can family None h small = tt
answer_can family (Some reply) h small =
    let all = and_parts (leb reply.tick MAX_TICK && leb (length reply.addresses) MAX_ADDRESSES && are_of family reply.addresses) (are_distinct reply.addresses) h in
    let most = and_parts (leb reply.tick MAX_TICK && leb (length reply.addresses) MAX_ADDRESSES) (are_of family reply.addresses) all.0 in
    let two = and_parts (leb reply.tick MAX_TICK) (leb (length reply.addresses) MAX_ADDRESSES) most.0 in
    ((leb-true reply.tick MAX_TICK two.0, leb-true (length reply.addresses) MAX_ADDRESSES two.1, small), tt)

rtts_can : (race : Race) (rtts : List (Ip × ℕ)) → AllByRecursion (λ (told : Ip × ℕ). InRange told.0) rtts → list_all (is_rtt race) rtts ≡ true → AllSpellable (map rtt_as rtts)
rtts_can race [] small h = tt
rtts_can race (p ∷ rtts) small h =
    let parts = and_parts (is_rtt race p) (list_all (is_rtt race) rtts) h in
    let one = and_parts (is_duration p.1) (is_in_answer race p.0) parts.0 in
    let lasts = and_parts (leb MIN_DURATION p.1) (leb p.1 MAX_DURATION) one.0 in
    ((small.0, leb-true MIN_DURATION p.1 lasts.0, leb-true p.1 MAX_DURATION lasts.1), rtts_can race rtts small.1 parts.1)

used_can : (used : List Ip) → AllByRecursion InRange used → AllSpellable (map UsedBefore used)
used_can [] small = tt
used_can (ip ∷ used) small = (small.0, used_can used small.1)

-- an address that stands in an answer is in range
same_ip_is : (x y : Ip) → same_ip x y ≡ true → x ≡ y
same_ip_is (V4 m) (V4 n) h = ap V4 (eqb-true m n h)
same_ip_is (V6 m) (V6 n) h = ap V6 (eqb-true m n h)
same_ip_is (V4 m) (V6 n) h = cc
same_ip_is (V6 m) (V4 n) h = cc

listed_small : (ip : Ip) (ips : List Ip) → has_ip ip ips ≡ true → AllByRecursion InRange ips → InRange ip
listed_small ip [] h small = cc
listed_small ip (other ∷ ips) h small = by_test (same_ip other ip) refl h (λ later. listed_small ip ips later small.1)
  where
    by_test : (b : Bool) → same_ip other ip ≡ b → (b || has_ip ip ips) ≡ true → (has_ip ip ips ≡ true → InRange ip) → InRange ip
    by_test true e h later = subst InRange (same_ip_is other ip e) small.0
    by_test false e h later = later h

stands_small : (race : Race) (ip : Ip) → RaceInRange race → is_in_answer race ip ≡ true → InRange ip
stands_small race ip small h = by_test (has_ip ip (addresses_of race.aaaa)) refl h
  where
    by_test : (b : Bool) → has_ip ip (addresses_of race.aaaa) ≡ b → (b || has_ip ip (addresses_of race.a)) ≡ true → InRange ip
    by_test true e h = listed_small ip (addresses_of race.aaaa) e (recursion_from_All InRange (addresses_of race.aaaa) small.aaaa)
    by_test false e h = listed_small ip (addresses_of race.a) h (recursion_from_All InRange (addresses_of race.a) small.a)

outcomes_can : (race : Race) (told : List (Ip × Outcome)) → RaceInRange race → list_all (is_outcome race) told ≡ true → AllSpellable (map told_as told)
outcomes_can race [] small h = tt
outcomes_can race (p ∷ told) small h =
    let parts = and_parts (is_outcome race p) (list_all (is_outcome race) told) h in
    let one = and_parts (is_duration (duration_of p.1)) (is_in_answer race p.0) parts.0 in
    let lasts = and_parts (leb MIN_DURATION (duration_of p.1)) (leb (duration_of p.1) MAX_DURATION) one.0 in
    ((stands_small race p.0 small one.1, leb-true MIN_DURATION (duration_of p.1) lasts.0, leb-true (duration_of p.1) MAX_DURATION lasts.1), outcomes_can race told small parts.1)

pauses_can : (low : ℕ) (pauses : List (ℕ × ℕ)) → are_pauses low pauses ≡ true → AllSpellable (map paused_as pauses)
pauses_can low [] h = tt
pauses_can low (p ∷ pauses) h =
    let all = and_parts (leb low p.0 && ltb p.0 p.1 && leb p.1 MAX_PAUSE_END) (are_pauses p.1 pauses) h in
    let most = and_parts (leb low p.0 && ltb p.0 p.1) (leb p.1 MAX_PAUSE_END) all.0 in
    let order = and_parts (leb low p.0) (ltb p.0 p.1) most.0 in
    let ends : p.1 ≤ MAX_PAUSE_END = leb-true p.1 MAX_PAUSE_END most.1 in
    let less : p.0 < p.1 = ltb-true p.0 p.1 order.1 in
    ((omega arith, omega arith, ends), pauses_can p.1 pauses all.1)

pub race_can : (race : Race) → IsRace race → RaceInRange race → AllSpellable (race_said race)
race_can race fits small =
    let host = admitted_host race.host.sources race.host.routes fits.host in
    also (settings_said race.settings) (rows_on race) (settings_can race.settings fits.settings)
    (also (map PolicyRow race.policy) (sources_on race) (rows_can race.policy (recursion_from_All RowInRange race.policy small.rows))
    (also (map HostSource race.host.sources) (routes_on race) (sources_can race.host.sources host.sound (recursion_from_All SourceInRange race.host.sources small.sources))
    (also (map HostRoute race.host.routes) (aaaa_on race) (routes_can race.host.routes (sound_routes race.host.sources race.host.routes fits.host) (recursion_from_All RouteInRange race.host.routes small.routes))
    (also (answer_as families.V6 race.aaaa) (a_on race) (answer_can families.V6 race.aaaa fits.aaaa (recursion_from_All InRange (addresses_of race.aaaa) small.aaaa))
    (also (answer_as families.V4 race.a) (rtts_on race) (answer_can families.V4 race.a fits.a (recursion_from_All InRange (addresses_of race.a) small.a))
    (also (map rtt_as race.history.rtts) (used_on race) (rtts_can race race.history.rtts (recursion_from_All (λ (told : Ip × ℕ). InRange told.0) race.history.rtts small.rtts) fits.rtts)
    (also (map UsedBefore race.history.used) (told_on race) (used_can race.history.used (recursion_from_All InRange race.history.used small.used))
    (also (map told_as race.outcomes) (map paused_as race.pauses) (outcomes_can race race.outcomes small fits.outcomes) (pauses_can 0 race.pauses fits.pauses)))))))))

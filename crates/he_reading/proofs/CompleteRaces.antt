-- What the lines of a race keep to, since the race that they make does.
use Rattle.std.proofs.Common.{◌≡◌, ◌≤◌, ◌==◌, ◌&&◌, ◌||◌, Bool, true, false, leb, ltb, List, [], ◌∷◌, ◌++◌, length, Option, Some, None, refl, sym, ◌∙◌, ap, subst, arith}
use Rattle.std.specs.Prelude.{is_none, IsTrue}
use Rattle.std.specs.List.{filter_map, list_all}
use Rattle.std.proofs.lemmas.Bool.{ltb-false, and_parts}
use Rattle.std.proofs.lemmas.List.{append-nil}
use Rattle.he_addr.specs.declared.ip.Family.{Family}
use Rattle.he_addr.specs.declared.ip.Family.TheVariants as families
use Rattle.he_addr.specs.declared.ip.Ip.{Ip}
use Rattle.he_addr.specs.Ip.{is_usable}
use Rattle.he_addr.specs.Prefix.{width_of}
use Rattle.he_timeline.specs.declared.limits.TheConstants.{MAX_TICK, MAX_ADDRESSES}
use Rattle.he_timeline.specs.Race.{Reply, addresses_of, has_ip, is_in_answer}
use Rattle.he_timeline.specs.Timeline.{IsRace, are_of, are_distinct, is_answer, is_rtt, is_outcome, is_duration, duration_of}
use Rattle.he_select.proofs.Admitted.{no_fault as no_table_fault}
use Rattle.he_select.proofs.Causes.{none_stands, unmapped, not_caused}
use Rattle.he_select.proofs.Hosted.{all_sound, no_fault as no_host_fault}
use Rattle.he_select.specs.Hosts.{IsHost, same_source, same_route}
use Rattle.he_select.specs.declared.host.HostFault.TheVariants as hosts
use Rattle.he_select.specs.declared.policy.PolicyFault.TheVariants as policies
use Rattle.he_select.specs.declared.host.Source.{Source}
use Rattle.he_select.specs.declared.host.Route.{Route}
use Rattle.he_select.specs.declared.limits.TheConstants.{ROWS, SOURCES, ROUTES}
use Rattle.he_select.specs.declared.policy.Row.{Row}
use Rattle.he_select.specs.HostFaults.{host_causes, host_fault, is_sound_source}
use Rattle.he_select.specs.Refusals.{first_repeat}
use Rattle.he_select.specs.TableFaults.{table_causes, table_fault}
use Rattle.he_select.specs.Tables.{IsAdmitted, same_row}
use Rattle.he_words.specs.declared.words.Name.{Name}
use Rattle.he_reading.specs.Faults.{known_to}
use Rattle.he_reading.specs.Said.{Said, Setting, PolicyRow, HostSource, HostRoute, Answer, RoundTrip, UsedBefore, OutcomeOf, Paused, Ended, setting_said, source_said, answer_said, rtt_said, used_said, outcome_said, at_front, rows_given, sources_given, routes_given, answer_given, rtts_given, used_given, outcomes_given, table_of_rows, race_of}
use Rattle.he_reading.specs.Text.{group_said, are_in_order}
use Rattle.he_reading.proofs.CompleteForms.{Knows, Suits}
use Rattle.he_reading.proofs.CompleteGroups.{order_split, none_later}
use Rattle.he_reading.proofs.CompleteLists.{given_split, given_none, none_before, passes_at}

-- what all lines between the first and the last one of a race say
pub record IsWhole (said : List Said) : Type 0 where
  pub order : are_in_order 0 said ≡ true
  pub settings_once : (name : Name) → length (filter_map (setting_said name) said) ≤ 1
  pub answers_once : (family : Family) → length (filter_map (answer_said family) said) ≤ 1
  pub fits : IsRace (race_of said)

is_nothing : {A : Type 0} (o : Option A) → IsTrue (is_none o) → o ≡ None
is_nothing None h = refl
is_nothing (Some x) h = cc

or_parts : (a b : Bool) → (a || b) ≡ false → (a ≡ false) × (b ≡ false)
or_parts true b h = cc
or_parts false b h = (refl, h)

-- the rows
pub record AreRows (rows : List Row) : Type 0 where
  pub few : length rows ≤ ROWS
  pub once : first_repeat same_row rows ≡ None

admitted_rows : (rows : List Row) → IsAdmitted (table_of_rows rows) → AreRows rows
unfolding table_fault
admitted_rows [] h = record { few = omega arith; once = refl }
admitted_rows (row ∷ rows) h =
    let none = none_stands (table_causes (row ∷ rows)) (no_table_fault (row ∷ rows) h) in
    let size = not_caused (length (row ∷ rows) == 0 || ltb ROWS (length (row ∷ rows))) policies.Size none.0 in
    record {
      few = ltb-false ROWS (length (row ∷ rows)) (or_parts (length (row ∷ rows) == 0) (ltb ROWS (length (row ∷ rows))) size).1;
      once = is_nothing (first_repeat same_row (row ∷ rows)) (unmapped policies.Repeated (first_repeat same_row (row ∷ rows)) none.1.0);
    }

pub rows_are : (said : List Said) → IsWhole said → AreRows (rows_given said)
unfolding race_of
rows_are said whole = admitted_rows (rows_given said) whole.fits.policy

-- sources and routes
pub record AreHosts (sources : List Source) (routes : List Route) : Type 0 where
  pub few_sources : length sources ≤ SOURCES
  pub few_routes : length routes ≤ ROUTES
  pub sources_once : first_repeat same_source sources ≡ None
  pub routes_once : first_repeat same_route routes ≡ None
  pub sound : list_all is_sound_source sources ≡ true

pub admitted_host : (sources : List Source) (routes : List Route) → IsHost (record { sources = sources; routes = routes }) → AreHosts sources routes
unfolding host_fault
admitted_host sources routes h =
    let none = none_stands (host_causes sources routes) (no_host_fault (record { sources = sources; routes = routes }) h) in
    let many = or_parts (ltb SOURCES (length sources)) (ltb ROUTES (length routes)) (not_caused (ltb SOURCES (length sources) || ltb ROUTES (length routes)) hosts.TooMany none.0) in
    record {
      few_sources = ltb-false SOURCES (length sources) many.0;
      few_routes = ltb-false ROUTES (length routes) many.1;
      sources_once = is_nothing (first_repeat same_source sources) (unmapped hosts.RepeatedSource (first_repeat same_source sources) none.1.0);
      routes_once = is_nothing (first_repeat same_route routes) (unmapped hosts.RepeatedRoute (first_repeat same_route routes) none.1.1.0);
      sound = all_sound (record { sources = sources; routes = routes }) h;
    }

pub hosts_are : (said : List Said) → IsWhole said → AreHosts (sources_given said) (routes_given said)
unfolding race_of
hosts_are said whole = admitted_host (sources_given said) (routes_given said) whole.fits.host

-- an answer
answer_fits : (family : Family) (said : List Said) → IsWhole said → is_answer family (answer_given family said) ≡ true
unfolding race_of
answer_fits families.V6 said whole = whole.fits.aaaa
answer_fits families.V4 said whole = whole.fits.a

answer_gives : (family : Family) (reply : Reply) → answer_said family (Answer family reply) ≡ Some reply
answer_gives families.V6 reply = refl
answer_gives families.V4 reply = refl

only_first : {A : Type 0} (xs ys : List A) (y : A) → length (xs ++ y ∷ ys) ≤ 1 → at_front (xs ++ y ∷ ys) ≡ Some y
only_first xs ys y h = let P : List _ → Type 0 = λ zs. at_front (zs ++ y ∷ ys) ≡ Some y in subst P (sym (none_before xs ys y h)) refl

pub answer_is : (family : Family) (told later : List Said) (reply : Reply) → IsWhole (told ++ Answer family reply ∷ later) → is_answer family (Some reply) ≡ true
answer_is family told later reply whole =
    let split = given_split (answer_said family) told later (Answer family reply) reply (answer_gives family reply) in
    let once = whole.answers_once family in
    let few : length (filter_map (answer_said family) told ++ reply ∷ filter_map (answer_said family) later) ≤ 1 = (let P : List Reply → Type 0 = λ rs. length rs ≤ 1 in subst P split once) in
    ap (is_answer family) (sym (ap at_front split ∙ only_first (filter_map (answer_said family) told) (filter_map (answer_said family) later) reply few))
    ∙ answer_fits family (told ++ Answer family reply ∷ later) whole

pub answer_parts : (family : Family) (reply : Reply) → is_answer family (Some reply) ≡ true → (are_of family reply.addresses ≡ true) × (are_distinct reply.addresses ≡ true)
answer_parts family reply h =
    let all = and_parts (leb reply.tick MAX_TICK && leb (length reply.addresses) MAX_ADDRESSES && are_of family reply.addresses) (are_distinct reply.addresses) h in
    let most = and_parts (leb reply.tick MAX_TICK && leb (length reply.addresses) MAX_ADDRESSES) (are_of family reply.addresses) all.0 in
    (most.1, all.1)

-- what is said suits the form of its line
pub suits : (told later : List Said) (s : Said) → IsWhole (told ++ s ∷ later) → Suits s
suits told later (Setting name value) whole = tt
suits told later (PolicyRow row) whole = tt
suits told later (HostSource source) whole =
    let are = hosts_are (told ++ HostSource source ∷ later) whole in
    let split = given_split source_said told later (HostSource source) source refl in
    let sound = passes_at is_sound_source (sources_given told) (sources_given later) source (ap (list_all is_sound_source) (sym split) ∙ are.sound) in
    let parts = and_parts (is_usable source.ip && leb source.plen (width_of source.ip)) _ sound in
    (and_parts (is_usable source.ip) (leb source.plen (width_of source.ip)) parts.0).0
suits told later (HostRoute route) whole = tt
suits told later (Answer family reply) whole = (answer_parts family reply (answer_is family told later reply whole)).0
suits told later (RoundTrip ip rtt) whole = tt
suits told later (UsedBefore ip) whole = tt
suits told later (OutcomeOf ip outcome) whole = tt
suits told later (Paused from to) whole = tt
suits told later Ended whole = tt

-- what is told after the answers is of an address that stands in one of those before
no_answer : (family : Family) (t : Said) → 7 ≤ group_said t → answer_said family t ≡ None
no_answer families.V6 (Answer families.V6 reply) h = absurd (omega (arith, h))
no_answer families.V4 (Answer families.V4 reply) h = absurd (omega (arith, h))
no_answer families.V6 (Answer families.V4 reply) h = refl
no_answer families.V4 (Answer families.V6 reply) h = refl
no_answer families.V6 _ h = refl
no_answer families.V4 _ h = refl

answers_before : (family : Family) (told later : List Said) (s : Said) → 7 ≤ group_said s → IsWhole (told ++ s ∷ later) → answer_given family (told ++ s ∷ later) ≡ answer_given family told
answers_before family told later s high whole =
    let order = order_split 0 told later s whole.order in
    ap at_front (given_none (answer_said family) told later s (no_answer family s high)
    ∙ ap (λ rs. filter_map (answer_said family) told ++ rs) (none_later (answer_said family) (group_said s) (λ t le. no_answer family t (omega (arith, high, le))) later order.1)
    ∙ append-nil (filter_map (answer_said family) told))

rtts_fit : (said : List Said) → IsWhole said → list_all (is_rtt (race_of said)) (rtts_given said) ≡ true
unfolding race_of
rtts_fit said whole = whole.fits.rtts

used_fit : (said : List Said) → IsWhole said → list_all (is_in_answer (race_of said)) (used_given said) ≡ true
unfolding race_of
used_fit said whole = whole.fits.used

outcomes_fit : (said : List Said) → IsWhole said → list_all (is_outcome (race_of said)) (outcomes_given said) ≡ true
unfolding race_of
outcomes_fit said whole = whole.fits.outcomes

stands_by : (said : List Said) (ip : Ip) → is_in_answer (race_of said) ip ≡ (has_ip ip (addresses_of (answer_given families.V6 said)) || has_ip ip (addresses_of (answer_given families.V4 said)))
unfolding race_of
stands_by said ip = refl

-- after the answers an address that stands in one of all is known
is_known : (told later : List Said) (s : Said) (ip : Ip) → 7 ≤ group_said s → IsWhole (told ++ s ∷ later) → is_in_answer (race_of (told ++ s ∷ later)) ip ≡ true → known_to told ip ≡ true
is_known told later s ip high whole stands =
    let all : List Said = told ++ s ∷ later in
    stands_by told ip
    ∙ ap (λ o. has_ip ip (addresses_of o) || has_ip ip (addresses_of (answer_given families.V4 told))) (sym (answers_before families.V6 told later s high whole))
    ∙ ap (λ o. has_ip ip (addresses_of (answer_given families.V6 all)) || has_ip ip (addresses_of o)) (sym (answers_before families.V4 told later s high whole))
    ∙ sym (stands_by all ip) ∙ stands

pub knows : (told later : List Said) (s : Said) → IsWhole (told ++ s ∷ later) → Knows (known_to told) s
knows told later (Setting name value) whole = tt
knows told later (PolicyRow row) whole = tt
knows told later (HostSource source) whole = tt
knows told later (HostRoute route) whole = tt
knows told later (Answer family reply) whole = tt
knows told later (RoundTrip ip rtt) whole =
    let all : List Said = told ++ RoundTrip ip rtt ∷ later in
    let split = given_split rtt_said told later (RoundTrip ip rtt) (ip, rtt) refl in
    let passes = passes_at (is_rtt (race_of all)) (rtts_given told) (rtts_given later) (ip, rtt) (ap (list_all (is_rtt (race_of all))) (sym split) ∙ rtts_fit all whole) in
    is_known told later (RoundTrip ip rtt) ip (omega arith) whole (and_parts (is_duration rtt) (is_in_answer (race_of all) ip) passes).1
knows told later (UsedBefore ip) whole =
    let all : List Said = told ++ UsedBefore ip ∷ later in
    let split = given_split used_said told later (UsedBefore ip) ip refl in
    is_known told later (UsedBefore ip) ip (omega arith) whole
    (passes_at (is_in_answer (race_of all)) (used_given told) (used_given later) ip (ap (list_all (is_in_answer (race_of all))) (sym split) ∙ used_fit all whole))
knows told later (OutcomeOf ip outcome) whole =
    let all : List Said = told ++ OutcomeOf ip outcome ∷ later in
    let split = given_split outcome_said told later (OutcomeOf ip outcome) (ip, outcome) refl in
    let passes = passes_at (is_outcome (race_of all)) (outcomes_given told) (outcomes_given later) (ip, outcome) (ap (list_all (is_outcome (race_of all))) (sym split) ∙ outcomes_fit all whole) in
    is_known told later (OutcomeOf ip outcome) ip (omega arith) whole (and_parts (is_duration (duration_of outcome)) (is_in_answer (race_of all) ip) passes).1
knows told later (Paused from to) whole = tt
knows told later Ended whole = tt

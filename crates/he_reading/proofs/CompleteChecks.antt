-- The checks of a line within a race find nothing wrong with it.
use Rattle.std.proofs.Common.{◌≡◌, ℕ, ◌≤◌, ◌<◌, ◌&&◌, Bool, true, false, not, cond, leb, ltb, List, [], ◌∷◌, ◌++◌, length, Option, Some, None, is_some, Ok, refl, sym, ◌∙◌, ap, subst, inl, inr, arith}
use Rattle.std.specs.Prelude.{◌⊎◌, option_map, unwrap_or, IfSome}
use Rattle.std.specs.List.{AllZip, AllByRecursion, filter_map, cons_option, list_any}
use Rattle.std.proofs.lemmas.Bool.{lt-leb, le-leb, le-ltb, leb-true, and_from, and_parts}
use Rattle.std.proofs.lemmas.List.Elements.{filter_map-append}
use Rattle.he_addr.specs.declared.ip.Family.TheVariants as families
use Rattle.he_timeline.specs.declared.limits.TheConstants.{MAX_PAUSES, MIN_FLOOR, DEFAULT_ATTEMPT}
use Rattle.he_timeline.specs.Building.{last_end}
use Rattle.he_timeline.specs.Race.{has_ip, has_outcome, is_told}
use Rattle.he_timeline.specs.Timeline.{are_distinct, are_pauses, are_told_once}
use Rattle.he_select.proofs.Admitted.{no_fault_from}
use Rattle.he_select.specs.declared.limits.TheConstants.{ROWS, SOURCES, ROUTES}
use Rattle.he_select.specs.declared.policy.Row.{Row}
use Rattle.he_select.specs.Hosts.{same_source, same_route}
use Rattle.he_select.specs.Refusals.{first_repeat}
use Rattle.he_select.specs.TableFaults.{table_fault}
use Rattle.he_select.specs.Tables.{IsAdmitted, same_row}
use Rattle.he_words.specs.declared.fault.TextKind.{TextKind}
use Rattle.he_words.specs.declared.fault.TextKind.TheVariants as kinds
use Rattle.he_words.specs.declared.limits.TheConstants.{MAX_ANSWERS, MAX_LINE}
use Rattle.he_words.specs.declared.words.Name.{Name}
use Rattle.he_words.specs.declared.words.Word.TheVariants as words
use Rattle.he_words.specs.declared.words.Name.TheVariants.{Resolution, Attempt, Count, Limit, Floor}
use Rattle.he_reading.specs.Faults.{test, excess, too_often, wrong_bounds, repeated, wrong_group, begins_with, is_next, is_above, floor_is_above, lines_with}
use Rattle.he_reading.specs.Said.{Said, Setting, PolicyRow, HostSource, HostRoute, Answer, RoundTrip, UsedBefore, OutcomeOf, Paused, Ended, setting_said, row_said, source_said, route_said, answer_said, rtt_said, used_said, outcome_said, pause_said, at_front, setting_given, rows_given, sources_given, routes_given, rtts_given, used_given, outcomes_given, pauses_given, settings_given, table_of_rows, race_of, word_said}
use Rattle.he_reading.specs.Text.{group_said, are_in_order}
use Rattle.he_reading.proofs.CompleteForms.{IsLine}
use Rattle.he_reading.proofs.CompleteGroups.{order_split, none_later, few_lines}
use Rattle.he_reading.proofs.CompleteLists.{given_split, none_before, shorter_before, told_before, address_before, pause_before, none_repeats}
use Rattle.he_reading.proofs.CompleteRaces.{IsWhole, rows_are, hosts_are, answer_is, answer_parts}

-- the fifth check: there is room for one more line of the word
gives_row : (s : Said) → group_said s ≡ 2 → is_some (row_said s) ≡ true
gives_row (PolicyRow row) h = refl
gives_row (Answer families.V6 reply) h = absurd (omega (arith, h))
gives_row (Answer families.V4 reply) h = absurd (omega (arith, h))
gives_row _ h = absurd (omega (arith, h))

gives_source : (s : Said) → group_said s ≡ 3 → is_some (source_said s) ≡ true
gives_source (HostSource source) h = refl
gives_source (Answer families.V6 reply) h = absurd (omega (arith, h))
gives_source (Answer families.V4 reply) h = absurd (omega (arith, h))
gives_source _ h = absurd (omega (arith, h))

gives_route : (s : Said) → group_said s ≡ 4 → is_some (route_said s) ≡ true
gives_route (HostRoute route) h = refl
gives_route (Answer families.V6 reply) h = absurd (omega (arith, h))
gives_route (Answer families.V4 reply) h = absurd (omega (arith, h))
gives_route _ h = absurd (omega (arith, h))

gives_aaaa : (s : Said) → group_said s ≡ 5 → is_some (answer_said families.V6 s) ≡ true
gives_aaaa (Answer families.V6 reply) h = refl
gives_aaaa (Answer families.V4 reply) h = absurd (omega (arith, h))
gives_aaaa _ h = absurd (omega (arith, h))

gives_a : (s : Said) → group_said s ≡ 6 → is_some (answer_said families.V4 s) ≡ true
gives_a (Answer families.V4 reply) h = refl
gives_a (Answer families.V6 reply) h = absurd (omega (arith, h))
gives_a _ h = absurd (omega (arith, h))

gives_pause : (s : Said) → group_said s ≡ 10 → is_some (pause_said s) ≡ true
gives_pause (Paused from to) h = refl
gives_pause (Answer families.V6 reply) h = absurd (omega (arith, h))
gives_pause (Answer families.V4 reply) h = absurd (omega (arith, h))
gives_pause _ h = absurd (omega (arith, h))

within_most : (most : ℕ × TextKind) (n : ℕ) → n < most.0 → excess (Some most) n ≡ None
within_most most n less = ap (λ b. test b most.1) (lt-leb most.0 n less)

pauses_few : (said : List Said) → IsWhole said → length (pauses_given said) ≤ MAX_PAUSES
unfolding race_of
pauses_few said whole = whole.fits.few

-- fewer are given before than all lines give
fewer : {Y : Type 0} (h : Said → Option Y) (told later : List Said) (s : Said) (y : Y) (most : ℕ) → h s ≡ Some y → length (filter_map h (told ++ s ∷ later)) ≤ most → length (filter_map h told) < most
fewer {Y = Y} h told later s y most gives few =
    let P : List Y → Type 0 = λ ys. length ys ≤ most in
    shorter_before (filter_map h told) (filter_map h later) y most (subst P (given_split h told later s y gives) few)

pub has_room : (before : List (List ℕ)) (told later : List Said) (s : Said) (tokens : List (List ℕ)) → IsWhole (told ++ s ∷ later) → AllZip IsLine before told → too_often before (Ok (word_said s, tokens)) ≡ None
has_room before told later (Setting name value) tokens whole are = refl
has_room before told later (PolicyRow row) tokens whole are =
    let lines : lines_with 2 before ≤ length (rows_given told) = few_lines row_said 2 gives_row before told are in
    let less : length (rows_given told) < ROWS = fewer row_said told later (PolicyRow row) row ROWS refl (rows_are (told ++ PolicyRow row ∷ later) whole).few in
    within_most (ROWS, kinds.TooMany) (lines_with 2 before) (omega arith)
has_room before told later (HostSource source) tokens whole are =
    let lines : lines_with 3 before ≤ length (sources_given told) = few_lines source_said 3 gives_source before told are in
    let less : length (sources_given told) < SOURCES = fewer source_said told later (HostSource source) source SOURCES refl (hosts_are (told ++ HostSource source ∷ later) whole).few_sources in
    within_most (SOURCES, kinds.TooMany) (lines_with 3 before) (omega arith)
has_room before told later (HostRoute route) tokens whole are =
    let lines : lines_with 4 before ≤ length (routes_given told) = few_lines route_said 4 gives_route before told are in
    let less : length (routes_given told) < ROUTES = fewer route_said told later (HostRoute route) route ROUTES refl (hosts_are (told ++ HostRoute route ∷ later) whole).few_routes in
    within_most (ROUTES, kinds.TooMany) (lines_with 4 before) (omega arith)
has_room before told later (Answer families.V6 reply) tokens whole are =
    let lines : lines_with 5 before ≤ length (filter_map (answer_said families.V6) told) = few_lines (answer_said families.V6) 5 gives_aaaa before told are in
    let less : length (filter_map (answer_said families.V6) told) < 1 = fewer (answer_said families.V6) told later (Answer families.V6 reply) reply 1 refl (whole.answers_once families.V6) in
    within_most (MAX_ANSWERS, kinds.Repeated) (lines_with 5 before) (omega arith)
has_room before told later (Answer families.V4 reply) tokens whole are =
    let lines : lines_with 6 before ≤ length (filter_map (answer_said families.V4) told) = few_lines (answer_said families.V4) 6 gives_a before told are in
    let less : length (filter_map (answer_said families.V4) told) < 1 = fewer (answer_said families.V4) told later (Answer families.V4 reply) reply 1 refl (whole.answers_once families.V4) in
    within_most (MAX_ANSWERS, kinds.Repeated) (lines_with 6 before) (omega arith)
has_room before told later (RoundTrip ip rtt) tokens whole are = refl
has_room before told later (UsedBefore ip) tokens whole are = refl
has_room before told later (OutcomeOf ip outcome) tokens whole are = refl
has_room before told later (Paused from to) tokens whole are =
    let lines : lines_with 10 before ≤ length (pauses_given told) = few_lines pause_said 10 gives_pause before told are in
    let less : length (pauses_given told) < MAX_PAUSES = fewer pause_said told later (Paused from to) (from, to) MAX_PAUSES refl (pauses_few (told ++ Paused from to ∷ later) whole) in
    within_most (MAX_PAUSES, kinds.TooMany) (lines_with 10 before) (omega arith)
has_room before told later Ended tokens whole are = refl

-- the eighth check: pauses follow each other
pauses_fit : (said : List Said) → IsWhole said → are_pauses 0 (pauses_given said) ≡ true
unfolding race_of
pauses_fit said whole = whole.fits.pauses

passed : (b : Bool) (kind : TextKind) → b ≡ true → test (not b) kind ≡ None
passed true kind h = refl
passed false kind h = cc

pub in_bounds : (told later : List Said) (s : Said) → IsWhole (told ++ s ∷ later) → wrong_bounds told s ≡ None
in_bounds told later (Paused from to) whole =
    let split = given_split pause_said told later (Paused from to) (from, to) refl in
    let fits = pause_before (pauses_given told) (pauses_given later) (from, to) (ap (are_pauses 0) (sym split) ∙ pauses_fit (told ++ Paused from to ∷ later) whole) in
    passed (leb (last_end (pauses_given told)) from && ltb from to) kinds.Range (and_from (leb (last_end (pauses_given told)) from) (ltb from to) fits.0 fits.1)
in_bounds told later (Setting name value) whole = refl
in_bounds told later (PolicyRow row) whole = refl
in_bounds told later (HostSource source) whole = refl
in_bounds told later (HostRoute route) whole = refl
in_bounds told later (Answer family reply) whole = refl
in_bounds told later (RoundTrip ip rtt) whole = refl
in_bounds told later (UsedBefore ip) whole = refl
in_bounds told later (OutcomeOf ip outcome) whole = refl
in_bounds told later Ended whole = refl

-- the ninth check: nothing is given twice
outcomes_once : (said : List Said) → IsWhole said → are_told_once (outcomes_given said) ≡ true
unfolding race_of
outcomes_once said whole = whole.fits.once

rtts_once : (said : List Said) → IsWhole said → are_told_once (rtts_given said) ≡ true
unfolding race_of
rtts_once said whole = whole.fits.rtts_once

used_once : (said : List Said) → IsWhole said → are_distinct (used_given said) ≡ true
unfolding race_of
used_once said whole = whole.fits.used_once

not_failing : (b : Bool) (kind : TextKind) → b ≡ false → test b kind ≡ None
not_failing false kind h = refl
not_failing true kind h = cc

setting_gives : (name : Name) (value : ℕ) → setting_said name (Setting name value) ≡ Some value
setting_gives Resolution value = refl
setting_gives Attempt value = refl
setting_gives Count value = refl
setting_gives Limit value = refl
setting_gives Floor value = refl

no_setting : (name : Name) (value : ℕ) (told later : List Said) → IsWhole (told ++ Setting name value ∷ later) → setting_given name told ≡ None
no_setting name value told later whole =
    let split = given_split (setting_said name) told later (Setting name value) value (setting_gives name value) in
    let P : List ℕ → Type 0 = λ values. length values ≤ 1 in
    ap at_front (none_before (filter_map (setting_said name) told) (filter_map (setting_said name) later) value (subst P split (whole.settings_once name)))

pub not_twice : (told later : List Said) (s : Said) → IsWhole (told ++ s ∷ later) → repeated told s ≡ None
not_twice told later (Setting name value) whole = not_failing (is_some (setting_given name told)) kinds.Repeated (ap is_some (no_setting name value told later whole))
not_twice told later (PolicyRow row) whole =
    let split = given_split row_said told later (PolicyRow row) row refl in
    not_failing (list_any (same_row row) (rows_given told)) kinds.Repeated
    (none_repeats same_row (rows_given told) (rows_given later) row (ap (first_repeat same_row) (sym split) ∙ (rows_are (told ++ PolicyRow row ∷ later) whole).once))
not_twice told later (HostSource source) whole =
    let split = given_split source_said told later (HostSource source) source refl in
    not_failing (list_any (same_source source) (sources_given told)) kinds.Repeated
    (none_repeats same_source (sources_given told) (sources_given later) source (ap (first_repeat same_source) (sym split) ∙ (hosts_are (told ++ HostSource source ∷ later) whole).sources_once))
not_twice told later (HostRoute route) whole =
    let split = given_split route_said told later (HostRoute route) route refl in
    not_failing (list_any (same_route route) (routes_given told)) kinds.Repeated
    (none_repeats same_route (routes_given told) (routes_given later) route (ap (first_repeat same_route) (sym split) ∙ (hosts_are (told ++ HostRoute route ∷ later) whole).routes_once))
not_twice told later (Answer family reply) whole =
    not_failing (not (are_distinct reply.addresses)) kinds.Repeated (ap not (answer_parts family reply (answer_is family told later reply whole)).1)
not_twice told later (RoundTrip ip rtt) whole =
    let split = given_split rtt_said told later (RoundTrip ip rtt) (ip, rtt) refl in
    not_failing (is_told ip (rtts_given told)) kinds.Repeated
    (told_before (rtts_given told) (rtts_given later) (ip, rtt) (ap are_told_once (sym split) ∙ rtts_once (told ++ RoundTrip ip rtt ∷ later) whole))
not_twice told later (UsedBefore ip) whole =
    let split = given_split used_said told later (UsedBefore ip) ip refl in
    not_failing (has_ip ip (used_given told)) kinds.Repeated
    (address_before (used_given told) (used_given later) ip (ap are_distinct (sym split) ∙ used_once (told ++ UsedBefore ip ∷ later) whole))
not_twice told later (OutcomeOf ip outcome) whole =
    let split = given_split outcome_said told later (OutcomeOf ip outcome) (ip, outcome) refl in
    not_failing (has_outcome ip (outcomes_given told)) kinds.Repeated
    (told_before (outcomes_given told) (outcomes_given later) (ip, outcome) (ap are_told_once (sym split) ∙ outcomes_once (told ++ OutcomeOf ip outcome ∷ later) whole))
not_twice told later (Paused from to) whole = refl
not_twice told later Ended whole = refl

-- the rows up to the last one are the table
rows_fit : (said : List Said) → IsWhole said → IsAdmitted (table_of_rows (rows_given said))
unfolding race_of
rows_fit said whole = whole.fits.policy

no_row : (t : Said) → 3 ≤ group_said t → row_said t ≡ None
no_row (PolicyRow row) h = absurd (omega (arith, h))
no_row _ h = refl

-- the table of the rows, the last of which is this one
last_table : (told later : List Said) (row : Row) → IsWhole (told ++ PolicyRow row ∷ later) → rows_given later ≡ [] → table_fault (rows_given told ++ row ∷ []) ≡ None
last_table told later row whole none =
    let split : rows_given (told ++ PolicyRow row ∷ later) ≡ rows_given told ++ row ∷ [] = given_split row_said told later (PolicyRow row) row refl ∙ ap (λ rs. rows_given told ++ row ∷ rs) none in
    let P : List Row → Type 0 = λ rows. IsAdmitted (table_of_rows rows) in
    by_rows (rows_given told) (subst P split (rows_fit (told ++ PolicyRow row ∷ later) whole))
  where
    by_rows : (rows : List Row) → IsAdmitted (table_of_rows (rows ++ row ∷ [])) → table_fault (rows ++ row ∷ []) ≡ None
    by_rows [] h = no_fault_from (row ∷ []) h
    by_rows (first ∷ rows) h = no_fault_from (first ∷ rows ++ row ∷ []) h

-- after what is no row there is none
after_rows : (t : Said) → 2 ≤ group_said t → row_said t ≡ None → 3 ≤ group_said t
after_rows (PolicyRow row) le none = cc
after_rows (Setting name value) le none = absurd (omega (arith, le))
after_rows (HostSource source) le none = omega arith
after_rows (HostRoute route) le none = omega arith
after_rows (Answer families.V6 reply) le none = omega arith
after_rows (Answer families.V4 reply) le none = omega arith
after_rows (RoundTrip ip rtt) le none = omega arith
after_rows (UsedBefore ip) le none = omega arith
after_rows (OutcomeOf ip outcome) le none = omega arith
after_rows (Paused from to) le none = omega arith
after_rows Ended le none = omega arith

no_more_rows : (t : Said) (later : List Said) → row_said t ≡ None → are_in_order 2 (t ∷ later) ≡ true → rows_given (t ∷ later) ≡ []
no_more_rows t later none order =
    let parts = and_parts (leb 2 (group_said t)) (are_in_order (group_said t) later) order in
    let above : 3 ≤ group_said t = after_rows t (leb-true 2 (group_said t) parts.0) none in
    none_later row_said 3 no_row (t ∷ later) (and_from (leb 3 (group_said t)) (are_in_order (group_said t) later) (le-leb 3 (group_said t) above) parts.1)

-- the next line is a row, or no row follows
next_row : (later : List Said) (more after : List (List ℕ)) (last : List ℕ) → are_in_order 2 later ≡ true → AllByRecursion (λ line. length line ≤ MAX_LINE) more → AllZip IsLine more later
    → (rows_given later ≡ []) ⊎ (is_next words.Policy (more ++ last ∷ after) ≡ true)
next_row [] more after last order short are = inl refl
next_row (PolicyRow next ∷ later) [] after last order short are = absurd are
next_row (PolicyRow next ∷ later) (line ∷ []) after last order short are = inr (and_from (leb (length line) MAX_LINE) _ (le-leb (length line) MAX_LINE short.0) (ap (begins_with words.Policy) are.0.word))
next_row (PolicyRow next ∷ later) (line ∷ other ∷ more) after last order short are = inr (and_from (leb (length line) MAX_LINE) _ (le-leb (length line) MAX_LINE short.0) (ap (begins_with words.Policy) are.0.word))
next_row (t ∷ later) more after last order short are = inl (no_more_rows t later refl order)

-- the settings up to the last one are all settings
not_above : (floor : Option ℕ) (delay : ℕ) → IfSome floor (λ f. (MIN_FLOOR ≤ f) × (f ≤ delay)) → is_above floor delay ≡ false
not_above None delay h = refl
not_above (Some floor) delay h = le-ltb delay floor h.1

floor_fits : (said : List Said) → IsWhole said → floor_is_above (settings_given said) ≡ false
unfolding race_of
floor_fits said whole = not_above (setting_given Floor said) (settings_given said).attempt whole.fits.settings.floor

-- a setting is given by the lines up to the last one of the settings
setting_same : (name : Name) (told later : List Said) (s : Said) → filter_map (setting_said name) later ≡ [] → setting_given name (told ++ s ∷ []) ≡ setting_given name (told ++ s ∷ later)
setting_same name told later s none =
    ap at_front (filter_map-append (setting_said name) told (s ∷ [])
    ∙ ap (λ values. filter_map (setting_said name) told ++ cons_option (setting_said name s) values) (sym none)
    ∙ sym (filter_map-append (setting_said name) told (s ∷ later)))

last_settings : (told later : List Said) (s : Said) → IsWhole (told ++ s ∷ later) → ((name : Name) → filter_map (setting_said name) later ≡ []) → floor_is_above (settings_given (told ++ s ∷ [])) ≡ false
last_settings told later s whole none =
    ap (λ floor. is_above floor (settings_given (told ++ s ∷ [])).attempt) (setting_same Floor told later s (none Floor))
    ∙ ap (λ attempt. is_above (setting_given Floor (told ++ s ∷ later)) (unwrap_or attempt DEFAULT_ATTEMPT)) (setting_same Attempt told later s (none Attempt))
    ∙ floor_fits (told ++ s ∷ later) whole

abbrev sets : Said → Bool
sets (Setting name value) = true
sets _ = false

after_settings : (t : Said) → sets t ≡ false → 2 ≤ group_said t
after_settings (Setting name value) none = cc
after_settings (PolicyRow row) none = omega arith
after_settings (HostSource source) none = omega arith
after_settings (HostRoute route) none = omega arith
after_settings (Answer families.V6 reply) none = omega arith
after_settings (Answer families.V4 reply) none = omega arith
after_settings (RoundTrip ip rtt) none = omega arith
after_settings (UsedBefore ip) none = omega arith
after_settings (OutcomeOf ip outcome) none = omega arith
after_settings (Paused from to) none = omega arith
after_settings Ended none = omega arith

sets_nothing : (name : Name) (t : Said) → 2 ≤ group_said t → setting_said name t ≡ None
sets_nothing name (Setting other value) h = absurd (omega (arith, h))
sets_nothing name (PolicyRow row) h = refl
sets_nothing name (HostSource source) h = refl
sets_nothing name (HostRoute route) h = refl
sets_nothing name (Answer family reply) h = refl
sets_nothing name (RoundTrip ip rtt) h = refl
sets_nothing name (UsedBefore ip) h = refl
sets_nothing name (OutcomeOf ip outcome) h = refl
sets_nothing name (Paused from to) h = refl
sets_nothing name Ended h = refl

no_more_settings : (t : Said) (later : List Said) → sets t ≡ false → are_in_order 1 (t ∷ later) ≡ true → (name : Name) → filter_map (setting_said name) (t ∷ later) ≡ []
no_more_settings t later none order name =
    let parts = and_parts (leb 1 (group_said t)) (are_in_order (group_said t) later) order in
    none_later (setting_said name) 2 (sets_nothing name) (t ∷ later) (and_from (leb 2 (group_said t)) (are_in_order (group_said t) later) (le-leb 2 (group_said t) (after_settings t none)) parts.1)

-- the next line is a setting, or no setting follows
next_setting : (later : List Said) (more after : List (List ℕ)) (last : List ℕ) → are_in_order 1 later ≡ true → AllByRecursion (λ line. length line ≤ MAX_LINE) more → AllZip IsLine more later
    → ((name : Name) → filter_map (setting_said name) later ≡ []) ⊎ (is_next words.Set (more ++ last ∷ after) ≡ true)
next_setting [] more after last order short are = inl (λ name. refl)
next_setting (Setting name value ∷ later) [] after last order short are = absurd are
next_setting (Setting name value ∷ later) (line ∷ []) after last order short are = inr (and_from (leb (length line) MAX_LINE) _ (le-leb (length line) MAX_LINE short.0) (ap (begins_with words.Set) are.0.word))
next_setting (Setting name value ∷ later) (line ∷ other ∷ more) after last order short are = inr (and_from (leb (length line) MAX_LINE) _ (le-leb (length line) MAX_LINE short.0) (ap (begins_with words.Set) are.0.word))
next_setting (t ∷ later) more after last order short are = inl (no_more_settings t later refl order)

pub either_way : (next : Bool) → ◌≡◌ {A = Option TextKind} (cond next None None) None
either_way true = refl
either_way false = refl

-- the tenth and the eleventh check: what a group gives together
pub group_fits : (told later : List Said) (s : Said) (more after : List (List ℕ)) (last : List ℕ) → IsWhole (told ++ s ∷ later) → AllByRecursion (λ line. length line ≤ MAX_LINE) more → AllZip IsLine more later
    → wrong_group told (more ++ last ∷ after) s ≡ None
group_fits told later (PolicyRow row) more after last whole short are =
    by_next (is_next words.Policy (more ++ last ∷ after)) (next_row later more after last (order_split 0 told later (PolicyRow row) whole.order).1 short are)
  where
    by_next : (next : Bool) → (rows_given later ≡ []) ⊎ (next ≡ true) → cond next None (option_map kinds.Policy (table_fault (rows_given told ++ row ∷ []))) ≡ None
    by_next true h = refl
    by_next false (inl none) = ap (option_map kinds.Policy) (last_table told later row whole none)
    by_next false (inr next) = cc
group_fits told later (Setting name value) more after last whole short are =
    by_next (is_next words.Set (more ++ last ∷ after)) (next_setting later more after last (order_split 0 told later (Setting name value) whole.order).1 short are)
  where
    by_next : (next : Bool) → ((name : Name) → filter_map (setting_said name) later ≡ []) ⊎ (next ≡ true)
        → cond next None (test (floor_is_above (settings_given (told ++ Setting name value ∷ []))) kinds.Range) ≡ None
    by_next true h = refl
    by_next false (inl none) = not_failing (floor_is_above (settings_given (told ++ Setting name value ∷ []))) kinds.Range (last_settings told later (Setting name value) whole none)
    by_next false (inr next) = cc
group_fits told later (HostSource source) more after last whole short are = either_way (is_next words.Source (more ++ last ∷ after))
group_fits told later (HostRoute route) more after last whole short are = either_way (is_next words.Route (more ++ last ∷ after))
group_fits told later (Answer family reply) more after last whole short are = either_way (is_next (word_said (Answer family reply)) (more ++ last ∷ after))
group_fits told later (RoundTrip ip rtt) more after last whole short are = either_way (is_next words.Rtt (more ++ last ∷ after))
group_fits told later (UsedBefore ip) more after last whole short are = either_way (is_next words.Used (more ++ last ∷ after))
group_fits told later (OutcomeOf ip outcome) more after last whole short are = either_way (is_next words.Connect (more ++ last ∷ after))
group_fits told later (Paused from to) more after last whole short are = either_way (is_next words.Pause (more ++ last ∷ after))
group_fits told later Ended more after last whole short are = either_way (is_next words.End (more ++ last ∷ after))

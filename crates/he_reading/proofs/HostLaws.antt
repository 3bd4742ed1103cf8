-- The rows that the lines give are a table where no more of them come, and the sources and routes are a host's.
use Rattle.std.proofs.Common.{◌≡◌, ℕ, ◌+◌, ◌<◌, ◌≤◌, ◌||◌, Bool, true, false, cond, eqb, not, List, [], ◌∷◌, ◌++◌, length, Option, Some, None, Result, Ok, Err, refl, sym, ◌∙◌, ap, subst, inl, inr, arith, length-append}
use Rattle.std.specs.Prelude.{◌⊎◌, option_map}
use Rattle.std.specs.List.{list_any, position_from}
use Rattle.std.specs.Option.{option_map_or, option_or}
use Rattle.std.proofs.lemmas.Bool.{le-leb, le-ltb, and_from, ne_eqb}
use Rattle.he_addr.specs.declared.ip.Ip.{Ip}
use Rattle.he_addr.specs.Prefix.{width_of}
use Rattle.he_timeline.specs.Building.{empty_race}
use Rattle.he_select.specs.declared.limits.TheConstants.{SOURCES, ROUTES}
use Rattle.he_select.specs.declared.policy.Row.{Row}
use Rattle.he_select.specs.declared.policy.PolicyFault.{PolicyFault}
use Rattle.he_select.specs.declared.host.Source.{Source}
use Rattle.he_select.specs.declared.host.Route.{Route}
use Rattle.he_select.specs.declared.host.HostFault.TheVariants as hosts
use Rattle.he_select.specs.HostFaults.{is_sound_source, is_sound_route, host_fault}
use Rattle.he_select.specs.Hosts.{HostLists, same_source, same_route}
use Rattle.he_select.specs.Refusals.{cause_if, first_cause, first_repeat}
use Rattle.he_select.specs.TableFaults.{table_fault}
use Rattle.he_select.proofs.Repeats.{repeats_law}
use Rattle.he_words.specs.declared.fault.TextKind.{TextKind}
use Rattle.he_words.specs.declared.fault.TextKind.TheVariants as kinds
use Rattle.he_words.specs.declared.limits.TheConstants.{MIN_INTERFACE}
use Rattle.he_words.specs.declared.words.Name.{Name}
use Rattle.he_words.specs.declared.words.Name.TheVariants.{Resolution, Attempt, Count, Limit, Floor}
use Rattle.he_words.specs.declared.words.Version.{Version}
use Rattle.he_words.specs.declared.words.Version.TheVariants.{One, Two}
use Rattle.he_words.specs.declared.words.Word.{Word}
use Rattle.he_words.specs.declared.words.Word.TheVariants as words
use Rattle.he_reading.specs.Faults.{test, repeated, begins_with, is_above, floor_is_above, is_next, wrong_group}
use Rattle.he_reading.specs.Forms.{◌>>=◌, is_added, names_floor, version_word, setting_in, row_in, host_source_in, host_route_in, word_of, said_by}
use Rattle.he_reading.specs.Parts.{tokens_of}
use Rattle.he_words.specs.Kinds.{table_kind, host_kind}
use Rattle.he_reading.specs.Reading.{told_by, policy_from, host_from, race_begun}
use Rattle.he_words.specs.Words.{is_head_word, name_spelling, same_word}
use Rattle.he_reading.specs.Said.{Said, Setting, PolicyRow, HostSource, HostRoute, setting_said, row_said, source_said, route_said, setting_given, rows_given, sources_given, routes_given, settings_given, table_of_rows, host_given}
use Rattle.he_reading.proofs.GivenLaws.{AllFit, settings_agree}
use Rattle.he_reading.proofs.HeadLaws.{head_given}
use Rattle.he_reading.proofs.NextLines.{next_word}
use Rattle.he_reading.proofs.Results.{bind_ok}
use Rattle.he_reading.proofs.SaidLaws.{none_more, one_more, setting_kept, settings_kept}
use Rattle.he_reading.proofs.SelectionFacts.{source_ok, route_ok}
use Rattle.he_reading.proofs.FormFacts.{setting_ok}
use Rattle.he_reading.proofs.SaysLaws.{name_spelled}
use Rattle.he_reading.proofs.ToldLaws.{HasPlace}
use Rattle.he_reading.proofs.Versions.{plain_word, not_added, kept_word, second_word}

-- no member fails a test where the last one doesn't
pub position_more : {A : Type 0} (p : A → Bool) (xs : List A) (x : A) (place : ℕ) → position_from p place xs ≡ None → p x ≡ false → position_from p place (xs ++ x ∷ []) ≡ None
position_more p [] x place h here = ap (λ b. cond b (Some place) None) here
position_more p (y ∷ ys) x place h here = by_test (p y) h (λ rest. position_more p ys x (place + 1) rest here)
  where
    by_test : (b : Bool) → cond b (Some place) (position_from p (place + 1) ys) ≡ None → (position_from p (place + 1) ys ≡ None → position_from p (place + 1) (ys ++ x ∷ []) ≡ None)
        → cond b (Some place) (position_from p (place + 1) (ys ++ x ∷ [])) ≡ None
    by_test true e later = cc
    by_test false e later = later e

-- no member is repeated where the last one isn't
once_more : {A : Type 0} (same : A → A → Bool) (xs : List A) (x : A) → first_repeat same xs ≡ None → list_any (same x) xs ≡ false → first_repeat same (xs ++ x ∷ []) ≡ None
once_more same xs x h new =
    repeats_law same xs x ∙ ap (λ o. option_or o (cause_if (list_any (same x) xs) (length xs))) h ∙ ap (λ b. cause_if b (length xs)) new

-- sources and routes of a host
pub record AreHosts (sources : List Source) (routes : List Route) : Type 0 where
  pub few_sources : length sources ≤ SOURCES
  pub few_routes : length routes ≤ ROUTES
  pub sources_once : first_repeat same_source sources ≡ None
  pub routes_once : first_repeat same_route routes ≡ None
  pub sources_sound : position_from (λ source. not (is_sound_source source)) 0 sources ≡ None
  pub routes_sound : position_from (λ route. not (is_sound_route route)) 0 routes ≡ None

pub no_hosts : AreHosts [] []
no_hosts = record { few_sources = omega arith; few_routes = omega arith; sources_once = refl; routes_once = refl; sources_sound = refl; routes_sound = refl }

no_cause : (b1 b2 : Bool) (o1 o2 o3 o4 : Option ℕ) (lists : HostLists) → b1 ≡ false → b2 ≡ false → o1 ≡ None → o2 ≡ None → o3 ≡ None → o4 ≡ None
    → told_by host_kind (option_map_or Err (first_cause (cause_if (b1 || b2) hosts.TooMany ∷ option_map hosts.RepeatedSource o1 ∷ option_map hosts.RepeatedRoute o2 ∷ option_map hosts.BadSource o3 ∷ option_map hosts.BadRoute o4 ∷ [])) (Ok lists)) ≡ Ok lists
no_cause b1 b2 o1 o2 o3 o4 lists h1 h2 h3 h4 h5 h6 = rw (h1, h2, h3, h4, h5, h6) refl

pub host_agrees : (sources : List Source) (routes : List Route) → AreHosts sources routes → host_from sources routes ≡ Ok (record { sources = sources; routes = routes })
unfolding host_from host_fault
host_agrees sources routes are = no_cause _ _ _ _ _ _ (record { sources = sources; routes = routes })
    (le-ltb SOURCES (length sources) are.few_sources) (le-ltb ROUTES (length routes) are.few_routes) are.sources_once are.routes_once are.sources_sound are.routes_sound

source_more : (sources : List Source) (routes : List Route) (source : Source) → AreHosts sources routes → length sources < SOURCES → list_any (same_source source) sources ≡ false → is_sound_source source ≡ true
    → AreHosts (sources ++ source ∷ []) routes
source_more sources routes source are few new sound = record {
  few_sources = omega (arith, length-append sources (source ∷ []));
  few_routes = are.few_routes;
  sources_once = once_more same_source sources source are.sources_once new;
  routes_once = are.routes_once;
  sources_sound = position_more (λ s. not (is_sound_source s)) sources source 0 are.sources_sound (ap not sound);
  routes_sound = are.routes_sound;
}

route_more : (sources : List Source) (routes : List Route) (route : Route) → AreHosts sources routes → length routes < ROUTES → list_any (same_route route) routes ≡ false → is_sound_route route ≡ true
    → AreHosts sources (routes ++ route ∷ [])
route_more sources routes route are few new sound = record {
  few_sources = are.few_sources;
  few_routes = omega (arith, length-append routes (route ∷ []));
  sources_once = are.sources_once;
  routes_once = once_more same_route routes route are.routes_once new;
  sources_sound = are.sources_sound;
  routes_sound = position_more (λ r. not (is_sound_route r)) routes route 0 are.routes_sound (ap not sound);
}

abbrev pub AreHostsOf : List Said → Type 0
AreHostsOf said = AreHosts (sources_given said) (routes_given said)

hosts_same : (sources sources' : List Source) (routes routes' : List Route) → sources ≡ sources' → routes ≡ routes' → AreHosts sources routes → AreHosts sources' routes'
hosts_same sources sources' routes routes' es er are =
    let P : List Source → Type 0 = λ s. AreHosts s routes in
    let Q : List Route → Type 0 = λ r. AreHosts sources' r in
    subst Q er (subst P es are)

hosts_kept : (said : List Said) (s : Said) → source_said s ≡ None → route_said s ≡ None → AreHostsOf said → AreHostsOf (said ++ s ∷ [])
hosts_kept said s no_source no_route are = hosts_same _ _ _ _ (sym (none_more source_said said s no_source)) (sym (none_more route_said said s no_route)) are

not_again : (b : Bool) (kind : TextKind) → test b kind ≡ None → b ≡ false
not_again true kind h = cc
not_again false kind h = refl

numbered : (n : ℕ) → MIN_INTERFACE ≤ n → not (eqb n 0) ≡ true
numbered n h = ap not (ne_eqb n 0 (λ e. absurd (omega (arith, e))))

is_sound : (tokens : List (List ℕ)) (source : Source) → host_source_in tokens ≡ Ok source → is_sound_source source ≡ true
is_sound tokens source e =
    let is = source_ok tokens source e in
    and_from _ _ (and_from _ _ is.usable (le-leb source.plen (width_of source.ip) is.within_width)) (numbered source.interface is.interface_is.least)

source_next : (said : List Said) (source : Source) (tokens : List (List ℕ)) → host_source_in tokens ≡ Ok source → repeated said (HostSource source) ≡ None → length (sources_given said) < SOURCES → AreHostsOf said → AreHostsOf (said ++ HostSource source ∷ [])
source_next said source tokens read new few are =
    hosts_same _ _ _ _ (sym (one_more source_said said (HostSource source) source refl)) (sym (none_more route_said said (HostSource source) refl))
    (source_more (sources_given said) (routes_given said) source are few (not_again _ kinds.Repeated new) (is_sound tokens source read))

route_next : (said : List Said) (route : Route) (tokens : List (List ℕ)) → host_route_in tokens ≡ Ok route → repeated said (HostRoute route) ≡ None → length (routes_given said) < ROUTES → AreHostsOf said → AreHostsOf (said ++ HostRoute route ∷ [])
route_next said route tokens read new few are =
    hosts_same _ _ _ _ (sym (none_more source_said said (HostRoute route) refl)) (sym (one_more route_said said (HostRoute route) route refl))
    (route_more (sources_given said) (routes_given said) route are few (not_again _ kinds.Repeated new) (numbered route.interface (route_ok tokens route read).interface_is.least))

-- a line of the first groups leaves sources and routes a host's
pub hosts_more : (known : Ip → Bool) (word : Word) (tokens : List (List ℕ)) (said : List Said) (s : Said) → is_head_word word ≡ true → said_by known word tokens ≡ Ok s → repeated said s ≡ None → HasPlace word said
    → AreHostsOf said → AreHostsOf (said ++ s ∷ [])
unfolding said_by
hosts_more known words.Set tokens said s h e new place are =
    let read = bind_ok (setting_in tokens) (λ setting. Ok (Setting setting.0 setting.1)) s e in
    let same : Setting read.0.0 read.0.1 ≡ s = cc (read.2) in
    let P : Said → Type 0 = λ x. AreHostsOf (said ++ x ∷ []) in
    subst P same (hosts_kept said (Setting read.0.0 read.0.1) refl refl are)
hosts_more known words.Policy tokens said s h e new place are =
    let read = bind_ok (row_in tokens) (λ row. Ok (PolicyRow row)) s e in
    let same : PolicyRow read.0 ≡ s = cc (read.2) in
    let P : Said → Type 0 = λ x. AreHostsOf (said ++ x ∷ []) in
    subst P same (hosts_kept said (PolicyRow read.0) refl refl are)
hosts_more known words.Source tokens said s h e new place are =
    let read = bind_ok (host_source_in tokens) (λ source. Ok (HostSource source)) s e in
    let same : HostSource read.0 ≡ s = cc (read.2) in
    let P : Said → Type 0 = λ x. AreHostsOf (said ++ x ∷ []) in
    subst P same (source_next said read.0 tokens read.1 (ap (repeated said) same ∙ new) place are)
hosts_more known words.Route tokens said s h e new place are =
    let read = bind_ok (host_route_in tokens) (λ route. Ok (HostRoute route)) s e in
    let same : HostRoute read.0 ≡ s = cc (read.2) in
    let P : Said → Type 0 = λ x. AreHostsOf (said ++ x ∷ []) in
    subst P same (route_next said read.0 tokens read.1 (ap (repeated said) same ∙ new) place are)
hosts_more known words.Aaaa tokens said s h e new place are = cc
hosts_more known words.A tokens said s h e new place are = cc
hosts_more known words.Rtt tokens said s h e new place are = cc
hosts_more known words.Used tokens said s h e new place are = cc
hosts_more known words.Connect tokens said s h e new place are = cc
hosts_more known words.Pause tokens said s h e new place are = cc
hosts_more known words.End tokens said s h e new place are = cc

-- the rows are a table or none, or one more follows
abbrev pub IsTableOrMore : List (List ℕ) → List Row → Type 0
IsTableOrMore lines rows = (is_next words.Policy lines ≡ true) ⊎ (policy_from rows ≡ Ok (table_of_rows rows))

policy_is_head : (word : Word) → same_word words.Policy word ≡ true → is_head_word word ≡ true
policy_is_head words.Set h = refl
policy_is_head words.Policy h = refl
policy_is_head words.Source h = refl
policy_is_head words.Route h = refl
policy_is_head words.Aaaa h = cc
policy_is_head words.A h = cc
policy_is_head words.Rtt h = cc
policy_is_head words.Used h = cc
policy_is_head words.Connect h = cc
policy_is_head words.Pause h = cc
policy_is_head words.End h = cc

policy_is_old : (word : Word) (tokens : List (List ℕ)) → same_word words.Policy word ≡ true → is_added (word, tokens) ≡ false
policy_is_old words.Set tokens h = cc
policy_is_old words.Policy tokens h = refl
policy_is_old words.Source tokens h = cc
policy_is_old words.Route tokens h = cc
policy_is_old words.Aaaa tokens h = cc
policy_is_old words.A tokens h = cc
policy_is_old words.Rtt tokens h = cc
policy_is_old words.Used tokens h = cc
policy_is_old words.Connect tokens h = cc
policy_is_old words.Pause tokens h = cc
policy_is_old words.End tokens h = cc

-- where the next line is of a later group, the rows are a table
pub table_whole : (v : Version) (line : List ℕ) (after : List (List ℕ)) (rows : List Row) → ((word : Word) (tokens : List (List ℕ)) → version_word v (tokens_of line) ≡ Ok (word, tokens) → is_head_word word ≡ false)
    → IsTableOrMore (line ∷ after) rows → policy_from rows ≡ Ok (table_of_rows rows)
table_whole v line after rows late (inr table) = table
table_whole v line after rows late (inl more) = by_word (word_of (tokens_of line)) refl (next_word words.Policy line after (word_of (tokens_of line)) refl more)
  where
    both : (b : Bool) → b ≡ true → b ≡ false → ⊥
    both true t f = cc
    both false t f = cc

    by_word : (word : Result (Word × List (List ℕ)) TextKind) → word_of (tokens_of line) ≡ word → begins_with words.Policy word ≡ true → policy_from rows ≡ Ok (table_of_rows rows)
    by_word (Err kind) e h = cc
    by_word (Ok parts) e h = absurd (both (is_head_word parts.0) (policy_is_head parts.0 h) (late parts.0 parts.1 (kept_word v (tokens_of line) parts (policy_is_old parts.0 parts.1 h) e)))

-- the last row of a table
table_ends : (rows : List Row) (row : Row) → option_map kinds.Policy (table_fault (rows ++ row ∷ [])) ≡ None → policy_from (rows ++ row ∷ []) ≡ Ok (table_of_rows (rows ++ row ∷ []))
unfolding policy_from
table_ends [] row h = by_fault (table_fault (row ∷ [])) h (row ∷ [])
  where
    by_fault : (fault : Option PolicyFault) → option_map kinds.Policy fault ≡ None → (rows : List Row) → told_by table_kind (option_map_or Err fault (Ok rows)) ≡ Ok rows
    by_fault None h rows = refl
    by_fault (Some fault) h rows = cc
table_ends (first ∷ rows) row h = by_fault (table_fault (first ∷ rows ++ row ∷ [])) h (first ∷ rows ++ row ∷ [])
  where
    by_fault : (fault : Option PolicyFault) → option_map kinds.Policy fault ≡ None → (rows : List Row) → told_by table_kind (option_map_or Err fault (Ok rows)) ≡ Ok rows
    by_fault None h rows = refl
    by_fault (Some fault) h rows = cc

table_kept : (line : List ℕ) (after : List (List ℕ)) (word : Word) (tokens : List (List ℕ)) (said : List Said) (s : Said) → word_of (tokens_of line) ≡ Ok (word, tokens) → same_word words.Policy word ≡ false → row_said s ≡ None
    → IsTableOrMore (line ∷ after) (rows_given said) → IsTableOrMore after (rows_given (said ++ s ∷ []))
table_kept line after word tokens said s is other none (inr table) =
    let P : List Row → Type 0 = λ rows. policy_from rows ≡ Ok (table_of_rows rows) in inr (subst P (sym (none_more row_said said s none)) table)
table_kept line after word tokens said s is other none (inl more) = absurd (both (same_word words.Policy word) (next_word words.Policy line after (Ok (word, tokens)) is more) other)
  where
    both : (b : Bool) → b ≡ true → b ≡ false → ⊥
    both true t f = cc
    both false t f = cc

row_next : (after : List (List ℕ)) (said : List Said) (row : Row) (more : Bool) → is_next words.Policy after ≡ more → cond more None (option_map kinds.Policy (table_fault (rows_given said ++ row ∷ []))) ≡ None
    → IsTableOrMore after (rows_given (said ++ PolicyRow row ∷ []))
row_next after said row true e h = inl e
row_next after said row false e h =
    let P : List Row → Type 0 = λ rows. policy_from rows ≡ Ok (table_of_rows rows) in
    inr (subst P (sym (one_more row_said said (PolicyRow row) row refl)) (table_ends (rows_given said) row h))

-- a line of the first groups leaves the rows a table, or one more follows
pub table_more : (known : Ip → Bool) (line : List ℕ) (after : List (List ℕ)) (word : Word) (tokens : List (List ℕ)) (said : List Said) (s : Said) → word_of (tokens_of line) ≡ Ok (word, tokens) → is_head_word word ≡ true
    → said_by known word tokens ≡ Ok s → wrong_group said after s ≡ None → IsTableOrMore (line ∷ after) (rows_given said) → IsTableOrMore after (rows_given (said ++ s ∷ []))
unfolding said_by
table_more known line after words.Set tokens said s is h e right table =
    let read = bind_ok (setting_in tokens) (λ setting. Ok (Setting setting.0 setting.1)) s e in
    let same : Setting read.0.0 read.0.1 ≡ s = cc (read.2) in
    table_kept line after words.Set tokens said s is refl (ap row_said (sym same)) table
table_more known line after words.Policy tokens said s is h e right table =
    let read = bind_ok (row_in tokens) (λ row. Ok (PolicyRow row)) s e in
    let same : PolicyRow read.0 ≡ s = cc (read.2) in
    let P : Said → Type 0 = λ x. IsTableOrMore after (rows_given (said ++ x ∷ [])) in
    subst P same (row_next after said read.0 (is_next words.Policy after) refl (ap (wrong_group said after) same ∙ right))
table_more known line after words.Source tokens said s is h e right table =
    let read = bind_ok (host_source_in tokens) (λ source. Ok (HostSource source)) s e in
    let same : HostSource read.0 ≡ s = cc (read.2) in
    table_kept line after words.Source tokens said s is refl (ap row_said (sym same)) table
table_more known line after words.Route tokens said s is h e right table =
    let read = bind_ok (host_route_in tokens) (λ route. Ok (HostRoute route)) s e in
    let same : HostRoute read.0 ≡ s = cc (read.2) in
    table_kept line after words.Route tokens said s is refl (ap row_said (sym same)) table
table_more known line after words.Aaaa tokens said s is h e right table = cc
table_more known line after words.A tokens said s is h e right table = cc
table_more known line after words.Rtt tokens said s is h e right table = cc
table_more known line after words.Used tokens said s is h e right table = cc
table_more known line after words.Connect tokens said s is h e right table = cc
table_more known line after words.Pause tokens said s is h e right table = cc
table_more known line after words.End tokens said s is h e right table = cc

-- version 1 has no floor; in version 2 it is at most the attempt delay, or one more setting follows
abbrev pub IsFloorOrMore : Version → List (List ℕ) → List Said → Type 0
IsFloorOrMore One lines said = setting_given Floor said ≡ None
IsFloorOrMore Two lines said = (is_next words.Set lines ≡ true) ⊎ (floor_is_above (settings_given said) ≡ false)

set_is_head : (word : Word) → same_word words.Set word ≡ true → is_head_word word ≡ true
set_is_head words.Set h = refl
set_is_head words.Policy h = refl
set_is_head words.Source h = refl
set_is_head words.Route h = refl
set_is_head words.Aaaa h = cc
set_is_head words.A h = cc
set_is_head words.Rtt h = cc
set_is_head words.Used h = cc
set_is_head words.Connect h = cc
set_is_head words.Pause h = cc
set_is_head words.End h = cc

never_both : (b : Bool) → b ≡ true → b ≡ false → ⊥
never_both true t f = cc
never_both false t f = cc

-- where the next line is of a later group, the floor is at most the attempt delay
pub floor_whole : (v : Version) (line : List ℕ) (after : List (List ℕ)) (said : List Said) → ((word : Word) (tokens : List (List ℕ)) → version_word v (tokens_of line) ≡ Ok (word, tokens) → is_head_word word ≡ false)
    → IsFloorOrMore v (line ∷ after) said → floor_is_above (settings_given said) ≡ false
floor_whole One line after said late none = ap (λ f. is_above f (settings_given said).attempt) none
floor_whole Two line after said late (inr below) = below
floor_whole Two line after said late (inl more) = by_word (word_of (tokens_of line)) refl (next_word words.Set line after (word_of (tokens_of line)) refl more)
  where
    by_word : (word : Result (Word × List (List ℕ)) TextKind) → word_of (tokens_of line) ≡ word → begins_with words.Set word ≡ true → floor_is_above (settings_given said) ≡ false
    by_word (Err kind) e h = cc
    by_word (Ok parts) e h = absurd (never_both (is_head_word parts.0) (set_is_head parts.0 h) (late parts.0 parts.1 (second_word (tokens_of line) parts e)))

floor_kept : (v : Version) (line : List ℕ) (after : List (List ℕ)) (word : Word) (tokens : List (List ℕ)) (said : List Said) (s : Said) → version_word v (tokens_of line) ≡ Ok (word, tokens)
    → same_word words.Set word ≡ false → ((name : Name) → setting_said name s ≡ None) → IsFloorOrMore v (line ∷ after) said → IsFloorOrMore v after (said ++ s ∷ [])
floor_kept One line after word tokens said s is other none floor = setting_kept Floor said s (none Floor) ∙ floor
floor_kept Two line after word tokens said s is other none (inr below) = inr (ap floor_is_above (settings_kept said s none) ∙ below)
floor_kept Two line after word tokens said s is other none (inl more) =
    absurd (never_both (same_word words.Set word) (next_word words.Set line after (Ok (word, tokens)) (plain_word Two (tokens_of line) (word, tokens) is) more) other)

-- a text of version 1 names no floor
names_other : (tokens : List (List ℕ)) (name : Name) (value : ℕ) → setting_in tokens ≡ Ok (name, value) → names_floor tokens ≡ false → setting_said Floor (Setting name value) ≡ None
names_other tokens Resolution value e other = refl
names_other tokens Attempt value e other = refl
names_other tokens Count value e other = refl
names_other tokens Limit value e other = refl
names_other tokens Floor value e other =
    let fact = setting_ok tokens (Floor, value) e in
    let first : fact.first ≡ name_spelling Floor = name_spelled fact.first Floor fact.name_is in
    let names : names_floor tokens ≡ true = ap names_floor (fact.tokens_are ∙ ap (λ t. t ∷ fact.second ∷ []) first) in
    absurd (never_both (names_floor tokens) names other)

floor_next : (after : List (List ℕ)) (said : List Said) (s : Said) (more : Bool) → is_next words.Set after ≡ more → cond more None (test (floor_is_above (settings_given (said ++ s ∷ []))) kinds.Range) ≡ None → IsFloorOrMore Two after (said ++ s ∷ [])
floor_next after said s true e h = inl e
floor_next after said s false e h = inr (not_again (floor_is_above (settings_given (said ++ s ∷ []))) kinds.Range h)

setting_next : (v : Version) (line : List ℕ) (after tokens : List (List ℕ)) (said : List Said) (name : Name) (value : ℕ) → version_word v (tokens_of line) ≡ Ok (words.Set, tokens) → setting_in tokens ≡ Ok (name, value)
    → wrong_group said after (Setting name value) ≡ None → IsFloorOrMore v (line ∷ after) said → IsFloorOrMore v after (said ++ Setting name value ∷ [])
setting_next One line after tokens said name value is e right floor =
    setting_kept Floor said (Setting name value) (names_other tokens name value e (not_added (tokens_of line) (words.Set, tokens) is)) ∙ floor
setting_next Two line after tokens said name value is e right floor = floor_next after said (Setting name value) (is_next words.Set after) refl right

-- a line of the first groups leaves the floor at most the attempt delay, or one more setting follows
pub floor_more : (v : Version) (known : Ip → Bool) (line : List ℕ) (after : List (List ℕ)) (word : Word) (tokens : List (List ℕ)) (said : List Said) (s : Said) → version_word v (tokens_of line) ≡ Ok (word, tokens) → is_head_word word ≡ true
    → said_by known word tokens ≡ Ok s → wrong_group said after s ≡ None → IsFloorOrMore v (line ∷ after) said → IsFloorOrMore v after (said ++ s ∷ [])
unfolding said_by
floor_more v known line after words.Set tokens said s is h e right floor =
    let read = bind_ok (setting_in tokens) (λ setting. Ok (Setting setting.0 setting.1)) s e in
    let same : Setting read.0.0 read.0.1 ≡ s = cc (read.2) in
    let P : Said → Type 0 = λ x. IsFloorOrMore v after (said ++ x ∷ []) in
    subst P same (setting_next v line after tokens said read.0.0 read.0.1 is read.1 (ap (wrong_group said after) same ∙ right) floor)
floor_more v known line after words.Policy tokens said s is h e right floor =
    let read = bind_ok (row_in tokens) (λ row. Ok (PolicyRow row)) s e in
    let same : PolicyRow read.0 ≡ s = cc (read.2) in
    floor_kept v line after words.Policy tokens said s is refl (λ name. ap (setting_said name) (sym same)) floor
floor_more v known line after words.Source tokens said s is h e right floor =
    let read = bind_ok (host_source_in tokens) (λ source. Ok (HostSource source)) s e in
    let same : HostSource read.0 ≡ s = cc (read.2) in
    floor_kept v line after words.Source tokens said s is refl (λ name. ap (setting_said name) (sym same)) floor
floor_more v known line after words.Route tokens said s is h e right floor =
    let read = bind_ok (host_route_in tokens) (λ route. Ok (HostRoute route)) s e in
    let same : HostRoute read.0 ≡ s = cc (read.2) in
    floor_kept v line after words.Route tokens said s is refl (λ name. ap (setting_said name) (sym same)) floor
floor_more v known line after words.Aaaa tokens said s is h e right floor = cc
floor_more v known line after words.A tokens said s is h e right floor = cc
floor_more v known line after words.Rtt tokens said s is h e right floor = cc
floor_more v known line after words.Used tokens said s is h e right floor = cc
floor_more v known line after words.Connect tokens said s is h e right floor = cc
floor_more v known line after words.Pause tokens said s is h e right floor = cc
floor_more v known line after words.End tokens said s is h e right floor = cc

-- what the lines give makes the race in which nothing happens yet
pub starts : (said : List Said) → AllFit said → floor_is_above (settings_given said) ≡ false → AreHostsOf said → policy_from (rows_given said) ≡ Ok (table_of_rows (rows_given said))
    → race_begun (head_given said) ≡ Ok (empty_race (settings_given said) (table_of_rows (rows_given said)) (host_given said))
unfolding race_begun
starts said fit below are table =
    ap (λ s. s >>= λ settings. policy_from (rows_given said) >>= λ policy. host_from (sources_given said) (routes_given said) >>= λ host. Ok (empty_race settings policy host)) (settings_agree said fit below)
    ∙ ap (λ p. p >>= λ policy. host_from (sources_given said) (routes_given said) >>= λ host. Ok (empty_race (settings_given said) policy host)) table
    ∙ ap (λ h. h >>= λ host. Ok (empty_race (settings_given said) (table_of_rows (rows_given said)) host)) (host_agrees (sources_given said) (routes_given said) are)

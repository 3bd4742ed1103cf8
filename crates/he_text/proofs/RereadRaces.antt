-- What is written of a race, in the order of its lines, says the race.
use Rattle.std.proofs.Common.{◌≡◌, ℕ, ◌≤◌, true, leb, List, [], ◌∷◌, ◌++◌, length, map, Option, Some, None, refl, sym, ◌∙◌, ap, arith}
use Rattle.std.specs.Prelude.{unwrap_or}
use Rattle.std.specs.List.{AllByRecursion, filter_map, cons_option, list_all}
use Rattle.std.proofs.lemmas.Bool.{le-leb, and_from, and_parts}
use Rattle.std.proofs.lemmas.List.{append-nil}
use Rattle.std.proofs.lemmas.List.Elements.{filter_map-append}
use Rattle.he_addr.specs.declared.ip.Family.{Family}
use Rattle.he_addr.specs.declared.ip.Family.TheVariants as families
use Rattle.he_addr.specs.declared.ip.Ip.{Ip}
use Rattle.he_timeline.specs.declared.limits.TheConstants.{DEFAULT_RESOLUTION, DEFAULT_ATTEMPT, DEFAULT_COUNT, DEFAULT_LIMIT}
use Rattle.he_timeline.specs.declared.outcome.Outcome.{Outcome}
use Rattle.he_timeline.specs.Race.{History, Race, Reply}
use Rattle.he_timeline.specs.Settings.{SettingValues}
use Rattle.he_select.specs.declared.policy.Row.{Row}
use Rattle.he_select.specs.declared.host.Source.{Source}
use Rattle.he_select.specs.declared.host.Route.{Route}
use Rattle.he_select.specs.Hosts.{HostLists}
use Rattle.he_select.specs.TableFaults.{table_fault}
use Rattle.he_select.specs.Tables.{IsAdmitted}
use Rattle.he_words.specs.declared.words.Name.{Name}
use Rattle.he_words.specs.declared.words.Name.TheVariants.{Resolution, Attempt, Count, Limit, Floor}
use Rattle.he_reading.specs.Said.{Said, Setting, PolicyRow, HostSource, HostRoute, Answer, RoundTrip, UsedBefore, OutcomeOf, Paused, setting_said, row_said, source_said, route_said, answer_said, rtt_said, used_said, outcome_said, pause_said, at_front, setting_given, rows_given, sources_given, routes_given, answer_given, rtts_given, used_given, outcomes_given, pauses_given, settings_given, table_of_rows, race_of}
use Rattle.he_words.specs.declared.words.Version.{Version}
use Rattle.he_words.specs.declared.words.Version.TheVariants.{One, Two}
use Rattle.he_reading.specs.Text.{group_said, are_in_order, may_say}
use Rattle.he_write.specs.Written.{version_for, version_of}
use Rattle.he_reading.proofs.CompleteGroups.{order_below}

-- the lines of a race that is written, all settings and rows among them
abbrev pub floor_as : Option ℕ → List Said
floor_as None = []
floor_as (Some floor) = Setting Floor floor ∷ []

abbrev pub settings_said : SettingValues → List Said
settings_said settings = Setting Resolution settings.resolution ∷ Setting Attempt settings.attempt ∷ Setting Count settings.count ∷ Setting Limit settings.limit ∷ floor_as settings.floor

abbrev pub answer_as : Family → Option Reply → List Said
answer_as family None = []
answer_as family (Some reply) = Answer family reply ∷ []

abbrev pub rtt_as : Ip × ℕ → Said
rtt_as told = RoundTrip told.0 told.1

abbrev pub told_as : Ip × Outcome → Said
told_as told = OutcomeOf told.0 told.1

abbrev pub paused_as : ℕ × ℕ → Said
paused_as pause = Paused pause.0 pause.1

-- what stands from each group on
abbrev pub told_on : Race → List Said
told_on race = map told_as race.outcomes ++ map paused_as race.pauses

abbrev pub used_on : Race → List Said
used_on race = map UsedBefore race.history.used ++ told_on race

abbrev pub rtts_on : Race → List Said
rtts_on race = map rtt_as race.history.rtts ++ used_on race

abbrev pub a_on : Race → List Said
a_on race = answer_as families.V4 race.a ++ rtts_on race

abbrev pub aaaa_on : Race → List Said
aaaa_on race = answer_as families.V6 race.aaaa ++ a_on race

abbrev pub routes_on : Race → List Said
routes_on race = map HostRoute race.host.routes ++ aaaa_on race

abbrev pub sources_on : Race → List Said
sources_on race = map HostSource race.host.sources ++ routes_on race

abbrev pub rows_on : Race → List Said
rows_on race = map PolicyRow race.policy ++ sources_on race

abbrev pub race_said : Race → List Said
race_said race = settings_said race.settings ++ rows_on race

-- they are in order
of_group : (low group : ℕ) (said later : List Said) → low ≤ group → AllByRecursion (λ s. group_said s ≡ group) said → are_in_order group later ≡ true → are_in_order low (said ++ later) ≡ true
of_group low group [] later le all order = order_below low group later le order
of_group low group (s ∷ said) later le all order =
    and_from (leb low (group_said s)) (are_in_order (group_said s) (said ++ later)) (le-leb low (group_said s) (omega (arith, all.0)))
    (of_group (group_said s) group said later (omega (arith, all.0)) all.1 order)

each_of : {A : Type 0} (say : A → Said) (group : ℕ) → ((x : A) → group_said (say x) ≡ group) → (xs : List A) → AllByRecursion (λ s. group_said s ≡ group) (map say xs)
each_of say group is [] = tt
each_of say group is (x ∷ xs) = (is x, each_of say group is xs)

floor_group : (o : Option ℕ) → AllByRecursion (λ s. group_said s ≡ 1) (floor_as o)
floor_group None = tt
floor_group (Some floor) = (refl, tt)

answer_group : (o : Option Reply) → AllByRecursion (λ s. group_said s ≡ 5) (answer_as families.V6 o)
answer_group None = tt
answer_group (Some reply) = (refl, tt)

second_group : (o : Option Reply) → AllByRecursion (λ s. group_said s ≡ 6) (answer_as families.V4 o)
second_group None = tt
second_group (Some reply) = (refl, tt)

pauses_order : (pauses : List (ℕ × ℕ)) → are_in_order 10 (map paused_as pauses) ≡ true
pauses_order [] = refl
pauses_order (p ∷ pauses) = pauses_order pauses

pub said_in_order : (race : Race) → are_in_order 0 (race_said race) ≡ true
said_in_order race =
    of_group 0 1 (settings_said race.settings) (rows_on race) (omega arith) (refl, (refl, (refl, (refl, floor_group race.settings.floor))))
    (of_group 1 2 (map PolicyRow race.policy) (sources_on race) (omega arith) (each_of PolicyRow 2 (λ row. refl) race.policy)
    (of_group 2 3 (map HostSource race.host.sources) (routes_on race) (omega arith) (each_of HostSource 3 (λ source. refl) race.host.sources)
    (of_group 3 4 (map HostRoute race.host.routes) (aaaa_on race) (omega arith) (each_of HostRoute 4 (λ route. refl) race.host.routes)
    (of_group 4 5 (answer_as families.V6 race.aaaa) (a_on race) (omega arith) (answer_group race.aaaa)
    (of_group 5 6 (answer_as families.V4 race.a) (rtts_on race) (omega arith) (second_group race.a)
    (of_group 6 7 (map rtt_as race.history.rtts) (used_on race) (omega arith) (each_of rtt_as 7 (λ told. refl) race.history.rtts)
    (of_group 7 8 (map UsedBefore race.history.used) (told_on race) (omega arith) (each_of UsedBefore 8 (λ ip. refl) race.history.used)
    (of_group 8 9 (map told_as race.outcomes) (map paused_as race.pauses) (omega arith) (each_of told_as 9 (λ told. refl) race.outcomes)
    (order_below 9 10 (map paused_as race.pauses) (omega arith) (pauses_order race.pauses))))))))))

-- they are of the version
also_may : (v : Version) (xs ys : List Said) → list_all (may_say v) xs ≡ true → list_all (may_say v) ys ≡ true → list_all (may_say v) (xs ++ ys) ≡ true
also_may v [] ys hx hy = hy
also_may v (x ∷ xs) ys hx hy =
    let parts = and_parts (may_say v x) (list_all (may_say v) xs) hx in
    and_from (may_say v x) (list_all (may_say v) (xs ++ ys)) parts.0 (also_may v xs ys parts.1 hy)

each_may : {A : Type 0} (v : Version) (say : A → Said) → ((x : A) → may_say v (say x) ≡ true) → (xs : List A) → list_all (may_say v) (map say xs) ≡ true
each_may v say may [] = refl
each_may v say may (x ∷ xs) = and_from (may_say v (say x)) (list_all (may_say v) (map say xs)) (may x) (each_may v say may xs)

answer_may : (v : Version) (family : Family) (o : Option Reply) → list_all (may_say v) (answer_as family o) ≡ true
answer_may One family None = refl
answer_may Two family None = refl
answer_may One family (Some reply) = refl
answer_may Two family (Some reply) = refl

floor_may : (o : Option ℕ) → list_all (may_say Two) (floor_as o) ≡ true
floor_may None = refl
floor_may (Some floor) = refl

told_may : (v : Version) (told : Ip × Outcome) → may_say v (told_as told) ≡ true
told_may One told = refl
told_may Two told = refl

paused_may : (v : Version) (pause : ℕ × ℕ) → may_say v (paused_as pause) ≡ true
paused_may One pause = refl
paused_may Two pause = refl

row_may : (v : Version) (row : Row) → may_say v (PolicyRow row) ≡ true
row_may One row = refl
row_may Two row = refl

source_may : (v : Version) (source : Source) → may_say v (HostSource source) ≡ true
source_may One source = refl
source_may Two source = refl

route_may : (v : Version) (route : Route) → may_say v (HostRoute route) ≡ true
route_may One route = refl
route_may Two route = refl

parts_may : (v : Version) (race : Race) → list_all (may_say v) (settings_said race.settings) ≡ true → list_all (may_say v) (map rtt_as race.history.rtts) ≡ true → list_all (may_say v) (map UsedBefore race.history.used) ≡ true
    → list_all (may_say v) (race_said race) ≡ true
parts_may v race settings rtts used =
    also_may v (settings_said race.settings) (rows_on race) settings
    (also_may v (map PolicyRow race.policy) (sources_on race) (each_may v PolicyRow (row_may v) race.policy)
    (also_may v (map HostSource race.host.sources) (routes_on race) (each_may v HostSource (source_may v) race.host.sources)
    (also_may v (map HostRoute race.host.routes) (aaaa_on race) (each_may v HostRoute (route_may v) race.host.routes)
    (also_may v (answer_as families.V6 race.aaaa) (a_on race) (answer_may v families.V6 race.aaaa)
    (also_may v (answer_as families.V4 race.a) (rtts_on race) (answer_may v families.V4 race.a)
    (also_may v (map rtt_as race.history.rtts) (used_on race) rtts
    (also_may v (map UsedBefore race.history.used) (told_on race) used
    (also_may v (map told_as race.outcomes) (map paused_as race.pauses) (each_may v told_as (told_may v) race.outcomes) (each_may v paused_as (paused_may v) race.pauses)))))))))

second_may : (race : Race) → list_all (may_say Two) (race_said race) ≡ true
second_may race = parts_may Two race (floor_may race.settings.floor) (each_may Two rtt_as (λ told. refl) race.history.rtts) (each_may Two UsedBefore (λ ip. refl) race.history.used)

version_may : (race : Race) (floor : Option ℕ) (rtts : List (Ip × ℕ)) (used : List Ip) → race.settings.floor ≡ floor → race.history.rtts ≡ rtts → race.history.used ≡ used
    → list_all (may_say (version_for floor rtts used)) (race_said race) ≡ true
version_may race None [] [] no_floor no_rtt no_use = parts_may One race
    (ap (λ floor. list_all (may_say One) (floor_as floor)) no_floor)
    (ap (λ rtts. list_all (may_say One) (map rtt_as rtts)) no_rtt)
    (ap (λ used. list_all (may_say One) (map UsedBefore used)) no_use)
version_may race None [] (ip ∷ used) a b c = second_may race
version_may race None (told ∷ rtts) used a b c = second_may race
version_may race (Some floor) rtts used a b c = second_may race

pub said_of_version : (race : Race) → list_all (may_say (version_of race)) (race_said race) ≡ true
said_of_version race = version_may race race.settings.floor race.history.rtts race.history.used refl refl refl

-- what they give
both : {Y : Type 0} (h : Said → Option Y) (xs ys : List Said) (a b : List Y) → filter_map h xs ≡ a → filter_map h ys ≡ b → filter_map h (xs ++ ys) ≡ a ++ b
both h xs ys a b e f = filter_map-append h xs ys ∙ ap (λ x. x ++ filter_map h ys) e ∙ ap (λ y. a ++ y) f

all_of : {A : Type 0} (say : A → Said) (h : Said → Option A) → ((x : A) → h (say x) ≡ Some x) → (xs : List A) → filter_map h (map say xs) ≡ xs
all_of say h gives [] = refl
all_of say h gives (x ∷ xs) = ap (λ o. cons_option o (filter_map h (map say xs))) (gives x) ∙ ap (λ ys. x ∷ ys) (all_of say h gives xs)

none_of : {A Y : Type 0} (say : A → Said) (h : Said → Option Y) → ((x : A) → h (say x) ≡ None) → (xs : List A) → filter_map h (map say xs) ≡ []
none_of say h gives [] = refl
none_of say h gives (x ∷ xs) = ap (λ o. cons_option o (filter_map h (map say xs))) (gives x) ∙ none_of say h gives xs

no_answer : {Y : Type 0} (h : Said → Option Y) (family : Family) → ((reply : Reply) → h (Answer family reply) ≡ None) → (o : Option Reply) → filter_map h (answer_as family o) ≡ []
no_answer h family gives None = refl
no_answer h family gives (Some reply) = ap (λ o. cons_option o []) (gives reply)

pieces : {Y : Type 0} (h : Said → Option Y) (race : Race) (settings rows sources routes aaaa a rtts used told paused : List Y)
    → filter_map h (settings_said race.settings) ≡ settings → filter_map h (map PolicyRow race.policy) ≡ rows → filter_map h (map HostSource race.host.sources) ≡ sources
    → filter_map h (map HostRoute race.host.routes) ≡ routes → filter_map h (answer_as families.V6 race.aaaa) ≡ aaaa → filter_map h (answer_as families.V4 race.a) ≡ a
    → filter_map h (map rtt_as race.history.rtts) ≡ rtts → filter_map h (map UsedBefore race.history.used) ≡ used
    → filter_map h (map told_as race.outcomes) ≡ told → filter_map h (map paused_as race.pauses) ≡ paused
    → filter_map h (race_said race) ≡ settings ++ (rows ++ (sources ++ (routes ++ (aaaa ++ (a ++ (rtts ++ (used ++ (told ++ paused))))))))
pieces h race settings rows sources routes aaaa a rtts used told paused h1 h2 h3 h4 h5 h6 h7 h8 h9 h10 =
    let t = both h (map told_as race.outcomes) (map paused_as race.pauses) told paused h9 h10 in
    let u = both h (map UsedBefore race.history.used) (told_on race) used (told ++ paused) h8 t in
    let k = both h (map rtt_as race.history.rtts) (used_on race) rtts (used ++ (told ++ paused)) h7 u in
    let v4 = both h (answer_as families.V4 race.a) (rtts_on race) a (rtts ++ (used ++ (told ++ paused))) h6 k in
    let v6 = both h (answer_as families.V6 race.aaaa) (a_on race) aaaa (a ++ (rtts ++ (used ++ (told ++ paused)))) h5 v4 in
    let r = both h (map HostRoute race.host.routes) (aaaa_on race) routes (aaaa ++ (a ++ (rtts ++ (used ++ (told ++ paused))))) h4 v6 in
    let s = both h (map HostSource race.host.sources) (routes_on race) sources (routes ++ (aaaa ++ (a ++ (rtts ++ (used ++ (told ++ paused)))))) h3 r in
    let p = both h (map PolicyRow race.policy) (sources_on race) rows (sources ++ (routes ++ (aaaa ++ (a ++ (rtts ++ (used ++ (told ++ paused))))))) h2 s in
    both h (settings_said race.settings) (rows_on race) settings (rows ++ (sources ++ (routes ++ (aaaa ++ (a ++ (rtts ++ (used ++ (told ++ paused)))))))) h1 p

no_floor : {Y : Type 0} (h : Said → Option Y) → ((floor : ℕ) → h (Setting Floor floor) ≡ None) → (o : Option ℕ) → filter_map h (floor_as o) ≡ []
no_floor h gives None = refl
no_floor h gives (Some floor) = ap (λ o. cons_option o []) (gives floor)

abbrev listed : {A : Type 0} → Option A → List A
listed None = []
listed (Some reply) = reply ∷ []

abbrev values_of : Name → SettingValues → List ℕ
values_of Resolution settings = settings.resolution ∷ []
values_of Attempt settings = settings.attempt ∷ []
values_of Count settings = settings.count ∷ []
values_of Limit settings = settings.limit ∷ []
values_of Floor settings = listed settings.floor

floor_listed : (o : Option ℕ) → filter_map (setting_said Floor) (floor_as o) ≡ listed o
floor_listed None = refl
floor_listed (Some floor) = refl

one_setting : (name : Name) (settings : SettingValues) → filter_map (setting_said name) (settings_said settings) ≡ values_of name settings
one_setting Resolution settings = ap (λ more. settings.resolution ∷ more) (no_floor (setting_said Resolution) (λ floor. refl) settings.floor)
one_setting Attempt settings = ap (λ more. settings.attempt ∷ more) (no_floor (setting_said Attempt) (λ floor. refl) settings.floor)
one_setting Count settings = ap (λ more. settings.count ∷ more) (no_floor (setting_said Count) (λ floor. refl) settings.floor)
one_setting Limit settings = ap (λ more. settings.limit ∷ more) (no_floor (setting_said Limit) (λ floor. refl) settings.floor)
one_setting Floor settings = floor_listed settings.floor

pub settings_back : (name : Name) (race : Race) → filter_map (setting_said name) (race_said race) ≡ values_of name race.settings
settings_back name race = pieces (setting_said name) race (values_of name race.settings) [] [] [] [] [] [] [] [] [] (one_setting name race.settings)
    (none_of PolicyRow (setting_said name) (λ x. refl) race.policy) (none_of HostSource (setting_said name) (λ x. refl) race.host.sources) (none_of HostRoute (setting_said name) (λ x. refl) race.host.routes)
    (no_answer (setting_said name) families.V6 (λ x. refl) race.aaaa) (no_answer (setting_said name) families.V4 (λ x. refl) race.a)
    (none_of rtt_as (setting_said name) (λ x. refl) race.history.rtts) (none_of UsedBefore (setting_said name) (λ x. refl) race.history.used)
    (none_of told_as (setting_said name) (λ x. refl) race.outcomes) (none_of paused_as (setting_said name) (λ x. refl) race.pauses)
    ∙ append-nil (values_of name race.settings)

rows_back : (race : Race) → rows_given (race_said race) ≡ race.policy
rows_back race = pieces row_said race [] race.policy [] [] [] [] [] [] [] [] (no_floor row_said (λ x. refl) race.settings.floor)
    (all_of PolicyRow row_said (λ x. refl) race.policy) (none_of HostSource row_said (λ x. refl) race.host.sources) (none_of HostRoute row_said (λ x. refl) race.host.routes)
    (no_answer row_said families.V6 (λ x. refl) race.aaaa) (no_answer row_said families.V4 (λ x. refl) race.a)
    (none_of rtt_as row_said (λ x. refl) race.history.rtts) (none_of UsedBefore row_said (λ x. refl) race.history.used)
    (none_of told_as row_said (λ x. refl) race.outcomes) (none_of paused_as row_said (λ x. refl) race.pauses)
    ∙ append-nil race.policy

sources_back : (race : Race) → sources_given (race_said race) ≡ race.host.sources
sources_back race = pieces source_said race [] [] race.host.sources [] [] [] [] [] [] [] (no_floor source_said (λ x. refl) race.settings.floor)
    (none_of PolicyRow source_said (λ x. refl) race.policy) (all_of HostSource source_said (λ x. refl) race.host.sources) (none_of HostRoute source_said (λ x. refl) race.host.routes)
    (no_answer source_said families.V6 (λ x. refl) race.aaaa) (no_answer source_said families.V4 (λ x. refl) race.a)
    (none_of rtt_as source_said (λ x. refl) race.history.rtts) (none_of UsedBefore source_said (λ x. refl) race.history.used)
    (none_of told_as source_said (λ x. refl) race.outcomes) (none_of paused_as source_said (λ x. refl) race.pauses)
    ∙ append-nil race.host.sources

routes_back : (race : Race) → routes_given (race_said race) ≡ race.host.routes
routes_back race = pieces route_said race [] [] [] race.host.routes [] [] [] [] [] [] (no_floor route_said (λ x. refl) race.settings.floor)
    (none_of PolicyRow route_said (λ x. refl) race.policy) (none_of HostSource route_said (λ x. refl) race.host.sources) (all_of HostRoute route_said (λ x. refl) race.host.routes)
    (no_answer route_said families.V6 (λ x. refl) race.aaaa) (no_answer route_said families.V4 (λ x. refl) race.a)
    (none_of rtt_as route_said (λ x. refl) race.history.rtts) (none_of UsedBefore route_said (λ x. refl) race.history.used)
    (none_of told_as route_said (λ x. refl) race.outcomes) (none_of paused_as route_said (λ x. refl) race.pauses)
    ∙ append-nil race.host.routes

aaaa_listed : (o : Option Reply) → filter_map (answer_said families.V6) (answer_as families.V6 o) ≡ listed o
aaaa_listed None = refl
aaaa_listed (Some reply) = refl

a_listed : (o : Option Reply) → filter_map (answer_said families.V4) (answer_as families.V4 o) ≡ listed o
a_listed None = refl
a_listed (Some reply) = refl

pub aaaa_back : (race : Race) → filter_map (answer_said families.V6) (race_said race) ≡ listed race.aaaa
aaaa_back race = pieces (answer_said families.V6) race [] [] [] [] (listed race.aaaa) [] [] [] [] [] (no_floor (answer_said families.V6) (λ x. refl) race.settings.floor)
    (none_of PolicyRow (answer_said families.V6) (λ x. refl) race.policy) (none_of HostSource (answer_said families.V6) (λ x. refl) race.host.sources) (none_of HostRoute (answer_said families.V6) (λ x. refl) race.host.routes)
    (aaaa_listed race.aaaa) (no_answer (answer_said families.V6) families.V4 (λ x. refl) race.a)
    (none_of rtt_as (answer_said families.V6) (λ x. refl) race.history.rtts) (none_of UsedBefore (answer_said families.V6) (λ x. refl) race.history.used)
    (none_of told_as (answer_said families.V6) (λ x. refl) race.outcomes) (none_of paused_as (answer_said families.V6) (λ x. refl) race.pauses)
    ∙ append-nil (listed race.aaaa)

pub a_back : (race : Race) → filter_map (answer_said families.V4) (race_said race) ≡ listed race.a
a_back race = pieces (answer_said families.V4) race [] [] [] [] [] (listed race.a) [] [] [] [] (no_floor (answer_said families.V4) (λ x. refl) race.settings.floor)
    (none_of PolicyRow (answer_said families.V4) (λ x. refl) race.policy) (none_of HostSource (answer_said families.V4) (λ x. refl) race.host.sources) (none_of HostRoute (answer_said families.V4) (λ x. refl) race.host.routes)
    (no_answer (answer_said families.V4) families.V6 (λ x. refl) race.aaaa) (a_listed race.a)
    (none_of rtt_as (answer_said families.V4) (λ x. refl) race.history.rtts) (none_of UsedBefore (answer_said families.V4) (λ x. refl) race.history.used)
    (none_of told_as (answer_said families.V4) (λ x. refl) race.outcomes) (none_of paused_as (answer_said families.V4) (λ x. refl) race.pauses)
    ∙ append-nil (listed race.a)

rtts_back : (race : Race) → rtts_given (race_said race) ≡ race.history.rtts
rtts_back race = pieces rtt_said race [] [] [] [] [] [] race.history.rtts [] [] [] (no_floor rtt_said (λ x. refl) race.settings.floor)
    (none_of PolicyRow rtt_said (λ x. refl) race.policy) (none_of HostSource rtt_said (λ x. refl) race.host.sources) (none_of HostRoute rtt_said (λ x. refl) race.host.routes)
    (no_answer rtt_said families.V6 (λ x. refl) race.aaaa) (no_answer rtt_said families.V4 (λ x. refl) race.a)
    (all_of rtt_as rtt_said (λ x. refl) race.history.rtts) (none_of UsedBefore rtt_said (λ x. refl) race.history.used)
    (none_of told_as rtt_said (λ x. refl) race.outcomes) (none_of paused_as rtt_said (λ x. refl) race.pauses)
    ∙ append-nil race.history.rtts

used_back : (race : Race) → used_given (race_said race) ≡ race.history.used
used_back race = pieces used_said race [] [] [] [] [] [] [] race.history.used [] [] (no_floor used_said (λ x. refl) race.settings.floor)
    (none_of PolicyRow used_said (λ x. refl) race.policy) (none_of HostSource used_said (λ x. refl) race.host.sources) (none_of HostRoute used_said (λ x. refl) race.host.routes)
    (no_answer used_said families.V6 (λ x. refl) race.aaaa) (no_answer used_said families.V4 (λ x. refl) race.a)
    (none_of rtt_as used_said (λ x. refl) race.history.rtts) (all_of UsedBefore used_said (λ x. refl) race.history.used)
    (none_of told_as used_said (λ x. refl) race.outcomes) (none_of paused_as used_said (λ x. refl) race.pauses)
    ∙ append-nil race.history.used

outcomes_back : (race : Race) → outcomes_given (race_said race) ≡ race.outcomes
outcomes_back race = pieces outcome_said race [] [] [] [] [] [] [] [] race.outcomes [] (no_floor outcome_said (λ x. refl) race.settings.floor)
    (none_of PolicyRow outcome_said (λ x. refl) race.policy) (none_of HostSource outcome_said (λ x. refl) race.host.sources) (none_of HostRoute outcome_said (λ x. refl) race.host.routes)
    (no_answer outcome_said families.V6 (λ x. refl) race.aaaa) (no_answer outcome_said families.V4 (λ x. refl) race.a)
    (none_of rtt_as outcome_said (λ x. refl) race.history.rtts) (none_of UsedBefore outcome_said (λ x. refl) race.history.used)
    (all_of told_as outcome_said (λ x. refl) race.outcomes) (none_of paused_as outcome_said (λ x. refl) race.pauses)
    ∙ append-nil race.outcomes

pauses_back : (race : Race) → pauses_given (race_said race) ≡ race.pauses
pauses_back race = pieces pause_said race [] [] [] [] [] [] [] [] [] race.pauses (no_floor pause_said (λ x. refl) race.settings.floor)
    (none_of PolicyRow pause_said (λ x. refl) race.policy) (none_of HostSource pause_said (λ x. refl) race.host.sources) (none_of HostRoute pause_said (λ x. refl) race.host.routes)
    (no_answer pause_said families.V6 (λ x. refl) race.aaaa) (no_answer pause_said families.V4 (λ x. refl) race.a)
    (none_of rtt_as pause_said (λ x. refl) race.history.rtts) (none_of UsedBefore pause_said (λ x. refl) race.history.used)
    (none_of told_as pause_said (λ x. refl) race.outcomes) (all_of paused_as pause_said (λ x. refl) race.pauses)

-- the race that they make
first_listed : {A : Type 0} (o : Option A) → at_front (listed o) ≡ o
first_listed None = refl
first_listed (Some reply) = refl

-- an admitted table has a row
table_back : (rows : List Row) → IsAdmitted rows → table_of_rows rows ≡ rows
unfolding table_fault
table_back [] admitted = absurd (omega (arith, admitted.size.0))
table_back (row ∷ rows) admitted = refl

abbrev made_settings : ℕ → ℕ → ℕ → ℕ → Option ℕ → SettingValues
made_settings r a c l f = record { resolution = r; attempt = a; count = c; limit = l; floor = f }

abbrev made_host : List Source → List Route → HostLists
made_host sources routes = record { sources = sources; routes = routes }

abbrev made_history : List (Ip × ℕ) → List Ip → History
made_history rtts used = record { rtts = rtts; used = used }

abbrev made : SettingValues → List Row → HostLists → Option Reply → Option Reply → History → List (Ip × Outcome) → List (ℕ × ℕ) → Race
made s t h aaaa a k o p = record { settings = s; policy = t; host = h; aaaa = aaaa; a = a; history = k; outcomes = o; pauses = p }

all_settings_back : (race : Race) → settings_given (race_said race) ≡ race.settings
all_settings_back race =
    let r = ap (λ values. unwrap_or (at_front values) DEFAULT_RESOLUTION) (settings_back Resolution race) in
    let a = ap (λ values. unwrap_or (at_front values) DEFAULT_ATTEMPT) (settings_back Attempt race) in
    let c = ap (λ values. unwrap_or (at_front values) DEFAULT_COUNT) (settings_back Count race) in
    let l = ap (λ values. unwrap_or (at_front values) DEFAULT_LIMIT) (settings_back Limit race) in
    let f = ap at_front (settings_back Floor race) ∙ first_listed race.settings.floor in
    let s : SettingValues = race.settings in
    let given : Name → ℕ → ℕ = λ name default. unwrap_or (setting_given name (race_said race)) default in
    let floor : Option ℕ = setting_given Floor (race_said race) in
    ap (λ x. made_settings x (given Attempt DEFAULT_ATTEMPT) (given Count DEFAULT_COUNT) (given Limit DEFAULT_LIMIT) floor) r
    ∙ ap (λ x. made_settings s.resolution x (given Count DEFAULT_COUNT) (given Limit DEFAULT_LIMIT) floor) a
    ∙ ap (λ x. made_settings s.resolution s.attempt x (given Limit DEFAULT_LIMIT) floor) c
    ∙ ap (λ x. made_settings s.resolution s.attempt s.count x floor) l
    ∙ ap (λ x. made_settings s.resolution s.attempt s.count s.limit x) f

pub race_back : (race : Race) → IsAdmitted race.policy → race ≡ race_of (race_said race)
unfolding race_of
race_back race admitted =
    let said : List Said = race_said race in
    let host : HostLists = made_host (sources_given said) (routes_given said) in
    let history : History = made_history (rtts_given said) (used_given said) in
    let v6 : Option Reply = answer_given families.V6 said in
    let v4 : Option Reply = answer_given families.V4 said in
    let told : List (Ip × Outcome) = outcomes_given said in
    let paused : List (ℕ × ℕ) = pauses_given said in
    sym (
    ap (λ x. made x (table_of_rows (rows_given said)) host v6 v4 history told paused) (all_settings_back race)
    ∙ ap (λ x. made race.settings x host v6 v4 history told paused) (ap table_of_rows (rows_back race) ∙ table_back race.policy admitted)
    ∙ ap (λ x. made race.settings race.policy (made_host x (routes_given said)) v6 v4 history told paused) (sources_back race)
    ∙ ap (λ x. made race.settings race.policy (made_host race.host.sources x) v6 v4 history told paused) (routes_back race)
    ∙ ap (λ x. made race.settings race.policy race.host x v4 history told paused) (ap at_front (aaaa_back race) ∙ first_listed race.aaaa)
    ∙ ap (λ x. made race.settings race.policy race.host race.aaaa x history told paused) (ap at_front (a_back race) ∙ first_listed race.a)
    ∙ ap (λ x. made race.settings race.policy race.host race.aaaa race.a (made_history x (used_given said)) told paused) (rtts_back race)
    ∙ ap (λ x. made race.settings race.policy race.host race.aaaa race.a (made_history race.history.rtts x) told paused) (used_back race)
    ∙ ap (λ x. made race.settings race.policy race.host race.aaaa race.a race.history x paused) (outcomes_back race)
    ∙ ap (λ x. made race.settings race.policy race.host race.aaaa race.a race.history race.outcomes x) (pauses_back race))

-- each setting and each answer is written once
few_listed : {A : Type 0} (o : Option A) → length (listed o) ≤ 1
few_listed None = omega arith
few_listed (Some reply) = omega arith

few_values : (name : Name) (settings : SettingValues) → length (values_of name settings) ≤ 1
few_values Resolution settings = omega arith
few_values Attempt settings = omega arith
few_values Count settings = omega arith
few_values Limit settings = omega arith
few_values Floor settings = few_listed settings.floor

pub settings_once : (race : Race) (name : Name) → length (filter_map (setting_said name) (race_said race)) ≤ 1
settings_once race name = omega (arith, ap length (settings_back name race), few_values name race.settings)

pub answers_once : (race : Race) (family : Family) → length (filter_map (answer_said family) (race_said race)) ≤ 1
answers_once race families.V6 = omega (arith, ap length (aaaa_back race), few_listed race.aaaa)
answers_once race families.V4 = omega (arith, ap length (a_back race), few_listed race.a)

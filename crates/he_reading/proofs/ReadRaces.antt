-- A race that is read keeps its ranges, and what stands after it are lines of the text.
use Rattle.std.proofs.Common.{◌≡◌, ℕ, ◌+◌, ◌<◌, ◌&&◌, ◌||◌, Bool, true, false, cond, not, leb, ltb, List, [], ◌∷◌, length, Option, Some, None, is_some, Result, Ok, Err, refl, sym, ap, subst, arith}
use Rattle.std.specs.Prelude.{is_none, unwrap_or}
use Rattle.std.specs.List.{AllByRecursion}
use Rattle.std.specs.Option.{option_map_or}
use Rattle.std.proofs.lemmas.Bool.{leb-true, ltb-true, ltb-false, leb-false, and_parts}
use Rattle.he_addr.specs.declared.ip.Family.{Family}
use Rattle.he_addr.specs.declared.ip.Family.TheVariants as families
use Rattle.he_addr.specs.declared.ip.Ip.{Ip}
use Rattle.he_timeline.specs.declared.builder.BuildFault.{BuildFault}
use Rattle.he_timeline.specs.declared.builder.BuildFault.TheVariants as faults
use Rattle.he_timeline.specs.declared.limits.TheConstants.{MAX_TICK, MAX_ADDRESSES, MAX_PAUSES, MAX_PAUSE_END, MAX_RESOLUTION, MIN_ATTEMPT, MAX_ATTEMPT, MIN_COUNT, MAX_COUNT, MIN_LIMIT, MAX_LIMIT, MIN_FLOOR, DEFAULT_RESOLUTION, DEFAULT_ATTEMPT, DEFAULT_COUNT, DEFAULT_LIMIT}
use Rattle.he_timeline.specs.declared.outcome.Outcome.{Outcome}
use Rattle.he_timeline.specs.declared.settings.Range.TheVariants as ranges
use Rattle.he_timeline.specs.Building.{add_answer, add_rtt, add_used, add_outcome, add_pause, empty_race, with_answer, with_rtt, with_used, with_outcome, with_pause, last_end}
use Rattle.he_timeline.specs.Race.{Race, Reply, reply_of, has_ip, is_in_answer, is_told, has_outcome}
use Rattle.he_timeline.specs.Settings.{SettingValues, IsSettings, settings_of}
use Rattle.he_timeline.specs.Timeline.{IsRace, are_of, are_distinct, is_duration, duration_of}
use Rattle.he_timeline.proofs.Ranges.{IsRace-with_answer, IsRace-with_rtt, IsRace-with_used, IsRace-with_outcome, IsRace-with_pause}
use Rattle.he_select.specs.declared.host.HostFault.{HostFault}
use Rattle.he_select.specs.declared.host.Route.{Route}
use Rattle.he_select.specs.declared.host.Source.{Source}
use Rattle.he_select.specs.declared.policy.PolicyFault.{PolicyFault}
use Rattle.he_select.specs.declared.policy.Row.{Row}
use Rattle.he_select.specs.HostFaults.{host_fault}
use Rattle.he_select.specs.Hosts.{IsHost, HostLists}
use Rattle.he_select.specs.Standard.{standard_rows}
use Rattle.he_select.specs.TableFaults.{table_fault}
use Rattle.he_select.specs.Tables.{IsAdmitted}
use Rattle.he_select.proofs.Admitted.{admitted_from}
use Rattle.he_select.proofs.Hosted.{host_from as is_host}
use Rattle.he_select.proofs.Standards.{standard_admits}
use Rattle.he_reading.specs.declared.draft.GivenSettings.{GivenSettings}
use Rattle.he_reading.specs.declared.draft.LastGroup.{LastGroup}
use Rattle.he_words.specs.declared.fault.TextKind.{TextKind}
use Rattle.he_words.specs.declared.fault.TextKind.TheVariants as kinds
use Rattle.he_words.specs.declared.limits.TheConstants.{MAX_LINE}
use Rattle.he_words.specs.declared.words.Version.{Version}
use Rattle.he_words.specs.declared.words.Word.{Word}
use Rattle.he_words.specs.declared.words.Word.TheVariants as words
use Rattle.he_reading.specs.Forms.{◌>>=◌, version_word, answer_in, round_trip_in, used_in, connect_in, pause_in, end_in}
use Rattle.he_reading.specs.Parts.{tokens_of}
use Rattle.he_reading.specs.Reading.{built, admit, HeadGiven, no_head, told_by, ranged, floored, settings_from, policy_from, host_from, race_begun, take_answer, take_told, take_line, at_line, ended_by, wholeness, read_body, head_of, take_head, settle, read_head, read_lines, group_at_start}
use Rattle.he_words.specs.Kinds.{table_kind, host_kind}
use Rattle.he_words.specs.Words.{header_in, is_end}
use Rattle.he_reading.proofs.PartLaws.{Lacks}
use Rattle.he_reading.proofs.Results.{bind_ok, not_stopped}

-- what the builder makes of a race is one
was_ok : (made : Result Race BuildFault) (race : Race) → built made ≡ Ok race → made ≡ Ok race
was_ok (Ok x) race h = cc
was_ok (Err fault) race h = cc

answer_checks : (b1 b2 b3 b4 b5 : Bool) (made race : Race)
    → cond b1 (Err faults.Answered) (cond b2 (Err faults.Range) (cond b3 (Err faults.TooMany) (cond (not b4) (Err faults.Stranger) (cond (not b5) (Err faults.Repeated) (Ok made))))) ≡ Ok race
    → (b1 ≡ false) × (b2 ≡ false) × (b3 ≡ false) × (b4 ≡ true) × (b5 ≡ true) × (made ≡ race)
answer_checks true b2 b3 b4 b5 made race h = cc
answer_checks false true b3 b4 b5 made race h = cc
answer_checks false false true b4 b5 made race h = cc
answer_checks false false false false b5 made race h = cc
answer_checks false false false true false made race h = cc
answer_checks false false false true true made race h = (refl, refl, refl, refl, refl, cc)

answer_fits : (family : Family) (reply : Reply) (race new : Race) → IsRace race → add_answer family reply.tick reply.addresses race ≡ Ok new → IsRace new
answer_fits family reply race new fits h =
    let checks = answer_checks (is_some (reply_of race family)) (ltb MAX_TICK reply.tick) (ltb MAX_ADDRESSES (length reply.addresses)) (are_of family reply.addresses) (are_distinct reply.addresses) (with_answer race family reply) new h in
    subst IsRace checks.5 (IsRace-with_answer race family reply.tick reply.addresses fits checks.0 checks.1 checks.2 checks.3 checks.4)

outcome_checks : (b1 b2 b3 : Bool) (made race : Race)
    → cond (not b1) (Err faults.Range) (cond (not b2) (Err faults.Stranger) (cond b3 (Err faults.Repeated) (Ok made))) ≡ Ok race
    → (b1 ≡ true) × (b2 ≡ true) × (b3 ≡ false) × (made ≡ race)
outcome_checks false b2 b3 made race h = cc
outcome_checks true false b3 made race h = cc
outcome_checks true true true made race h = cc
outcome_checks true true false made race h = (refl, refl, refl, cc)

outcome_fits : (ip : Ip) (outcome : Outcome) (race new : Race) → IsRace race → add_outcome ip outcome race ≡ Ok new → IsRace new
outcome_fits ip outcome race new fits h =
    let checks = outcome_checks (is_duration (duration_of outcome)) (is_in_answer race ip) (has_outcome ip race.outcomes) (with_outcome race ip outcome) new h in
    subst IsRace checks.3 (IsRace-with_outcome race ip outcome fits checks.0 checks.1 checks.2)

rtt_fits : (ip : Ip) (rtt : ℕ) (race new : Race) → IsRace race → add_rtt ip rtt race ≡ Ok new → IsRace new
rtt_fits ip rtt race new fits h =
    let checks = outcome_checks (is_duration rtt) (is_in_answer race ip) (is_told ip race.history.rtts) (with_rtt race ip rtt) new h in
    subst IsRace checks.3 (IsRace-with_rtt race ip rtt fits checks.0 checks.1 checks.2)

used_checks : (b1 b2 : Bool) (made race : Race) → cond (not b1) (Err faults.Stranger) (cond b2 (Err faults.Repeated) (Ok made)) ≡ Ok race → (b1 ≡ true) × (b2 ≡ false) × (made ≡ race)
used_checks false b2 made race h = cc
used_checks true true made race h = cc
used_checks true false made race h = (refl, refl, cc)

used_fits : (ip : Ip) (race new : Race) → IsRace race → add_used ip race ≡ Ok new → IsRace new
used_fits ip race new fits h =
    let checks = used_checks (is_in_answer race ip) (has_ip ip race.history.used) (with_used race ip) new h in
    subst IsRace checks.2 (IsRace-with_used race ip fits checks.0 checks.1)

pause_checks : (b few : Bool) (made race : Race) → cond (not b) (Err faults.Range) (cond few (Err faults.TooMany) (Ok made)) ≡ Ok race → (b ≡ true) × (few ≡ false) × (made ≡ race)
pause_checks false few made race h = cc
pause_checks true true made race h = cc
pause_checks true false made race h = (refl, refl, cc)

pause_fits : (from to : ℕ) (race new : Race) → IsRace race → add_pause from to race ≡ Ok new → IsRace new
pause_fits from to race new fits h =
    let checks = pause_checks (leb (last_end race.pauses) from && ltb from to && leb to MAX_PAUSE_END) (leb MAX_PAUSES (length race.pauses)) (with_pause race from to) new h in
    let most = and_parts (leb (last_end race.pauses) from && ltb from to) (leb to MAX_PAUSE_END) checks.0 in
    let two = and_parts (leb (last_end race.pauses) from) (ltb from to) most.0 in
    subst IsRace checks.2
    (IsRace-with_pause race from to fits (leb-true (last_end race.pauses) from two.0) (ltb-true from to two.1) (leb-true to MAX_PAUSE_END most.1) (leb-false MAX_PAUSES (length race.pauses) checks.1))

reply_fits : (family : Family) (tokens : List (List ℕ)) (race new : Race) → IsRace race → take_answer family tokens race ≡ Ok new → IsRace new
unfolding take_answer
reply_fits family tokens race new fits h =
    let read = bind_ok (answer_in family tokens) (λ reply. built (add_answer family reply.tick reply.addresses race)) new h in
    answer_fits family read.0 race new fits (was_ok (add_answer family read.0.tick read.0.addresses race) new read.2)

told_fits : (word : Word) (tokens : List (List ℕ)) (race new : Race) → IsRace race → take_told word tokens race ≡ Ok new → IsRace new
unfolding take_told
told_fits words.Aaaa tokens race new fits h = reply_fits families.V6 tokens race new fits h
told_fits words.A tokens race new fits h = reply_fits families.V4 tokens race new fits h
told_fits words.Rtt tokens race new fits h =
    let read = bind_ok (round_trip_in (is_in_answer race) tokens) (λ told. built (add_rtt told.0 told.1 race)) new h in
    rtt_fits read.0.0 read.0.1 race new fits (was_ok (add_rtt read.0.0 read.0.1 race) new read.2)
told_fits words.Used tokens race new fits h =
    let read = bind_ok (used_in (is_in_answer race) tokens) (λ ip. built (add_used ip race)) new h in
    used_fits read.0 race new fits (was_ok (add_used read.0 race) new read.2)
told_fits words.Connect tokens race new fits h =
    let read = bind_ok (connect_in (is_in_answer race) tokens) (λ told. built (add_outcome told.0 told.1 race)) new h in
    outcome_fits read.0.0 read.0.1 race new fits (was_ok (add_outcome read.0.0 read.0.1 race) new read.2)
told_fits words.Pause tokens race new fits h =
    let read = bind_ok (pause_in tokens) (λ pause. built (add_pause pause.0 pause.1 race)) new h in
    pause_fits read.0.0 read.0.1 race new fits (was_ok (add_pause read.0.0 read.0.1 race) new read.2)
told_fits words.End tokens race new fits h =
    let read = bind_ok (end_in tokens) (λ _. Ok race) new h in
    let same : race ≡ new = cc (read.2) in
    subst IsRace same fits
told_fits words.Set tokens race new fits h = cc
told_fits words.Policy tokens race new fits h = cc
told_fits words.Source tokens race new fits h = cc
told_fits words.Route tokens race new fits h = cc

line_fits : (v : Version) → (tokens : List (List ℕ)) (so_far : LastGroup) (race : Race) (next : Word × LastGroup × Race) → IsRace race → take_line v tokens so_far race ≡ Ok next → IsRace next.2
unfolding take_line
line_fits v tokens so_far race next fits h =
    let word = bind_ok (version_word v tokens) (λ parts. admit parts.0 so_far >>= λ next. take_told parts.0 parts.1 race >>= λ told. Ok (parts.0, next, told)) next h in
    let placed = bind_ok (admit word.0.0 so_far) (λ next. take_told word.0.0 word.0.1 race >>= λ told. Ok (word.0.0, next, told)) next word.2 in
    let told = bind_ok (take_told word.0.0 word.0.1 race) (λ told. Ok (word.0.0, placed.0, told)) next placed.2 in
    let same : (word.0.0, placed.0, told.0) ≡ next = cc (told.2) in
    let P : Word × LastGroup × Race → Type 0 = λ x. IsRace x.2 in
    subst P same (told_fits word.0.0 word.0.1 race told.0 fits told.1)

-- the race in which nothing happens yet is one
setting_checks : (b1 b2 b3 b4 b5 b6 b7 : Bool) (made settings : SettingValues)
    → ranged (cond b1 (Err ranges.Resolution) (cond (b2 || b3) (Err ranges.Attempt) (cond (b4 || b5) (Err ranges.Count) (cond (b6 || b7) (Err ranges.Limit) (Ok made))))) ≡ Ok settings
    → (b1 ≡ false) × (b2 ≡ false) × (b3 ≡ false) × (b4 ≡ false) × (b5 ≡ false) × (b6 ≡ false) × (b7 ≡ false) × (made ≡ settings)
setting_checks true b2 b3 b4 b5 b6 b7 made settings h = cc
setting_checks false true b3 b4 b5 b6 b7 made settings h = cc
setting_checks false false true b4 b5 b6 b7 made settings h = cc
setting_checks false false false true b5 b6 b7 made settings h = cc
setting_checks false false false false true b6 b7 made settings h = cc
setting_checks false false false false false true b7 made settings h = cc
setting_checks false false false false false false true made settings h = cc
setting_checks false false false false false false false made settings h = (refl, refl, refl, refl, refl, refl, refl, cc)

settings_fit : (r a c l : ℕ) (settings : SettingValues) → ranged (settings_of r a c l) ≡ Ok settings → IsSettings settings
settings_fit r a c l settings h =
    let made : SettingValues = record { resolution = r; attempt = a; count = c; limit = l; floor = None } in
    let checks = setting_checks (ltb MAX_RESOLUTION r) (ltb a MIN_ATTEMPT) (ltb MAX_ATTEMPT a) (ltb c MIN_COUNT) (ltb MAX_COUNT c) (ltb l MIN_LIMIT) (ltb MAX_LIMIT l) made settings h in
    subst IsSettings checks.7 (record {
      resolution = ltb-false MAX_RESOLUTION r checks.0;
      attempt_least = ltb-false a MIN_ATTEMPT checks.1;
      attempt_most = ltb-false MAX_ATTEMPT a checks.2;
      count_least = ltb-false c MIN_COUNT checks.3;
      count_most = ltb-false MAX_COUNT c checks.4;
      limit_least = ltb-false l MIN_LIMIT checks.5;
      limit_most = ltb-false MAX_LIMIT l checks.6;
      floor = tt;
    })

floor_checks : (b1 b2 : Bool) (made settings : SettingValues) → ranged (cond (b1 || b2) (Err ranges.Floor) (Ok made)) ≡ Ok settings → (b1 ≡ false) × (b2 ≡ false) × (made ≡ settings)
floor_checks true b2 made settings h = cc
floor_checks false true made settings h = cc
floor_checks false false made settings h = (refl, refl, cc)

floor_fits : (floor : Option ℕ) (settings new : SettingValues) → IsSettings settings → floored floor settings ≡ Ok new → IsSettings new
floor_fits None settings new fits h = let same : settings ≡ new = cc (h) in subst IsSettings same fits
floor_fits (Some floor) settings new fits h =
    let checks = floor_checks (ltb floor MIN_FLOOR) (ltb settings.attempt floor) (record settings { floor = Some floor }) new h in
    subst IsSettings checks.2 (record {
      resolution = fits.resolution;
      attempt_least = fits.attempt_least;
      attempt_most = fits.attempt_most;
      count_least = fits.count_least;
      count_most = fits.count_most;
      limit_least = fits.limit_least;
      limit_most = fits.limit_most;
      floor = (ltb-false floor MIN_FLOOR checks.0, ltb-false settings.attempt floor checks.1);
    })

given_fit : (given : GivenSettings) (settings : SettingValues) → settings_from given ≡ Ok settings → IsSettings settings
unfolding settings_from
given_fit given settings h =
    let r : ℕ = unwrap_or given.resolution DEFAULT_RESOLUTION in
    let a : ℕ = unwrap_or given.attempt DEFAULT_ATTEMPT in
    let c : ℕ = unwrap_or given.count DEFAULT_COUNT in
    let l : ℕ = unwrap_or given.limit DEFAULT_LIMIT in
    let four = bind_ok (ranged (settings_of r a c l)) (floored given.floor) settings h in
    floor_fits given.floor four.0 settings (settings_fit r a c l four.0 four.1) four.2

policy_fits : (rows policy : List Row) → policy_from rows ≡ Ok policy → IsAdmitted policy
unfolding policy_from
policy_fits [] policy h = let same : standard_rows ≡ policy = cc (h) in standard_admits policy (sym same)
policy_fits (row ∷ rows) policy h = by_fault (table_fault (row ∷ rows)) refl h
  where
    by_fault : (fault : Option PolicyFault) → table_fault (row ∷ rows) ≡ fault → told_by table_kind (option_map_or Err fault (Ok (row ∷ rows))) ≡ Ok policy → IsAdmitted policy
    by_fault None e h =
        let same : row ∷ rows ≡ policy = cc (h) in
        let fits : IsAdmitted (row ∷ rows) = admitted_from (row ∷ rows) (ap is_none e) in
        let P : List Row → Type 0 = IsAdmitted in
        subst P same fits
    by_fault (Some fault) e h = cc

host_fits : (sources : List Source) (routes : List Route) (host : HostLists) → host_from sources routes ≡ Ok host → IsHost host
unfolding host_from
host_fits sources routes host h = by_fault (host_fault sources routes) refl h
  where
    by_fault : (fault : Option HostFault) → host_fault sources routes ≡ fault → told_by host_kind (option_map_or Err fault (Ok (record { sources = sources; routes = routes }))) ≡ Ok host → IsHost host
    by_fault None e h =
        let same : record { sources = sources; routes = routes } ≡ host = cc (h) in
        let P : HostLists → Type 0 = IsHost in
        subst P same (is_host (record { sources = sources; routes = routes }) (ap is_none e))
    by_fault (Some fault) e h = cc

start_fits : (head : HeadGiven) (race : Race) → race_begun head ≡ Ok race → IsRace race
unfolding race_begun
start_fits head race h =
    let settings = bind_ok (settings_from head.settings) (λ settings. policy_from head.rows >>= λ policy. host_from head.sources head.routes >>= λ host. Ok (empty_race settings policy host)) race h in
    let policy = bind_ok (policy_from head.rows) (λ policy. host_from head.sources head.routes >>= λ host. Ok (empty_race settings.0 policy host)) race settings.2 in
    let host = bind_ok (host_from head.sources head.routes) (λ host. Ok (empty_race settings.0 policy.0 host)) race policy.2 in
    let empty : Race = empty_race settings.0 policy.0 host.0 in
    let same : empty ≡ race = cc (host.2) in
    subst IsRace {x = empty} same (record {
      settings = given_fit head.settings settings.0 settings.1;
      policy = policy_fits head.rows policy.0 policy.1;
      host = host_fits head.sources head.routes host.0 host.1;
      aaaa = refl;
      a = refl;
      rtts = refl;
      rtts_once = refl;
      used = refl;
      used_once = refl;
      outcomes = refl;
      once = refl;
      pauses = refl;
      few = omega arith;
    })

-- what is read of lines: a race, and lines after it
pub record IsReading (lines : List (List ℕ)) (x : Race × List (List ℕ)) : Type 0 where
  pub fits : IsRace x.0
  pub some : 0 < length x.1
  pub lack : AllByRecursion (Lacks 10) lines → AllByRecursion (Lacks 10) x.1

later : (line : List ℕ) (lines : List (List ℕ)) (x : Race × List (List ℕ)) → IsReading lines x → IsReading (line ∷ lines) x
later line lines x is = record { fits = is.fits; some = is.some; lack = λ lack. is.lack lack.1 }

line_ok : {B : Type 0} (n : ℕ) (r : Result B TextKind) (x : B) → at_line n r ≡ Ok x → r ≡ Ok x
line_ok n (Ok y) x h = cc
line_ok n (Err kind) x h = cc

ended_some : (after : List (List ℕ)) → ended_by after ≡ Ok tt → 0 < length after
ended_some [] h = cc
ended_some (line ∷ after) h = omega arith

whole_some : (line : List ℕ) (after : List (List ℕ)) → wholeness (line ∷ after) ≡ Ok tt → 0 < length after
unfolding wholeness
whole_some line after h = ended_some after (not_stopped (ltb MAX_LINE (length line)) (ended_by after) kinds.TooMany tt h).1

body_reads : (v : Version) → (n : ℕ) (so_far : LastGroup) (race : Race) (lines : List (List ℕ)) (x : Race × List (List ℕ)) → IsRace race → read_body v n so_far race lines ≡ Ok x → IsReading lines x
unfolding read_body
body_reads v n so_far race [] x fits h = cc
body_reads v n so_far race (line ∷ after) x fits h =
    let whole = bind_ok (at_line n (wholeness (line ∷ after))) (λ _. at_line n (take_line v (tokens_of line) so_far race) >>= λ next. cond (is_end next.0) (Ok (next.2, after)) (read_body v (n + 1) next.1 next.2 after)) x h in
    let taken = bind_ok (at_line n (take_line v (tokens_of line) so_far race)) (λ next. cond (is_end next.0) (Ok (next.2, after)) (read_body v (n + 1) next.1 next.2 after)) x whole.2 in
    let new = line_fits v (tokens_of line) so_far race taken.0 fits (line_ok n (take_line v (tokens_of line) so_far race) taken.0 taken.1) in
    by_end (is_end taken.0.0) taken.0 new (whole_some line after (line_ok n (wholeness (line ∷ after)) tt whole.1)) taken.2
    (λ more. later line after x (body_reads v (n + 1) taken.0.1 taken.0.2 after x new more))
  where
    by_end : (b : Bool) (next : Word × LastGroup × Race) → IsRace next.2 → 0 < length after → cond b (Ok (next.2, after)) (read_body v (n + 1) next.1 next.2 after) ≡ Ok x
        → (read_body v (n + 1) next.1 next.2 after ≡ Ok x → IsReading (line ∷ after) x) → IsReading (line ∷ after) x
    by_end true next new some e more =
        let same : (next.2, after) ≡ x = cc (e) in
        let P : Race × List (List ℕ) → Type 0 = IsReading (line ∷ after) in
        subst P same (record { fits = new; some = some; lack = λ lack. lack.1 })
    by_end false next new some e more = more e

head_reads : (v : Version) → (n : ℕ) (so_far : LastGroup) (head : HeadGiven) (lines : List (List ℕ)) (x : Race × List (List ℕ)) → read_head v n so_far head lines ≡ Ok x → IsReading lines x
unfolding read_head settle
head_reads v n so_far head [] x h = cc
head_reads v n so_far head (line ∷ after) x h =
    let whole = bind_ok (at_line n (wholeness (line ∷ after))) (λ _. step (head_of v (tokens_of line))) x h in
    by_head (head_of v (tokens_of line)) whole.2 (λ next more. later line after x (head_reads v (n + 1) next.0 next.1 after x more))
  where
    step : Option (Word × List (List ℕ)) → Result (Race × List (List ℕ)) (ℕ × TextKind)
    step None = at_line n (race_begun head) >>= λ race. read_body v n so_far race (line ∷ after)
    step (Some parts) = at_line n (take_head after parts so_far head) >>= λ next. read_head v (n + 1) next.0 next.1 after

    by_head : (parts : Option (Word × List (List ℕ))) → step parts ≡ Ok x → ((next : LastGroup × HeadGiven) → read_head v (n + 1) next.0 next.1 after ≡ Ok x → IsReading (line ∷ after) x) → IsReading (line ∷ after) x
    by_head None e more =
        let race = bind_ok (at_line n (race_begun head)) (λ race. read_body v n so_far race (line ∷ after)) x e in
        body_reads v n so_far race.0 (line ∷ after) x (start_fits head race.0 (line_ok n (race_begun head) race.0 race.1)) race.2
    by_head (Some parts) e more =
        let next = bind_ok (at_line n (take_head after parts so_far head)) (λ next. read_head v (n + 1) next.0 next.1 after) x e in
        more next.0 next.2

pub lines_read : (lines : List (List ℕ)) (x : Race × List (List ℕ)) → read_lines lines ≡ Ok x → IsReading lines x
unfolding read_lines
lines_read [] x h = cc
lines_read (line ∷ after) x h =
    let whole = bind_ok (at_line 1 (wholeness (line ∷ after))) (λ _. at_line 1 (header_in line) >>= λ version. read_head version 2 group_at_start no_head after) x h in
    let version = bind_ok (at_line 1 (header_in line)) (λ version. read_head version 2 group_at_start no_head after) x whole.2 in
    later line after x (head_reads version.0 2 group_at_start no_head after x version.2)

-- What the lines before gave is told by how many there are of each word; and what a line says, once its addresses are
-- known.
use Rattle.std.proofs.Common.{◌≡◌, ℕ, ◌+◌, ◌≤◌, ◌==◌, Bool, true, false, cond, leb, List, [], ◌∷◌, ◌++◌, length, Option, Some, None, Result, Ok, Err, refl, sym, ◌∙◌, ap, subst, arith}
use Rattle.std.specs.Option.{ok_or}
use Rattle.std.specs.List.{filter_map, cons_option}
use Rattle.std.specs.Result.{result_ok}
use Rattle.std.proofs.lemmas.Bool.{eq-eqb, leb-false}
use Rattle.he_addr.specs.declared.ip.Family.TheVariants as families
use Rattle.he_addr.specs.declared.ip.Ip.{Ip}
use Rattle.he_addr.specs.Reading.{ip_in}
use Rattle.he_timeline.specs.declared.limits.TheConstants.{MIN_DURATION, MAX_DURATION, MAX_PAUSES}
use Rattle.he_timeline.specs.declared.outcome.Outcome.{Outcome}
use Rattle.he_timeline.specs.Race.{Reply}
use Rattle.he_select.specs.declared.limits.TheConstants.{SOURCES, ROUTES}
use Rattle.he_select.specs.declared.host.Source.{Source}
use Rattle.he_select.specs.declared.host.Route.{Route}
use Rattle.he_words.specs.declared.fault.TextKind.{TextKind}
use Rattle.he_words.specs.declared.fault.TextKind.TheVariants as kinds
use Rattle.he_words.specs.declared.words.Word.{Word}
use Rattle.he_words.specs.declared.words.Word.TheVariants as words
use Rattle.he_reading.specs.Faults.{test, group_on, lines_with, too_often, anyone, said_before}
use Rattle.he_reading.specs.Forms.{◌>>=◌, number_from, setting_in, row_in, host_source_in, host_route_in, answer_in, known_in, mark_in, round_trip_in, used_in, connect_in, pause_in, end_in, word_of, said_by, said_in}
use Rattle.he_reading.specs.Parts.{tokens_of}
use Rattle.he_reading.specs.Said.{Said, Setting, PolicyRow, HostSource, HostRoute, Answer, RoundTrip, UsedBefore, OutcomeOf, Paused, Ended, source_said, route_said, answer_said, pause_said, at_front, race_of}
use Rattle.he_reading.specs.Text.{group_said}
use Rattle.he_words.specs.Words.{group_of}
use Rattle.he_reading.proofs.FormFacts.{outcome_of}
use Rattle.he_reading.proofs.OrderLaws.{group_is, lines_cons}
use Rattle.he_reading.proofs.Results.{bind_ok, let_through}
use Rattle.he_reading.proofs.SaidLaws.{one_more}
use Rattle.he_reading.proofs.ToldLaws.{HasPlace}

pub said_group : (known : Ip → Bool) (word : Word) (tokens : List (List ℕ)) (s : Said) → said_by known word tokens ≡ Ok s → group_said s ≡ group_of word
unfolding said_by
said_group known words.Set tokens s h =
    let read = bind_ok (setting_in tokens) (λ setting. Ok (Setting setting.0 setting.1)) s h in
    let same : Setting read.0.0 read.0.1 ≡ s = cc (read.2) in ap group_said (sym same)
said_group known words.Policy tokens s h =
    let read = bind_ok (row_in tokens) (λ row. Ok (PolicyRow row)) s h in
    let same : PolicyRow read.0 ≡ s = cc (read.2) in ap group_said (sym same)
said_group known words.Source tokens s h =
    let read = bind_ok (host_source_in tokens) (λ source. Ok (HostSource source)) s h in
    let same : HostSource read.0 ≡ s = cc (read.2) in ap group_said (sym same)
said_group known words.Route tokens s h =
    let read = bind_ok (host_route_in tokens) (λ route. Ok (HostRoute route)) s h in
    let same : HostRoute read.0 ≡ s = cc (read.2) in ap group_said (sym same)
said_group known words.Aaaa tokens s h =
    let read = bind_ok (answer_in families.V6 tokens) (λ reply. Ok (Answer families.V6 reply)) s h in
    let same : Answer families.V6 read.0 ≡ s = cc (read.2) in ap group_said (sym same)
said_group known words.A tokens s h =
    let read = bind_ok (answer_in families.V4 tokens) (λ reply. Ok (Answer families.V4 reply)) s h in
    let same : Answer families.V4 read.0 ≡ s = cc (read.2) in ap group_said (sym same)
said_group known words.Rtt tokens s h =
    let read = bind_ok (round_trip_in known tokens) (λ told. Ok (RoundTrip told.0 told.1)) s h in
    let same : RoundTrip read.0.0 read.0.1 ≡ s = cc (read.2) in ap group_said (sym same)
said_group known words.Used tokens s h =
    let read = bind_ok (used_in known tokens) (λ ip. Ok (UsedBefore ip)) s h in
    let same : UsedBefore read.0 ≡ s = cc (read.2) in ap group_said (sym same)
said_group known words.Connect tokens s h =
    let read = bind_ok (connect_in known tokens) (λ told. Ok (OutcomeOf told.0 told.1)) s h in
    let same : OutcomeOf read.0.0 read.0.1 ≡ s = cc (read.2) in ap group_said (sym same)
said_group known words.Pause tokens s h =
    let read = bind_ok (pause_in tokens) (λ pause. Ok (Paused pause.0 pause.1)) s h in
    let same : Paused read.0.0 read.0.1 ≡ s = cc (read.2) in ap group_said (sym same)
said_group known words.End tokens s h =
    let read = bind_ok (end_in tokens) (λ _. Ok Ended) s h in
    let same : Ended ≡ s = cc (read.2) in ap group_said (sym same)

-- what a line says where addresses are known it says where every one is
known_anyone : (known : Ip → Bool) (token : List ℕ) (ip : Ip) → known_in known token ≡ Ok ip → known_in anyone token ≡ Ok ip
unfolding known_in
known_anyone known token ip h =
    let read = bind_ok (ok_or (ip_in token) kinds.Address) (λ ip. cond (known ip) (Ok ip) (Err kinds.Address)) ip h in
    let fits = let_through (known read.0) (Ok read.0) kinds.Address ip read.2 in
    ap (λ r. r >>= λ ip. cond (anyone ip) (Ok ip) (Err kinds.Address)) read.1 ∙ fits.1

connect_anyone : (known : Ip → Bool) (tokens : List (List ℕ)) (told : Ip × Outcome) → connect_in known tokens ≡ Ok told → connect_in anyone tokens ≡ Ok told
unfolding connect_in
connect_anyone known [] told h = cc
connect_anyone known (a ∷ []) told h = cc
connect_anyone known (a ∷ b ∷ []) told h = cc
connect_anyone known (a ∷ b ∷ c ∷ d ∷ more) told h = cc
connect_anyone known (a ∷ b ∷ c ∷ []) told h =
    let ip = bind_ok (known_in known a) (λ ip. mark_in b >>= λ succeeds. number_from MIN_DURATION MAX_DURATION c >>= λ ticks. Ok (ip, outcome_of succeeds ticks)) told h in
    ap (λ r. r >>= λ ip. mark_in b >>= λ succeeds. number_from MIN_DURATION MAX_DURATION c >>= λ ticks. Ok (ip, outcome_of succeeds ticks)) (known_anyone known a ip.0 ip.1) ∙ ip.2

round_trip_anyone : (known : Ip → Bool) (tokens : List (List ℕ)) (told : Ip × ℕ) → round_trip_in known tokens ≡ Ok told → round_trip_in anyone tokens ≡ Ok told
unfolding round_trip_in
round_trip_anyone known [] told h = cc
round_trip_anyone known (a ∷ []) told h = cc
round_trip_anyone known (a ∷ b ∷ c ∷ more) told h = cc
round_trip_anyone known (a ∷ b ∷ []) told h =
    let ip = bind_ok (known_in known a) (λ ip. number_from MIN_DURATION MAX_DURATION b >>= λ rtt. Ok (ip, rtt)) told h in
    ap (λ r. r >>= λ ip. number_from MIN_DURATION MAX_DURATION b >>= λ rtt. Ok (ip, rtt)) (known_anyone known a ip.0 ip.1) ∙ ip.2

used_anyone : (known : Ip → Bool) (tokens : List (List ℕ)) (ip : Ip) → used_in known tokens ≡ Ok ip → used_in anyone tokens ≡ Ok ip
unfolding used_in
used_anyone known [] ip h = cc
used_anyone known (a ∷ []) ip h = known_anyone known a ip h
used_anyone known (a ∷ b ∷ more) ip h = cc

by_anyone : (known : Ip → Bool) (word : Word) (tokens : List (List ℕ)) (s : Said) → said_by known word tokens ≡ Ok s → said_by anyone word tokens ≡ Ok s
unfolding said_by
by_anyone known words.Set tokens s h = h
by_anyone known words.Policy tokens s h = h
by_anyone known words.Source tokens s h = h
by_anyone known words.Route tokens s h = h
by_anyone known words.Aaaa tokens s h = h
by_anyone known words.A tokens s h = h
by_anyone known words.Rtt tokens s h =
    let read = bind_ok (round_trip_in known tokens) (λ told. Ok (RoundTrip told.0 told.1)) s h in
    ap (λ r. r >>= λ told. Ok (RoundTrip told.0 told.1)) (round_trip_anyone known tokens read.0 read.1) ∙ read.2
by_anyone known words.Used tokens s h =
    let read = bind_ok (used_in known tokens) (λ ip. Ok (UsedBefore ip)) s h in
    ap (λ r. r >>= λ ip. Ok (UsedBefore ip)) (used_anyone known tokens read.0 read.1) ∙ read.2
by_anyone known words.Connect tokens s h =
    let read = bind_ok (connect_in known tokens) (λ told. Ok (OutcomeOf told.0 told.1)) s h in
    ap (λ r. r >>= λ told. Ok (OutcomeOf told.0 told.1)) (connect_anyone known tokens read.0 read.1) ∙ read.2
by_anyone known words.Pause tokens s h = h
by_anyone known words.End tokens s h = h

pub said_line : (known : Ip → Bool) (line : List ℕ) (word : Word) (tokens : List (List ℕ)) (s : Said) → word_of (tokens_of line) ≡ Ok (word, tokens) → said_by known word tokens ≡ Ok s → said_in anyone line ≡ Ok s
said_line known line word tokens s is h = ap (λ w. w >>= λ parts. said_by anyone parts.0 parts.1) is ∙ by_anyone known word tokens s h

-- the line is one more that said something
pub said_more : (known : Ip → Bool) (before : List (List ℕ)) (line : List ℕ) (word : Word) (tokens : List (List ℕ)) (s : Said) → word_of (tokens_of line) ≡ Ok (word, tokens) → said_by known word tokens ≡ Ok s
    → said_before (before ++ line ∷ []) ≡ said_before before ++ s ∷ []
unfolding said_before
said_more known before line word tokens s is h = one_more (λ l. result_ok (said_in anyone l)) before line s (ap result_ok (said_line known line word tokens s is h))

-- a line that said something of a group is of that group
line_group : (line : List ℕ) (s : Said) → result_ok (said_in anyone line) ≡ Some s → group_on line ≡ group_said s
line_group line s h =
    let said : said_in anyone line ≡ Ok s = of_ok (said_in anyone line) h in
    let word = bind_ok (word_of (tokens_of line)) (λ parts. said_by anyone parts.0 parts.1) s said in
    group_is line word.0.0 word.0.1 word.1 ∙ sym (said_group anyone word.0.0 word.0.1 s word.2)
  where
    of_ok : (r : Result Said TextKind) → result_ok r ≡ Some s → r ≡ Ok s
    of_ok (Ok x) e = cc
    of_ok (Err kind) e = cc

-- no more was given than there are lines of the group
given_count : {Y : Type 0} (h : Said → Option Y) (group : ℕ) → ((s : Said) (y : Y) → h s ≡ Some y → group_said s ≡ group) → (lines : List (List ℕ)) → length (filter_map h (said_before lines)) ≤ lines_with group lines
unfolding said_before
given_count h group tells [] = omega arith
given_count {Y = Y} h group tells (line ∷ lines) =
    let P : ℕ → Type 0 = λ n. length (filter_map h (cons_option (result_ok (said_in anyone line)) (said_before lines))) ≤ n in
    subst P (sym (lines_cons group line lines)) (by_line (result_ok (said_in anyone line)) refl (given_count h group tells lines))
  where
    count : ℕ
    count = lines_with group lines

    by_said : (s : Said) (o : Option Y) → h s ≡ o → group_on line ≡ group_said s → length (filter_map h (said_before lines)) ≤ count → length (cons_option o (filter_map h (said_before lines))) ≤ cond (group_on line == group) 1 0 + count
    by_said s None e on rest = omega (arith, rest)
    by_said s (Some y) e on rest = let here : (group_on line == group) ≡ true = eq-eqb (group_on line) group (on ∙ tells s y e) in rw here (omega (arith, rest))

    by_line : (o : Option Said) → result_ok (said_in anyone line) ≡ o → length (filter_map h (said_before lines)) ≤ count → length (filter_map h (cons_option o (said_before lines))) ≤ cond (group_on line == group) 1 0 + count
    by_line None e rest = omega (arith, rest)
    by_line (Some s) e rest = by_said s (h s) refl (line_group line s e) rest

not_failed : (b : Bool) (kind : TextKind) → test b kind ≡ None → b ≡ false
not_failed true kind h = cc
not_failed false kind h = refl

none_given : {A : Type 0} (xs : List A) → length xs ≤ 0 → at_front xs ≡ None
none_given [] h = refl
none_given (x ∷ xs) h = absurd (omega arith)

aaaa_tell : (s : Said) (reply : Reply) → answer_said families.V6 s ≡ Some reply → group_said s ≡ 5
aaaa_tell (Setting name value) reply h = cc
aaaa_tell (PolicyRow row) reply h = cc
aaaa_tell (HostSource source) reply h = cc
aaaa_tell (HostRoute route) reply h = cc
aaaa_tell (Answer families.V6 r) reply h = refl
aaaa_tell (Answer families.V4 r) reply h = cc
aaaa_tell (RoundTrip ip rtt) reply h = cc
aaaa_tell (UsedBefore ip) reply h = cc
aaaa_tell (OutcomeOf ip outcome) reply h = cc
aaaa_tell (Paused from to) reply h = cc
aaaa_tell Ended reply h = cc

a_tell : (s : Said) (reply : Reply) → answer_said families.V4 s ≡ Some reply → group_said s ≡ 6
a_tell (Setting name value) reply h = cc
a_tell (PolicyRow row) reply h = cc
a_tell (HostSource source) reply h = cc
a_tell (HostRoute route) reply h = cc
a_tell (Answer families.V6 r) reply h = cc
a_tell (Answer families.V4 r) reply h = refl
a_tell (RoundTrip ip rtt) reply h = cc
a_tell (UsedBefore ip) reply h = cc
a_tell (OutcomeOf ip outcome) reply h = cc
a_tell (Paused from to) reply h = cc
a_tell Ended reply h = cc

sources_tell : (s : Said) (source : Source) → source_said s ≡ Some source → group_said s ≡ 3
sources_tell (Setting name value) source h = cc
sources_tell (PolicyRow row) source h = cc
sources_tell (HostSource x) source h = refl
sources_tell (HostRoute x) source h = cc
sources_tell (Answer families.V6 r) source h = cc
sources_tell (Answer families.V4 r) source h = cc
sources_tell (RoundTrip ip rtt) source h = cc
sources_tell (UsedBefore ip) source h = cc
sources_tell (OutcomeOf ip outcome) source h = cc
sources_tell (Paused from to) source h = cc
sources_tell Ended source h = cc

routes_tell : (s : Said) (route : Route) → route_said s ≡ Some route → group_said s ≡ 4
routes_tell (Setting name value) route h = cc
routes_tell (PolicyRow row) route h = cc
routes_tell (HostSource x) route h = cc
routes_tell (HostRoute x) route h = refl
routes_tell (Answer families.V6 r) route h = cc
routes_tell (Answer families.V4 r) route h = cc
routes_tell (RoundTrip ip rtt) route h = cc
routes_tell (UsedBefore ip) route h = cc
routes_tell (OutcomeOf ip outcome) route h = cc
routes_tell (Paused from to) route h = cc
routes_tell Ended route h = cc

pauses_tell : (s : Said) (pause : ℕ × ℕ) → pause_said s ≡ Some pause → group_said s ≡ 10
pauses_tell (Setting name value) pause h = cc
pauses_tell (PolicyRow row) pause h = cc
pauses_tell (HostSource source) pause h = cc
pauses_tell (HostRoute route) pause h = cc
pauses_tell (Answer families.V6 r) pause h = cc
pauses_tell (Answer families.V4 r) pause h = cc
pauses_tell (RoundTrip ip rtt) pause h = cc
pauses_tell (UsedBefore ip) pause h = cc
pauses_tell (OutcomeOf ip outcome) pause h = cc
pauses_tell (Paused from to) pause h = refl
pauses_tell Ended pause h = cc

-- where the fifth check passes, there is room for the line
pub has_place : (word : Word) (tokens : List (List ℕ)) (before : List (List ℕ)) → too_often before (Ok (word, tokens)) ≡ None → HasPlace word (said_before before)
unfolding race_of
has_place words.Set tokens before h = tt
has_place words.Policy tokens before h = tt
has_place words.Source tokens before h =
    let few = leb-false SOURCES (lines_with 3 before) (not_failed (leb SOURCES (lines_with 3 before)) kinds.TooMany h) in
    let count = given_count source_said 3 sources_tell before in
    omega arith
has_place words.Route tokens before h =
    let few = leb-false ROUTES (lines_with 4 before) (not_failed (leb ROUTES (lines_with 4 before)) kinds.TooMany h) in
    let count = given_count route_said 4 routes_tell before in
    omega arith
has_place words.Aaaa tokens before h =
    let few = leb-false 1 (lines_with 5 before) (not_failed (leb 1 (lines_with 5 before)) kinds.Repeated h) in
    let count = given_count (answer_said families.V6) 5 aaaa_tell before in
    none_given (filter_map (answer_said families.V6) (said_before before)) (omega arith)
has_place words.A tokens before h =
    let few = leb-false 1 (lines_with 6 before) (not_failed (leb 1 (lines_with 6 before)) kinds.Repeated h) in
    let count = given_count (answer_said families.V4) 6 a_tell before in
    none_given (filter_map (answer_said families.V4) (said_before before)) (omega arith)
has_place words.Rtt tokens before h = tt
has_place words.Used tokens before h = tt
has_place words.Connect tokens before h = tt
has_place words.Pause tokens before h =
    let few = leb-false MAX_PAUSES (lines_with 10 before) (not_failed (leb MAX_PAUSES (lines_with 10 before)) kinds.TooMany h) in
    let count = given_count pause_said 10 pauses_tell before in
    omega arith
has_place words.End tokens before h = tt

-- A line of the last groups is taken as its checks say.
use Rattle.std.proofs.Common.{◌≡◌, ℕ, ◌<◌, ◌≤◌, ◌&&◌, Bool, true, false, cond, leb, ltb, not, List, [], ◌∷◌, ◌++◌, length, Option, Some, None, Result, Ok, Err, refl, sym, ◌∙◌, ap, subst, arith}
use Rattle.std.specs.Prelude.{is_some}
use Rattle.std.proofs.lemmas.Bool.{le-leb, le-ltb, lt-leb, and_from}
use Rattle.he_addr.specs.declared.ip.Family.{Family}
use Rattle.he_addr.specs.declared.ip.Family.TheVariants as families
use Rattle.he_addr.specs.declared.ip.Ip.{Ip}
use Rattle.he_timeline.specs.Building.{add_answer, add_rtt, add_used, add_outcome, add_pause, with_answer, last_end}
use Rattle.he_timeline.specs.declared.builder.BuildFault.{BuildFault}
use Rattle.he_timeline.specs.declared.builder.BuildFault.TheVariants as faults
use Rattle.he_timeline.specs.declared.limits.TheConstants.{MAX_TICK, MIN_DURATION, MAX_DURATION, MAX_PAUSE_END, MAX_PAUSES, MAX_ADDRESSES}
use Rattle.he_timeline.specs.declared.outcome.Outcome.{Outcome}
use Rattle.he_select.specs.declared.limits.TheConstants.{SOURCES, ROUTES}
use Rattle.he_timeline.specs.Race.{Race, Reply, reply_of, has_ip, is_in_answer, is_told, has_outcome}
use Rattle.he_timeline.specs.Timeline.{are_of, are_distinct, is_duration, duration_of}
use Rattle.he_words.specs.declared.fault.TextKind.{TextKind}
use Rattle.he_words.specs.declared.fault.TextKind.TheVariants as kinds
use Rattle.he_words.specs.declared.words.Word.{Word}
use Rattle.he_words.specs.declared.words.Word.TheVariants as words
use Rattle.he_reading.specs.Faults.{first_fault, test, wrong_bounds, repeated, is_next, group_fault, wrong_group, known_to}
use Rattle.he_reading.specs.Forms.{◌>>=◌, answer_in, round_trip_in, used_in, connect_in, pause_in, end_in, said_by}
use Rattle.he_reading.specs.Reading.{built, take_answer, take_told}
use Rattle.he_words.specs.Words.{is_head_word}
use Rattle.he_reading.specs.Said.{Said, Answer, RoundTrip, UsedBefore, OutcomeOf, Paused, Ended, sources_given, routes_given, rtts_given, used_given, outcomes_given, pauses_given, race_of, word_said}
use Rattle.he_reading.proofs.FormFacts.{IsAnswer, IsRoundTrip, IsUsed, IsTold, IsPause, answer_ok, round_trip_ok, used_ok, connect_ok, pause_ok}
use Rattle.he_reading.proofs.SaidLaws.{race_answered, race_timed, race_used, race_told, race_paused, race_ended}

-- a value, unless there is a fault
abbrev pub outcome : {B : Type 0} → Option TextKind → B → Result B TextKind
outcome None x = Ok x
outcome (Some kind) x = Err kind

-- the last three checks, and the race with what was said
abbrev pub judged : List (List ℕ) → List Said → Said → Result Race TextKind
judged after said s = outcome (first_fault (wrong_bounds said s ∷ repeated said s ∷ wrong_group said after s ∷ [])) (race_of (said ++ s ∷ []))

-- the builder's checks that can't fail after the form
admitted : (b1 b2 b3 b4 : Bool) (rest : Result Race BuildFault) → b1 ≡ false → b2 ≡ false → b3 ≡ false → b4 ≡ true
    → built (cond b1 (Err faults.Answered) (cond b2 (Err faults.Range) (cond b3 (Err faults.TooMany) (cond (not b4) (Err faults.Stranger) rest)))) ≡ built rest
admitted true b2 b3 b4 rest h1 h2 h3 h4 = cc
admitted false true b3 b4 rest h1 h2 h3 h4 = cc
admitted false false true b4 rest h1 h2 h3 h4 = cc
admitted false false false false rest h1 h2 h3 h4 = cc
admitted false false false true rest h1 h2 h3 h4 = refl

distinct_judged : (d : Bool) (race other : Race) → race ≡ other → built (cond (not d) (Err faults.Repeated) (Ok race)) ≡ outcome (first_fault (None ∷ test (not d) kinds.Repeated ∷ None ∷ [])) other
distinct_judged true race other same = ap Ok same
distinct_judged false race other same = refl

is_none : {A : Type 0} (o : Option A) → o ≡ None → is_some o ≡ false
is_none o h = ap is_some h

-- a line of the other groups leaves no group open
pub no_group : {B : Type 0} (after : List (List ℕ)) (said : List Said) (s : Said) (other : B) (first : Option TextKind) (again : Option TextKind) → group_fault said s ≡ None
    → outcome (first_fault (first ∷ again ∷ wrong_group said after s ∷ [])) other ≡ outcome (first_fault (first ∷ again ∷ None ∷ [])) other
no_group after said s other first again none = ap (λ o. outcome (first_fault (first ∷ again ∷ o ∷ [])) other) (by_next (is_next (word_said s) after) none)
  where
    by_next : (b : Bool) → group_fault said s ≡ None → cond b None (group_fault said s) ≡ None
    by_next true e = refl
    by_next false e = e

answer_judged : (after : List (List ℕ)) (family : Family) (tokens : List (List ℕ)) (said : List Said) (reply : Reply) → reply_of (race_of said) family ≡ None → IsAnswer family tokens reply
    → built (add_answer family reply.tick reply.addresses (race_of said)) ≡ judged after said (Answer family reply)
answer_judged after family tokens said reply none is =
    let tick : reply.tick ≤ MAX_TICK = is.tick.most in
    let count : length reply.addresses ≤ length is.others = is.addresses.count in
    let few : length is.others ≤ MAX_ADDRESSES = is.few in
    admitted (is_some (reply_of (race_of said) family)) (ltb MAX_TICK reply.tick) (ltb MAX_ADDRESSES (length reply.addresses)) (are_of family reply.addresses)
    (cond (not (are_distinct reply.addresses)) (Err faults.Repeated) (Ok (with_answer (race_of said) family reply)))
    (is_none _ none) (le-ltb MAX_TICK reply.tick tick) (le-ltb MAX_ADDRESSES (length reply.addresses) (omega arith)) is.addresses.of_family
    ∙ distinct_judged (are_distinct reply.addresses) (with_answer (race_of said) family reply) (race_of (said ++ Answer family reply ∷ [])) (sym (race_answered family said reply none))
    ∙ sym (no_group after said (Answer family reply) (race_of (said ++ Answer family reply ∷ [])) None (test (not (are_distinct reply.addresses)) kinds.Repeated) refl)

by_answer : (after : List (List ℕ)) (family : Family) (tokens : List (List ℕ)) (said : List Said) (read : Result Reply TextKind) → reply_of (race_of said) family ≡ None → ((reply : Reply) → read ≡ Ok reply → IsAnswer family tokens reply)
    → (read >>= λ reply. built (add_answer family reply.tick reply.addresses (race_of said))) ≡ ((read >>= λ reply. Ok (Answer family reply)) >>= judged after said)
by_answer after family tokens said (Err kind) none facts = refl
by_answer after family tokens said (Ok reply) none facts = answer_judged after family tokens said reply none (facts reply refl)

pub answer_agrees : (after : List (List ℕ)) (family : Family) (tokens : List (List ℕ)) (said : List Said) → reply_of (race_of said) family ≡ None
    → take_answer family tokens (race_of said) ≡ ((answer_in family tokens >>= λ reply. Ok (Answer family reply)) >>= judged after said)
unfolding take_answer
answer_agrees after family tokens said none = by_answer after family tokens said (answer_in family tokens) none (answer_ok family tokens)

-- outcomes
told_checked : (b1 b2 b3 : Bool) (race other : Race) → b1 ≡ true → b2 ≡ true → race ≡ other
    → built (cond (not b1) (Err faults.Range) (cond (not b2) (Err faults.Stranger) (cond b3 (Err faults.Repeated) (Ok race)))) ≡ outcome (first_fault (None ∷ test b3 kinds.Repeated ∷ None ∷ [])) other
told_checked false b2 b3 race other h1 h2 same = cc
told_checked true false b3 race other h1 h2 same = cc
told_checked true true true race other h1 h2 same = refl
told_checked true true false race other h1 h2 same = ap Ok same

outcomes_of : (said : List Said) → (race_of said).outcomes ≡ outcomes_given said
unfolding race_of
outcomes_of said = refl

pauses_of : (said : List Said) → (race_of said).pauses ≡ pauses_given said
unfolding race_of
pauses_of said = refl

told_judged : (after : List (List ℕ)) (said : List Said) (tokens : List (List ℕ)) (ip : Ip) (o : Outcome) → IsTold (known_to said) tokens ip o
    → built (add_outcome ip o (race_of said)) ≡ judged after said (OutcomeOf ip o)
told_judged after said tokens ip o is =
    let least : MIN_DURATION ≤ duration_of o = is.ticks.least in
    let most : duration_of o ≤ MAX_DURATION = is.ticks.most in
    let lasts : is_duration (duration_of o) ≡ true = and_from _ _ (le-leb MIN_DURATION (duration_of o) least) (le-leb (duration_of o) MAX_DURATION most) in
    told_checked (is_duration (duration_of o)) (is_in_answer (race_of said) ip) (has_outcome ip (race_of said).outcomes) _ (race_of (said ++ OutcomeOf ip o ∷ [])) lasts is.known_is (sym (race_told said ip o))
    ∙ ap (λ os. outcome (first_fault (None ∷ test (has_outcome ip os) kinds.Repeated ∷ None ∷ [])) (race_of (said ++ OutcomeOf ip o ∷ []))) (outcomes_of said)
    ∙ sym (no_group after said (OutcomeOf ip o) (race_of (said ++ OutcomeOf ip o ∷ [])) None (test (has_outcome ip (outcomes_given said)) kinds.Repeated) refl)

by_told : (after : List (List ℕ)) (said : List Said) (tokens : List (List ℕ)) (read : Result (Ip × Outcome) TextKind) → ((told : Ip × Outcome) → read ≡ Ok told → IsTold (known_to said) tokens told.0 told.1)
    → (read >>= λ told. built (add_outcome told.0 told.1 (race_of said))) ≡ ((read >>= λ told. Ok (OutcomeOf told.0 told.1)) >>= judged after said)
by_told after said tokens (Err kind) facts = refl
by_told after said tokens (Ok told) facts = told_judged after said tokens told.0 told.1 (facts told refl)

-- round trip times
rtts_of : (said : List Said) → (race_of said).history.rtts ≡ rtts_given said
unfolding race_of
rtts_of said = refl

used_of : (said : List Said) → (race_of said).history.used ≡ used_given said
unfolding race_of
used_of said = refl

round_trip_judged : (after : List (List ℕ)) (said : List Said) (tokens : List (List ℕ)) (ip : Ip) (rtt : ℕ) → IsRoundTrip (known_to said) tokens ip rtt
    → built (add_rtt ip rtt (race_of said)) ≡ judged after said (RoundTrip ip rtt)
round_trip_judged after said tokens ip rtt is =
    let lasts : is_duration rtt ≡ true = and_from _ _ (le-leb MIN_DURATION rtt is.rtt_is.least) (le-leb rtt MAX_DURATION is.rtt_is.most) in
    told_checked (is_duration rtt) (is_in_answer (race_of said) ip) (is_told ip (race_of said).history.rtts) _ (race_of (said ++ RoundTrip ip rtt ∷ [])) lasts is.known_is (sym (race_timed said ip rtt))
    ∙ ap (λ rs. outcome (first_fault (None ∷ test (is_told ip rs) kinds.Repeated ∷ None ∷ [])) (race_of (said ++ RoundTrip ip rtt ∷ []))) (rtts_of said)
    ∙ sym (no_group after said (RoundTrip ip rtt) (race_of (said ++ RoundTrip ip rtt ∷ [])) None (test (is_told ip (rtts_given said)) kinds.Repeated) refl)

by_round_trip : (after : List (List ℕ)) (said : List Said) (tokens : List (List ℕ)) (read : Result (Ip × ℕ) TextKind) → ((told : Ip × ℕ) → read ≡ Ok told → IsRoundTrip (known_to said) tokens told.0 told.1)
    → (read >>= λ told. built (add_rtt told.0 told.1 (race_of said))) ≡ ((read >>= λ told. Ok (RoundTrip told.0 told.1)) >>= judged after said)
by_round_trip after said tokens (Err kind) facts = refl
by_round_trip after said tokens (Ok told) facts = round_trip_judged after said tokens told.0 told.1 (facts told refl)

-- addresses used before
used_checked : (b2 b3 : Bool) (race other : Race) → b2 ≡ true → race ≡ other
    → built (cond (not b2) (Err faults.Stranger) (cond b3 (Err faults.Repeated) (Ok race))) ≡ outcome (first_fault (None ∷ test b3 kinds.Repeated ∷ None ∷ [])) other
used_checked false b3 race other h2 same = cc
used_checked true true race other h2 same = refl
used_checked true false race other h2 same = ap Ok same

used_judged : (after : List (List ℕ)) (said : List Said) (tokens : List (List ℕ)) (ip : Ip) → IsUsed (known_to said) tokens ip → built (add_used ip (race_of said)) ≡ judged after said (UsedBefore ip)
used_judged after said tokens ip is =
    used_checked (is_in_answer (race_of said) ip) (has_ip ip (race_of said).history.used) _ (race_of (said ++ UsedBefore ip ∷ [])) is.known_is (sym (race_used said ip))
    ∙ ap (λ us. outcome (first_fault (None ∷ test (has_ip ip us) kinds.Repeated ∷ None ∷ [])) (race_of (said ++ UsedBefore ip ∷ []))) (used_of said)
    ∙ sym (no_group after said (UsedBefore ip) (race_of (said ++ UsedBefore ip ∷ [])) None (test (has_ip ip (used_given said)) kinds.Repeated) refl)

by_used : (after : List (List ℕ)) (said : List Said) (tokens : List (List ℕ)) (read : Result Ip TextKind) → ((ip : Ip) → read ≡ Ok ip → IsUsed (known_to said) tokens ip)
    → (read >>= λ ip. built (add_used ip (race_of said))) ≡ ((read >>= λ ip. Ok (UsedBefore ip)) >>= judged after said)
by_used after said tokens (Err kind) facts = refl
by_used after said tokens (Ok ip) facts = used_judged after said tokens ip (facts ip refl)

-- pauses
pause_checked : (b1 b2 b3 few : Bool) (race other : Race) → b3 ≡ true → few ≡ false → race ≡ other
    → built (cond (not ((b1 && b2) && b3)) (Err faults.Range) (cond few (Err faults.TooMany) (Ok race))) ≡ outcome (first_fault (test (not (b1 && b2)) kinds.Range ∷ None ∷ None ∷ [])) other
pause_checked b1 b2 false few race other h3 hf same = cc
pause_checked b1 b2 true true race other h3 hf same = cc
pause_checked true true true false race other h3 hf same = ap Ok same
pause_checked true false true false race other h3 hf same = refl
pause_checked false true true false race other h3 hf same = refl
pause_checked false false true false race other h3 hf same = refl

pause_judged : (after : List (List ℕ)) (said : List Said) (tokens : List (List ℕ)) (from to : ℕ) → length (pauses_given said) < MAX_PAUSES → IsPause tokens from to
    → built (add_pause from to (race_of said)) ≡ judged after said (Paused from to)
pause_judged after said tokens from to few is =
    let ends : to ≤ MAX_PAUSE_END = is.to_is.most in
    let count : length (race_of said).pauses < MAX_PAUSES = (let P : List (ℕ × ℕ) → Type 0 = λ ps. length ps < MAX_PAUSES in subst P (sym (pauses_of said)) few) in
    pause_checked (leb (last_end (race_of said).pauses) from) (ltb from to) (leb to MAX_PAUSE_END) (leb MAX_PAUSES (length (race_of said).pauses)) _ (race_of (said ++ Paused from to ∷ []))
    (le-leb to MAX_PAUSE_END ends) (lt-leb MAX_PAUSES (length (race_of said).pauses) count) (sym (race_paused said from to))
    ∙ ap (λ ps. outcome (first_fault (test (not (leb (last_end ps) from && ltb from to)) kinds.Range ∷ None ∷ None ∷ [])) (race_of (said ++ Paused from to ∷ []))) (pauses_of said)
    ∙ sym (no_group after said (Paused from to) (race_of (said ++ Paused from to ∷ [])) (test (not (leb (last_end (pauses_given said)) from && ltb from to)) kinds.Range) None refl)

by_pause : (after : List (List ℕ)) (said : List Said) (tokens : List (List ℕ)) (read : Result (ℕ × ℕ) TextKind) → length (pauses_given said) < MAX_PAUSES → ((p : ℕ × ℕ) → read ≡ Ok p → IsPause tokens p.0 p.1)
    → (read >>= λ p. built (add_pause p.0 p.1 (race_of said))) ≡ ((read >>= λ p. Ok (Paused p.0 p.1)) >>= judged after said)
by_pause after said tokens (Err kind) few facts = refl
by_pause after said tokens (Ok p) few facts = pause_judged after said tokens p.0 p.1 few (facts p refl)

by_end : (after : List (List ℕ)) (said : List Said) (read : Result (Unit {0}) TextKind) → (read >>= λ _. Ok (race_of said)) ≡ ((read >>= λ _. Ok Ended) >>= judged after said)
by_end after said (Err kind) = refl
by_end after said (Ok done) = ap Ok (sym (race_ended said)) ∙ sym (no_group after said Ended (race_of (said ++ Ended ∷ [])) None None refl)

-- what must hold before a line of the word is taken: its bound on lines
abbrev pub HasPlace : Word → List Said → Type 0
HasPlace words.Source said = length (sources_given said) < SOURCES
HasPlace words.Route said = length (routes_given said) < ROUTES
HasPlace words.Aaaa said = reply_of (race_of said) families.V6 ≡ None
HasPlace words.A said = reply_of (race_of said) families.V4 ≡ None
HasPlace words.Pause said = length (pauses_given said) < MAX_PAUSES
HasPlace word said = Unit {0}

pub told_agrees : (after : List (List ℕ)) (word : Word) (tokens : List (List ℕ)) (said : List Said) → is_head_word word ≡ false → HasPlace word said
    → take_told word tokens (race_of said) ≡ (said_by (known_to said) word tokens >>= judged after said)
unfolding take_told said_by
told_agrees after words.Set tokens said h place = cc
told_agrees after words.Policy tokens said h place = cc
told_agrees after words.Source tokens said h place = cc
told_agrees after words.Route tokens said h place = cc
told_agrees after words.Aaaa tokens said h place = answer_agrees after families.V6 tokens said place
told_agrees after words.A tokens said h place = answer_agrees after families.V4 tokens said place
told_agrees after words.Rtt tokens said h place = by_round_trip after said tokens (round_trip_in (known_to said) tokens) (round_trip_ok (known_to said) tokens)
told_agrees after words.Used tokens said h place = by_used after said tokens (used_in (known_to said) tokens) (used_ok (known_to said) tokens)
told_agrees after words.Connect tokens said h place = by_told after said tokens (connect_in (known_to said) tokens) (connect_ok (known_to said) tokens)
told_agrees after words.Pause tokens said h place = by_pause after said tokens (pause_in tokens) place (pause_ok tokens)
told_agrees after words.End tokens said h place = by_end after said (end_in tokens)

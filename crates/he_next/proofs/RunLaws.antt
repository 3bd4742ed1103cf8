-- Races that are run by what is due: the attempts that are started are those of the transcript.
use Rattle.std.proofs.Common.{ℕ, zero, suc, ◌≡◌, ◌≤◌, ◌<◌, ◌++◌, ◌&&◌, Bool, true, false, List, [], ◌∷◌, length, map, filter, max, take, Option, Some, None, option_map, nat_le, nat_lt, refl, sym, ◌∙◌, ap, subst, arith, inl, inr}
use Rattle.std.specs.List.{list_all, slice_get}
use Rattle.std.proofs.lemmas.List.{append-nil, length-map, map-append}
use Rattle.std.proofs.lemmas.List.Elements.{filter-append}
use Rattle.std.proofs.lemmas.Option.{slice_get-map}
use Rattle.std.proofs.Math.Seq.{take-append_seam}
use Rattle.he_addr.specs.declared.ip.Ip.{Ip}
use Rattle.he_plan.specs.Agreement.{AgreeBelow, FailAlike}
use Rattle.he_plan.specs.Attempts.{AreNextInTurn, IsNext, MayStart}
use Rattle.he_timeline.specs.Seen.{seen}
use Rattle.he_timeline.specs.Building.{with_pause}
use Rattle.he_plan.specs.Continuing.{Follow}
use Rattle.he_plan.specs.Finish.{fate_of}
use Rattle.he_timeline.specs.Race.{Race, Reply}
use Rattle.he_timeline.specs.Timeline.{IsRace}
use Rattle.he_plan.specs.Transcript.{IsTranscript, Report, failures, greatest, is_exhausted, is_failed, is_tried_out, line_of, result_of, stop_of, without_winner}
use Rattle.he_plan.specs.declared.attempts.Attempt.{Attempt}
use Rattle.he_plan.specs.declared.finish.Fate.{Fate}
use Rattle.he_plan.specs.declared.finish.Fate.TheVariants.{Succeeded, Failed, Running, Skipped}
use Rattle.he_plan.specs.declared.transcript.Line.{Line}
use Rattle.he_plan.specs.declared.transcript.Outcome3.{Outcome3}
use Rattle.he_plan.specs.declared.transcript.Outcome3.TheVariants as results
use Rattle.he_plan.proofs.Agreeing.{alike-below, in_turn-below}
use Rattle.he_timeline.proofs.Bools.{and_both, and_left, and_right, le_from, le_test, lt_from, lt_test, above}
use Rattle.he_plan.proofs.Ends.{ends-in_turn}
use Rattle.he_plan.proofs.Finishing.{failure-in_range}
use Rattle.he_plan.proofs.Growing.{pause-below}
use Rattle.he_plan.proofs.InTurn.{in_turn-follow, in_turn-more, in_turn-none}
use Rattle.he_plan.proofs.Lawful.{attempts-prefix}
use Rattle.he_plan.proofs.Stopping.{none_before}
use Rattle.he_turns.specs.Heard.{cleaned, ips_of}
use Rattle.he_turns.proofs.Cleaned.{cleaned-own}
use Rattle.he_turns.proofs.Learnt.{heard-attempts}
use Rattle.he_next.specs.Runs.{AreBelow, AreUpTo, IsOver, IsWritten, Runs, Sleeps, State, attempt_of, event_tick, tick_after, with_started}
use Rattle.he_next.proofs.StepLaws.{lt_past, not_late, starts_by}
use Rattle.he_next.specs.Steps.{action_of, before_tick, due_action, end_action, end_tick}
use Rattle.he_next.specs.declared.step.Action.{Action}
use Rattle.he_next.specs.declared.step.Action.TheVariants.{Start, Wait, Won, Exhausted, Limit}

-- a list all of which passes is kept
all_kept : (stop : ℕ) (xs : List Attempt) → list_all (λ (x : Attempt). nat_lt x.tick stop) xs ≡ true → filter (λ (x : Attempt). nat_lt x.tick stop) xs ≡ xs
all_kept stop [] h = refl
all_kept stop (x ∷ xs) h =
    let is : nat_lt x.tick stop ≡ true = and_left _ _ h in
    rw is (ap (λ (zs : List Attempt). x ∷ zs) (all_kept stop xs (and_right _ _ h)))

below_limit : (race : Race) (done xs : List Attempt) → Follow race done xs → list_all (λ (x : Attempt). nat_lt x.tick race.settings.limit) xs ≡ true
below_limit race done [] f = refl
below_limit race done (x ∷ xs) f = and_both _ _ (lt_test x.tick race.settings.limit f.0.tick.holds.0) (below_limit race (done ++ x ∷ []) xs f.1)

-- attempts below the tick at which the race ends start before its stop
below_stop : (race : Race) (xs attempts : List Attempt) (told : List Fate) (winner : Option (ℕ × ℕ)) → AreNextInTurn race xs
    → list_all (λ (x : Attempt). nat_lt x.tick (end_tick (result_of race attempts told winner))) xs ≡ true
    → list_all (λ (x : Attempt). nat_lt x.tick (stop_of race winner)) xs ≡ true
below_stop race xs attempts told (Some w) f h = h
below_stop race xs attempts told None f h = below_limit race [] xs (in_turn-follow race xs f)

-- the lines of a race begin with those of attempts that are next in turn and start before its end
pub record Begins (race : Race) (report : Report) (xs : List Attempt) (t : IsTranscript race report) : Type 0 where
  pub later : List Attempt
  pub attempts : t.attempts ≡ xs ++ later
  pub lines : report.lines ≡ map (line_of race t.winner) xs ++ map (line_of race t.winner) (filter (λ (x : Attempt). nat_lt x.tick (stop_of race t.winner)) later)

begins : (race : Race) (report : Report) (xs : List Attempt) (t : IsTranscript race report) → AreNextInTurn race xs → AreBelow (end_tick report.result) xs
    → (from : ℕ) → ((s : ℕ) → MayStart race xs s → from ≤ s) → (b : Begins race report xs t) × (list_all (λ (x : Attempt). nat_le from x.tick) b.later ≡ true)
begins race report xs t turn below from late =
    let f = line_of race t.winner in
    let p : Attempt → Bool = λ (x : Attempt). nat_lt x.tick (stop_of race t.winner) in
    let parts = attempts-prefix race from xs t.attempts turn late t.are in
    let later = parts.0 in
    let Below : Outcome3 → Type 0 = λ r. list_all (λ (x : Attempt). nat_lt x.tick (end_tick r)) xs ≡ true in
    let kept : filter p xs ≡ xs = all_kept (stop_of race t.winner) xs (below_stop race xs t.attempts (map (fate_of race) t.attempts) t.winner turn (subst Below t.result below)) in
    let split : filter p t.attempts ≡ xs ++ filter p later = ap (filter p) parts.1 ∙ filter-append p xs later ∙ ap (λ (zs : List Attempt). zs ++ filter p later) kept in
    (record { later = later; attempts = parts.1; lines = t.lines ∙ ap (map f) split ∙ map-append f xs (filter p later) }, parts.2)

-- what stands at the end of the first part of a list
get_seam : {A : Type 0} → (xs ys : List A) → slice_get (xs ++ ys) (length xs) ≡ slice_get ys 0
get_seam [] ys = refl
get_seam (x ∷ xs) ys = get_seam xs ys

line_at : (race : Race) (report : Report) (xs : List Attempt) (t : IsTranscript race report) (b : Begins race report xs t)
    → slice_get report.lines (length xs) ≡ slice_get (map (line_of race t.winner) (filter (λ (x : Attempt). nat_lt x.tick (stop_of race t.winner)) b.later)) 0
line_at race report xs t b =
    let f = line_of race t.winner in
    let ys = map f (filter (λ (x : Attempt). nat_lt x.tick (stop_of race t.winner)) b.later) in
    ap (λ (ls : List Line). slice_get ls (length xs)) b.lines ∙ ap (λ (n : ℕ). slice_get (map f xs ++ ys) n) (sym (length-map xs f)) ∙ get_seam (map f xs) ys

some_line : (x y : Line) → Some x ≡ Some y → x ≡ y
some_line x y h = cc

some_attempt : (x y : Attempt) → Some x ≡ Some y → x ≡ y
some_attempt x y h = cc

nothing_first : (lines : List Line) → slice_get lines 0 ≡ None → lines ≡ []
nothing_first [] h = refl
nothing_first (line ∷ lines) h = cc

attempts_back : (race : Race) (winner : Option (ℕ × ℕ)) (xs : List Attempt) → map attempt_of (map (line_of race winner) xs) ≡ xs
attempts_back race winner [] = refl
attempts_back race winner (x ∷ xs) = ap (λ (zs : List Attempt). x ∷ zs) (attempts_back race winner xs)

-- what starts by a tick starts before a later one
below_after : (m n : ℕ) (xs : List Attempt) → m < n → AreUpTo m xs → AreBelow n xs
below_after m n [] lt h = refl
below_after m n (x ∷ xs) lt h =
    let first : x.tick ≤ m = le_from x.tick m (and_left _ _ h) in
    let further : x.tick < n = omega (arith, first, lt) in
    and_both _ _ (lt_test x.tick n further) (below_after m n xs lt (and_right _ _ h))

-- all start before a tick that is not before the one after the last start
pub below_event : (xs : List Attempt) (tick : ℕ) → tick_after xs ≤ tick → AreBelow tick xs
below_event [] tick le = refl
below_event (x ∷ xs) tick le =
    let first : x.tick < tick = omega (arith, le) in
    let others : tick_after xs ≤ tick = omega (arith, le) in
    and_both _ _ (lt_test x.tick tick first) (below_event xs tick others)

-- and the other way round
after_below : (xs : List Attempt) (tick : ℕ) → AreBelow tick xs → tick_after xs ≤ tick
after_below [] tick h = omega arith
after_below (x ∷ xs) tick h =
    let first : x.tick < tick = lt_from x.tick tick (and_left _ _ h) in
    let others = after_below xs tick (and_right _ _ h) in
    omega (arith, first, others)

-- one more that starts by the tick
up_to_more : (xs : List Attempt) (tick : ℕ) (x : Attempt) → AreUpTo tick xs → x.tick ≤ tick → AreUpTo tick (xs ++ x ∷ [])
up_to_more [] tick x h le = and_both _ _ (le_test x.tick tick le) refl
up_to_more (y ∷ ys) tick x h le = and_both _ _ (and_left _ _ h) (up_to_more ys tick x (and_right _ _ h) le)

-- all that has started after an action starts by the tick, if what the action starts does
up_to_action : (xs : List Attempt) (now : ℕ) (action : Action) → AreUpTo now xs → ((place tick : ℕ) (ip : Ip) → action ≡ Start place tick ip → tick ≤ now)
    → AreUpTo now (with_started xs action)
up_to_action xs now (Start place tick ip) h by = up_to_more xs now (record { place = place; tick = tick; ip = ip }) h (by place tick ip refl)
up_to_action xs now (Wait tick) h by = h
up_to_action xs now (Won place tick) h by = h
up_to_action xs now (Exhausted tick) h by = h
up_to_action xs now (Limit tick) h by = h

pub again_at : (report : Report) (xs : List Attempt) (now : ℕ) → AreUpTo now xs → AreUpTo now (with_started xs (action_of report (length xs) now))
again_at report xs now h = up_to_action xs now (action_of report (length xs) now) h (λ place tick ip is. starts_by report (length xs) now place tick ip is)

pub at_the_clock : (xs : List Attempt) (now : ℕ) → AreBelow now xs → event_tick xs now ≡ now
at_the_clock xs now below = let least = after_below xs now below in omega (arith, least)

pub events_come_after : (xs : List Attempt) (now : ℕ) → AreBelow (event_tick xs now) xs
events_come_after xs now = below_event xs (event_tick xs now) (omega arith)

ended_in_turn : (race : Race) (xs : List Attempt) (result : Outcome3) → AreNextInTurn race xs → AreNextInTurn race (with_started xs (end_action result))
ended_in_turn race xs (results.Won place tick) turn = turn
ended_in_turn race xs (results.Exhausted tick) turn = turn
ended_in_turn race xs (results.Limit tick) turn = turn

-- each failure is at most the greatest
failure_at_most : (told : List Fate) (k finish : ℕ) → slice_get told k ≡ Some (Failed finish) → finish ≤ greatest (failures told)
failure_at_most [] k finish h = cc
failure_at_most (Failed f ∷ told) zero finish h = let same : f ≡ finish = cc in omega (arith, same)
failure_at_most (Failed f ∷ told) (suc k) finish h = let least = failure_at_most told k finish h in omega (arith, least)
failure_at_most (Succeeded f ∷ told) zero finish h = cc
failure_at_most (Succeeded f ∷ told) (suc k) finish h = failure_at_most told k finish h
failure_at_most (Running ∷ told) zero finish h = cc
failure_at_most (Running ∷ told) (suc k) finish h = failure_at_most told k finish h
failure_at_most (Skipped ∷ told) zero finish h = cc
failure_at_most (Skipped ∷ told) (suc k) finish h = failure_at_most told k finish h

-- where all have failed, the one at a place has
one_failed : (told : List Fate) (k : ℕ) (fate : Fate) → list_all is_failed told ≡ true → slice_get told k ≡ Some fate → is_failed fate ≡ true
one_failed [] k fate all h = cc
one_failed (f ∷ told) zero fate all h = let same : f ≡ fate = cc in ap is_failed (sym same) ∙ and_left _ _ all
one_failed (f ∷ told) (suc k) fate all h = one_failed told k fate (and_right _ _ all) h

failed_is : (fate : Fate) → is_failed fate ≡ true → (finish : ℕ) × (fate ≡ Failed finish)
failed_is (Failed finish) h = (finish, refl)
failed_is (Succeeded finish) h = cc
failed_is Running h = cc
failed_is Skipped h = cc

-- an attempt of a race whose attempts have all failed starts before the last failure
before_failure : (race : Race) → IsRace race → (attempts : List Attempt) (k : ℕ) (x : Attempt) → slice_get attempts k ≡ Some x
    → list_all is_failed (map (fate_of race) attempts) ≡ true → x.tick < greatest (failures (map (fate_of race) attempts))
before_failure race is attempts k x at all =
    let told = map (fate_of race) attempts in
    let there : slice_get told k ≡ Some (fate_of race x) = slice_get-map (fate_of race) attempts k ∙ ap (option_map (fate_of race)) at in
    let fails = failed_is (fate_of race x) (one_failed told k (fate_of race x) all there) in
    let later = (failure-in_range race is x fails.0 fails.1).0 in
    let most = failure_at_most told k fails.0 (there ∙ ap Some fails.1) in
    omega (arith, later, most)

last_of_five : (a b c d e : Bool) → (a && b && c && d && e) ≡ true → e ≡ true
last_of_five a b c d true h = refl
last_of_five false b c d false h = cc
last_of_five true false c d false h = cc
last_of_five true true false d false h = cc
last_of_five true true true false false h = cc
last_of_five true true true true false h = cc

-- what starts before the limit, and, where the race is exhausted, before the last failure, starts before the race's
-- end
before_end : (race : Race) (attempts : List Attempt) (told : List Fate) (aaaa a : Reply) (tick : ℕ) → tick < race.settings.limit
    → (list_all is_failed told ≡ true → tick < greatest (failures told)) → tick < end_tick (without_winner race attempts told (Some aaaa) (Some a))
before_end race attempts told aaaa a tick early last = by_test (is_exhausted race attempts told aaaa a) refl
  where
    by_test : (b : Bool) → is_exhausted race attempts told aaaa a ≡ b → tick < end_tick (without_winner race attempts told (Some aaaa) (Some a))
    by_test false not = rw not early
    by_test true all =
        let failed : list_all is_failed told ≡ true = last_of_five (nat_le (seen race aaaa.tick) race.settings.limit) (nat_le (seen race a.tick) race.settings.limit) (is_tried_out attempts aaaa) (is_tried_out attempts a) (list_all is_failed told) all in
        let most : tick < greatest (failures told) = last failed in
        let later : tick < max (seen race aaaa.tick) (max (seen race a.tick) (greatest (failures told))) = omega (arith, most) in
        rw all later

-- an attempt of a race that starts before its stop starts before its end
ends_after : (race : Race) → IsRace race → (attempts : List Attempt) (winner : Option (ℕ × ℕ)) (k : ℕ) (x : Attempt) → slice_get attempts k ≡ Some x
    → x.tick < stop_of race winner → x.tick < end_tick (result_of race attempts (map (fate_of race) attempts) winner)
ends_after race is attempts (Some w) k x at before = before
ends_after race is attempts None k x at before = by_answers race.aaaa race.a
  where
    by_answers : (aaaa a : Option Reply) → x.tick < end_tick (without_winner race attempts (map (fate_of race) attempts) aaaa a)
    by_answers None a = before
    by_answers (Some aaaa) None = before
    by_answers (Some aaaa) (Some a) = before_end race attempts (map (fate_of race) attempts) aaaa a x.tick before (before_failure race is attempts k x at)

-- the line after those of attempts that are next in turn tells of the next one
next_line : (race : Race) (report : Report) (xs : List Attempt) (line : Line) → IsTranscript race report → AreNextInTurn race xs → AreBelow (end_tick report.result) xs
    → slice_get report.lines (length xs) ≡ Some line → IsNext race xs (attempt_of line)
next_line race report xs line t turn below at =
    by_later b0.later refl
  where
    f : Attempt → Line
    f = line_of race t.winner

    p : Attempt → Bool
    p x = nat_lt x.tick (stop_of race t.winner)

    b0 : Begins race report xs t
    b0 = (begins race report xs t turn below 0 (λ s may. omega arith)).0

    by_later : (later : List Attempt) → b0.later ≡ later → IsNext race xs (attempt_of line)
    by_later [] none =
        let gone : slice_get (map f (filter p b0.later)) 0 ≡ None = ap (λ (zs : List Attempt). slice_get (map f (filter p zs)) 0) none in
        let wrong : Some line ≡ None = sym at ∙ line_at race report xs t b0 ∙ gone in cc
    by_later (next ∷ more) some = by_stop (p next) refl
      where
        all : t.attempts ≡ xs ++ next ∷ more
        all = b0.attempts ∙ ap (λ (zs : List Attempt). xs ++ zs) some

        is : IsNext race xs next
        is =
            let there : slice_get t.attempts (length xs) ≡ Some next = ap (λ (zs : List Attempt). slice_get zs (length xs)) all ∙ get_seam xs (next ∷ more) in
            let front : take (length xs) t.attempts ≡ xs = ap (λ (zs : List Attempt). take (length xs) zs) all ∙ take-append_seam xs (next ∷ more) in
            subst (λ (d : List Attempt). IsNext race d next) front (t.are.in_turn (length xs) next there)

        by_stop : (is_before : Bool) → p next ≡ is_before → IsNext race xs (attempt_of line)
        by_stop true before =
            let kept : slice_get (map f (filter p b0.later)) 0 ≡ Some (f next) = ap (λ (zs : List Attempt). slice_get (map f (filter p zs)) 0) some ∙ (rw before refl) in
            let same : f next ≡ line = some_line _ _ (sym kept ∙ sym (line_at race report xs t b0) ∙ at) in
            subst (λ (l : Line). IsNext race xs (attempt_of l)) same is
        by_stop false past =
            let stop = stop_of race t.winner in
            let from : stop ≤ next.tick = lt_past next.tick stop past in
            let far = begins race report xs t turn below stop (λ s may. let least = is.tick.least s may in omega arith) in
            let gone : slice_get (map f (filter p far.0.later)) 0 ≡ None = ap (λ (zs : List Attempt). slice_get (map f zs) 0) (none_before stop far.0.later far.1) in
            let wrong : Some line ≡ None = sym at ∙ line_at race report xs t far.0 ∙ gone in cc

-- what passes stands in the list
filtered_step : (p : Attempt → Bool) (z : Attempt) (zs : List Attempt) (x : Attempt)
    → ((n : ℕ) → slice_get (filter p zs) n ≡ Some x → (p x ≡ true) × (k : ℕ) × (slice_get zs k ≡ Some x))
    → (b : Bool) → p z ≡ b → (n : ℕ) → slice_get (filter p (z ∷ zs)) n ≡ Some x → (p x ≡ true) × (k : ℕ) × (slice_get (z ∷ zs) k ≡ Some x)
filtered_step p z zs x more false out n h =
    let e : slice_get (filter p zs) n ≡ Some x = rw out at h in
    let m = more n e in
    (m.0, suc m.1, m.2)
filtered_step p z zs x more true passes zero h =
    let e : slice_get (z ∷ filter p zs) 0 ≡ Some x = rw passes at h in
    (ap p (sym (some_attempt z x e)) ∙ passes, zero, e)
filtered_step p z zs x more true passes (suc n) h =
    let e : slice_get (z ∷ filter p zs) (suc n) ≡ Some x = rw passes at h in
    let m = more n e in
    (m.0, suc m.1, m.2)

filtered : (p : Attempt → Bool) (zs : List Attempt) (n : ℕ) (x : Attempt) → slice_get (filter p zs) n ≡ Some x → (p x ≡ true) × (k : ℕ) × (slice_get zs k ≡ Some x)
filtered p [] n x h = cc
filtered p (z ∷ zs) n x h = filtered_step p z zs x (λ m e. filtered p zs m x e) (p z) refl n h

-- a line of a transcript starts before the race's end
line_before : (race : Race) (report : Report) → IsRace race → (t : IsTranscript race report) (n : ℕ) (line : Line) → slice_get report.lines n ≡ Some line
    → line.tick < end_tick report.result
line_before race report is t n line at =
    let f = line_of race t.winner in
    let p : Attempt → Bool = λ (x : Attempt). nat_lt x.tick (stop_of race t.winner) in
    let mapped : option_map f (slice_get (filter p t.attempts) n) ≡ Some line = sym (slice_get-map f (filter p t.attempts) n) ∙ ap (λ (ls : List Line). slice_get ls n) (sym t.lines) ∙ at in
    by_line (slice_get (filter p t.attempts) n) refl mapped
  where
    f : Attempt → Line
    f = line_of race t.winner

    p : Attempt → Bool
    p x = nat_lt x.tick (stop_of race t.winner)

    by_line : (found : Option Attempt) → slice_get (filter p t.attempts) n ≡ found → option_map f found ≡ Some line → line.tick < end_tick report.result
    by_line None none h = cc
    by_line (Some x) there h =
        let in_it = filtered p t.attempts n x there in
        let same : f x ≡ line = some_line _ _ h in
        let ends = ends_after race is t.attempts t.winner in_it.1 x in_it.2 (lt_from _ _ in_it.0) in
        let ticks : x.tick ≡ line.tick = ap (λ (l : Line). l.tick) same in
        let result : end_tick report.result ≡ end_tick (result_of race t.attempts (map (fate_of race) t.attempts) t.winner) = ap end_tick t.result in
        omega (arith, ends, ticks, result)

-- where none stands after those of the attempts, the lines are those of the attempts
all_lines : (race : Race) (report : Report) (xs : List Attempt) → IsTranscript race report → AreNextInTurn race xs → AreBelow (end_tick report.result) xs
    → slice_get report.lines (length xs) ≡ None → map attempt_of report.lines ≡ xs
all_lines race report xs t turn below at =
    let f = line_of race t.winner in
    let b = (begins race report xs t turn below 0 (λ s may. omega arith)).0 in
    let rest = map f (filter (λ (x : Attempt). nat_lt x.tick (stop_of race t.winner)) b.later) in
    let none : rest ≡ [] = nothing_first rest (sym (line_at race report xs t b) ∙ at) in
    let whole : report.lines ≡ map f xs = b.lines ∙ ap (λ (ls : List Line). map f xs ++ ls) none ∙ append-nil (map f xs) in
    ap (map attempt_of) whole ∙ attempts_back race t.winner xs

-- where the race is over and the client in time, there is no further line
no_line : (race : Race) (report : Report) (xs : List Attempt) (now : ℕ) → IsRace race → IsTranscript race report → IsOver report xs now → slice_get report.lines (length xs) ≡ None
no_line race report xs now is t over = by_line (slice_get report.lines (length xs)) refl over.in_time
  where
    by_line : (found : Option Line) → slice_get report.lines (length xs) ≡ found → before_tick now found ≡ None → slice_get report.lines (length xs) ≡ None
    by_line None none h = none
    by_line (Some line) there h =
        let early = line_before race report is t (length xs) line there in
        let past = le_from _ _ over.past in
        let late : now ≤ line.tick = not_late line now h in
        absurd (omega (arith, early, past, late))

pub replayed_end : (race : Race) (report : Report) (xs : List Attempt) (now : ℕ) → IsRace race → AreNextInTurn race xs → IsTranscript race report → IsOver report xs now → map attempt_of report.lines ≡ xs
replayed_end race report xs now is turn t over = all_lines race report xs t turn over.ended (no_line race report xs now is t over)

-- a start leaves attempts that are next in turn
started_in_turn : (race : Race) (report : Report) (xs : List Attempt) (now : ℕ) → AreNextInTurn race xs → IsTranscript race report → AreUpTo now xs
    → AreNextInTurn race (with_started xs (action_of report (length xs) now))
started_in_turn race report xs now turn t below = by_end (nat_le (end_tick report.result) now) refl
  where
    by_end : (is_over : Bool) → nat_le (end_tick report.result) now ≡ is_over → AreNextInTurn race (with_started xs (action_of report (length xs) now))
    by_end true over = rw over (ended_in_turn race xs report.result turn)
    by_end false running =
        let later : AreBelow (end_tick report.result) xs = below_after now (end_tick report.result) xs (above _ _ running) below in
        rw running (by_line later (slice_get report.lines (length xs)) refl)
      where
        by_line : AreBelow (end_tick report.result) xs → (found : Option Line) → slice_get report.lines (length xs) ≡ found
            → AreNextInTurn race (with_started xs (due_action report.result now (slice_get report.lines (length xs))))
        by_line later None none = rw none turn
        by_line later (Some line) there = rw there (by_tick (nat_le line.tick now) refl)
          where
            by_tick : (has_come : Bool) → nat_le line.tick now ≡ has_come → AreNextInTurn race (with_started xs (due_action report.result now (Some line)))
            by_tick true come = rw come (in_turn-more race xs (attempt_of line) turn (next_line race report xs line t turn later there))
            by_tick false wait = rw wait turn

-- what is written down leaves the attempts that were started
written_in_turn : (old new : State) → IsRace old.race → IsWritten old new → AreNextInTurn old.race old.attempts → AreNextInTurn new.race old.attempts
written_in_turn old new r written turn = elim written.happened [
  | inl answer ↦ subst (λ (race : Race). AreNextInTurn race old.attempts) (sym answer.told)
      (heard-attempts old.race r answer.family answer.first answer.tick answer.answer (cleaned answer.family (ips_of answer.answer.known))
      (cleaned-own answer.family (ips_of answer.answer.known)) old.attempts answer.late turn)
  | inr more ↦ elim more [
    | inl end ↦ ends-in_turn old.race new.race r written.valid old.attempts end.0 end.1 turn
    | inr sleep ↦ slept_in_turn sleep
  ]
]
  where
    slept_in_turn : Sleeps old new.race → AreNextInTurn new.race old.attempts
    slept_in_turn sleep =
        let race = with_pause old.race sleep.from sleep.to in
        let valid : IsRace race = subst IsRace sleep.told written.valid in
        let agree : AgreeBelow sleep.from old.race race = pause-below old.race sleep.from sleep.to in
        let alike : FailAlike sleep.from old.race race old.attempts = alike-below sleep.from old.race race r valid agree old.attempts (λ k d lt. refl) in
        subst (λ (x : Race). AreNextInTurn x old.attempts) (sym sleep.told) (in_turn-below sleep.from old.race race r valid agree old.attempts alike sleep.late turn)

-- a race within its ranges, whose attempts are next in turn
abbrev IsSound : State → Type 0
IsSound state = IsRace state.race × AreNextInTurn state.race state.attempts

pub runs_in_turn : (first : Race) (earlier : List State) (state : State) → IsRace first → Runs first earlier state → IsSound state
runs_in_turn first [] state r runs = subst IsSound (sym runs) (r, in_turn-none first)
runs_in_turn first (old ∷ earlier) state r runs =
    let before = runs_in_turn first earlier old r runs.0 in
    elim runs.1 [
      | inl written ↦ (
        written.valid,
        subst (λ (all : List Attempt). AreNextInTurn state.race all) (sym written.same) (written_in_turn old state before.0 written before.1),
      )
      | inr done ↦ (
        subst IsRace (sym done.same) before.0,
        subst (λ (race : Race). AreNextInTurn race state.attempts) (sym done.same)
            (subst (λ (all : List Attempt). AreNextInTurn old.race all) (sym done.starts)
            (started_in_turn old.race done.report old.attempts done.now before.1 done.transcript done.started)),
      )
    ]

-- How many events of a race are of a kind, by its attempts.
use Rattle.std.proofs.Common.{◌≡◌, ℕ, suc, ◌+◌, ◌++◌, Bool, true, false, cond, ◌&&◌, List, [], ◌∷◌, filter, map, refl, sym, ◌∙◌, ap, arith, inl, inr, nat_le, if◌then◌else◌}
use Rattle.std.specs.Prelude.{Option, None, Some}
use Rattle.std.specs.List.{count_by, flat_map}
use Rattle.std.proofs.Math.Bool.{and-true, and-false}
use Rattle.std.proofs.lemmas.Bool.{cases_Bool}
use Rattle.std.proofs.lemmas.List.Sums.{sum_by-append}
use Rattle.he_addr.specs.declared.ip.Family.{Family}
use Rattle.he_addr.specs.declared.ip.Family.TheVariants as families
use Rattle.he_addr.specs.declared.ip.Ip.{Ip}
use Rattle.he_select.proofs.Counting.{count-permutation}
use Rattle.he_timeline.specs.Race.{Race, Reply}
use Rattle.he_timeline.specs.Seen.{seen}
use Rattle.he_plan.specs.declared.attempts.Attempt.{Attempt}
use Rattle.he_plan.specs.declared.transcript.Line.{Line}
use Rattle.he_plan.specs.declared.transcript.Mark.{Mark}
use Rattle.he_plan.specs.declared.transcript.Mark.TheVariants as marks
use Rattle.he_plan.specs.Transcript.{Report}
use Rattle.he_course.specs.declared.events.Event.{Event}
use Rattle.he_course.specs.declared.events.EventKind.{EventKind}
use Rattle.he_course.specs.declared.events.EventKind.TheVariants.{Paused, Answered, Waits, DelayOver, Failed, Started, Exhausted, Limit, Cancelled}
use Rattle.he_course.specs.declared.events.Start.{Start}
use Rattle.he_course.specs.Causes.{failure_of, later_of}
use Rattle.he_course.specs.Course.{events_in}
use Rattle.he_course.specs.Events.{answer_events, attempt_of, cancelled_by, comes_by, end_event, event_at, events_of, failed_by, is_seen_by, is_waiting, met_events, over_events, pause_events, start_event, start_events, told_events, wait_events}
use Rattle.he_course.proofs.CourseLaws.{course_stands}

-- a test of a kind at a tick, true of what is of an attempt alone; of a start it looks at the attempt alone
pub record IsOfAttempts (p : ℕ → EventKind → Bool) (s : ℕ → ℕ → Ip → Bool) : Type 0 where
  pub paused : (t until : ℕ) → p t (Paused until) ≡ false
  pub answered : (t : ℕ) (family : Family) (n : ℕ) → p t (Answered family n) ≡ false
  pub waits : (t until : ℕ) → p t (Waits until) ≡ false
  pub over : (t : ℕ) → p t DelayOver ≡ false
  pub exhausted : (t : ℕ) → p t Exhausted ≡ false
  pub limit : (t : ℕ) → p t Limit ≡ false
  pub started : (t : ℕ) (start : Start) → p t (Started start) ≡ s t start.place start.ip

abbrev pub on : (ℕ → EventKind → Bool) → Event → Bool
on p event = p event.tick event.kind

pub count_append : {X : Type 0} (p : X → Bool) (xs ys : List X) → count_by p (xs ++ ys) ≡ count_by p xs + count_by p ys
count_append p xs ys = sum_by-append (λ x. cond (p x) 1 0) xs ys

pub count_cons : {X : Type 0} (p : X → Bool) (x : X) (xs : List X) → count_by p (x ∷ xs) ≡ cond (p x) 1 0 + count_by p xs
count_cons p x xs = let all : count_by p (x ∷ xs) ≡ count_by p (x ∷ []) + count_by p xs = count_append p (x ∷ []) xs in omega (arith, all)

pub count_head : {X : Type 0} (p : X → Bool) (x : X) (xs : List X) → p x ≡ true → count_by p (x ∷ xs) ≡ suc (count_by p xs)
count_head p x xs h = let all = count_cons p x xs in let this : cond {A = ℕ} (p x) 1 0 ≡ 1 = ap (λ b. cond {A = ℕ} b 1 0) h in omega (arith, all, this)

pub count_past : {X : Type 0} (p : X → Bool) (x : X) (xs : List X) → p x ≡ false → count_by p (x ∷ xs) ≡ count_by p xs
count_past p x xs h = let all = count_cons p x xs in let this : cond {A = ℕ} (p x) 1 0 ≡ 0 = ap (λ b. cond {A = ℕ} b 1 0) h in omega (arith, all, this)

pub count_filter : {X : Type 0} (p q : X → Bool) (xs : List X) → count_by p (filter q xs) ≡ count_by (λ x. p x && q x) xs
count_filter p q [] = refl
count_filter p q (x ∷ xs) =
    elim (cases_Bool (q x)) [
      | inl kept ↦
          ap (count_by p) (ap (λ b. cond b (x ∷ filter q xs) (filter q xs)) kept) ∙ count_cons p x (filter q xs)
          ∙ ap (λ n. cond (p x) 1 0 + n) (count_filter p q xs)
          ∙ ap (λ b. cond b 1 0 + count_by (λ y. p y && q y) xs) (sym (ap (λ b. p x && b) kept ∙ and-true (p x)))
          ∙ sym (count_cons (λ y. p y && q y) x xs)
      | inr out ↦
          ap (count_by p) (ap (λ b. cond b (x ∷ filter q xs) (filter q xs)) out) ∙ count_filter p q xs
          ∙ sym (count_past (λ y. p y && q y) x xs (ap (λ b. p x && b) out ∙ and-false (p x)))
    ]

pub count_map : {X Y : Type 0} (p : Y → Bool) (f : X → Y) (xs : List X) → count_by p (map f xs) ≡ count_by (λ x. p (f x)) xs
count_map p f [] = refl
count_map p f (x ∷ xs) =
    count_cons p (f x) (map f xs) ∙ ap (λ n. cond (p (f x)) 1 0 + n) (count_map p f xs) ∙ sym (count_cons (λ y. p (f y)) x xs)

pub count_none : {X : Type 0} (p : X → Bool) → ((x : X) → p x ≡ false) → (xs : List X) → count_by p xs ≡ 0
count_none p h [] = refl
count_none p h (x ∷ xs) = count_past p x xs (h x) ∙ count_none p h xs

pauses_none : (p : ℕ → EventKind → Bool) (s : ℕ → ℕ → Ip → Bool) → IsOfAttempts p s → (pauses : List (ℕ × ℕ)) → count_by (on p) (pause_events pauses) ≡ 0
pauses_none p s is [] = refl
pauses_none p s is (pause ∷ more) =
    count_past (on p) (event_at pause.0 (Paused pause.1)) (pause_events more) (is.paused pause.0 pause.1) ∙ pauses_none p s is more

answer_none : (p : ℕ → EventKind → Bool) (s : ℕ → ℕ → Ip → Bool) → IsOfAttempts p s → (race : Race) (family : Family) (reply : Option Reply)
    → count_by (on p) (answer_events race family reply) ≡ 0
answer_none p s is race family None = refl
answer_none p s is race family (Some reply) = count_past (on p) _ [] (is.answered (seen race reply.tick) family _)

over_none : (p : ℕ → EventKind → Bool) (s : ℕ → ℕ → Ip → Bool) → IsOfAttempts p s → (race : Race) (t : ℕ) → count_by (on p) (over_events race t) ≡ 0
over_none p s is race t = by_test (is_seen_by race t race.aaaa)
  where
    by_test : (b : Bool) → count_by (on p) (if b then [] else event_at t DelayOver ∷ []) ≡ 0
    by_test true = refl
    by_test false = count_past (on p) (event_at t DelayOver) [] (is.over t)

wait_none : (p : ℕ → EventKind → Bool) (s : ℕ → ℕ → Ip → Bool) → IsOfAttempts p s → (race : Race) (reply : Option Reply) → count_by (on p) (wait_events race reply) ≡ 0
wait_none p s is race None = refl
wait_none p s is race (Some a) = by_test (is_waiting race a)
  where
    until : ℕ
    until = a.tick + race.settings.resolution

    by_test : (b : Bool) → count_by (on p) (if b then event_at (seen race a.tick) (Waits until) ∷ over_events race (seen race until) else []) ≡ 0
    by_test true =
        count_past (on p) (event_at (seen race a.tick) (Waits until)) (over_events race (seen race until)) (is.waits (seen race a.tick) until)
        ∙ over_none p s is race (seen race until)
    by_test false = refl

met_none : (p : ℕ → EventKind → Bool) (s : ℕ → ℕ → Ip → Bool) → IsOfAttempts p s → (race : Race) → count_by (on p) (met_events race) ≡ 0
met_none p s is race =
    let answers : List Event = answer_events race families.V6 race.aaaa ++ answer_events race families.V4 race.a in
    let pauses : List Event = pause_events race.pauses in
    let waits : List Event = wait_events race race.a in
    let all : count_by (on p) ((pauses ++ answers) ++ waits) ≡ count_by (on p) (pauses ++ answers) + count_by (on p) waits = count_append (on p) (pauses ++ answers) waits in
    let first : count_by (on p) (pauses ++ answers) ≡ count_by (on p) pauses + count_by (on p) answers = count_append (on p) pauses answers in
    let both : count_by (on p) answers ≡ count_by (on p) (answer_events race families.V6 race.aaaa) + count_by (on p) (answer_events race families.V4 race.a) =
    count_append (on p) (answer_events race families.V6 race.aaaa) (answer_events race families.V4 race.a)
    in
    omega (arith, all, first, both, pauses_none p s is race.pauses, answer_none p s is race families.V6 race.aaaa, answer_none p s is race families.V4 race.a, wait_none p s is race race.a)

-- what a test says of the failure, and of the cancellation, of the attempt of a line
abbrev pub fails_as : (ℕ → EventKind → Bool) → ℕ → Mark → Bool
fails_as p place (marks.Failed tick) = p tick (Failed place)
fails_as p place (marks.Won tick) = false
fails_as p place (marks.Cancelled tick) = false

abbrev pub cancelled_as : (ℕ → EventKind → Bool) → ℕ → Mark → Bool
cancelled_as p place (marks.Cancelled tick) = p tick (Cancelled place)
cancelled_as p place (marks.Won tick) = false
cancelled_as p place (marks.Failed tick) = false

fails_count : (p : ℕ → EventKind → Bool) (lines : List Line)
    → count_by (on p) (flat_map (λ (line : Line). failed_by line.place line.mark) lines) ≡ count_by (λ (line : Line). fails_as p line.place line.mark) lines
fails_count p [] = refl
fails_count p (line ∷ more) =
    let all : count_by (on p) (failed_by line.place line.mark ++ rest) ≡ count_by (on p) (failed_by line.place line.mark) + count_by (on p) rest = count_append (on p) (failed_by line.place line.mark) rest in
    let first : count_by (on p) (failed_by line.place line.mark) ≡ cond (fails_as p line.place line.mark) 1 0 = by_mark line.mark in
    let both : count_by test (line ∷ more) ≡ cond (fails_as p line.place line.mark) 1 0 + count_by test more = count_cons test line more in
    omega (arith, all, first, both, fails_count p more)
  where
    test : Line → Bool
    test = λ (l : Line). fails_as p l.place l.mark

    rest : List Event
    rest = flat_map (λ (l : Line). failed_by l.place l.mark) more

    by_mark : (mark : Mark) → count_by (on p) (failed_by line.place mark) ≡ cond (fails_as p line.place mark) 1 0
    by_mark (marks.Failed tick) = let all = count_cons (on p) (event_at tick (Failed line.place)) [] in omega (arith, all)
    by_mark (marks.Won tick) = refl
    by_mark (marks.Cancelled tick) = refl

cancels_count : (p : ℕ → EventKind → Bool) (lines : List Line)
    → count_by (on p) (flat_map (λ (line : Line). cancelled_by line.place line.mark) lines) ≡ count_by (λ (line : Line). cancelled_as p line.place line.mark) lines
cancels_count p [] = refl
cancels_count p (line ∷ more) =
    let all : count_by (on p) (cancelled_by line.place line.mark ++ rest) ≡ count_by (on p) (cancelled_by line.place line.mark) + count_by (on p) rest = count_append (on p) (cancelled_by line.place line.mark) rest in
    let first : count_by (on p) (cancelled_by line.place line.mark) ≡ cond (cancelled_as p line.place line.mark) 1 0 = by_mark line.mark in
    let both : count_by test (line ∷ more) ≡ cond (cancelled_as p line.place line.mark) 1 0 + count_by test more = count_cons test line more in
    omega (arith, all, first, both, cancels_count p more)
  where
    test : Line → Bool
    test = λ (l : Line). cancelled_as p l.place l.mark

    rest : List Event
    rest = flat_map (λ (l : Line). cancelled_by l.place l.mark) more

    by_mark : (mark : Mark) → count_by (on p) (cancelled_by line.place mark) ≡ cond (cancelled_as p line.place mark) 1 0
    by_mark (marks.Cancelled tick) = let all = count_cons (on p) (event_at tick (Cancelled line.place)) [] in omega (arith, all)
    by_mark (marks.Won tick) = refl
    by_mark (marks.Failed tick) = refl

starts_count : (p : ℕ → EventKind → Bool) (s : ℕ → ℕ → Ip → Bool) → IsOfAttempts p s → (race : Race) (last : Option Attempt) (failed : Option ℕ) (lines : List Line)
    → count_by (on p) (start_events race last failed lines) ≡ count_by (λ (line : Line). s line.tick line.place line.ip) lines
starts_count p s is race last failed [] = refl
starts_count p s is race last failed (line ∷ more) =
    let rest : List Event = start_events race (Some (attempt_of line)) (later_of failed (failure_of race (attempt_of line))) more in
    let begin : Event = start_event race last failed (attempt_of line) in
    count_cons (on p) begin rest
    ∙ ap (λ b. cond b 1 0 + count_by (on p) rest) (is.started line.tick _)
    ∙ ap (λ n. cond (s line.tick line.place line.ip) 1 0 + n) (starts_count p s is race (Some (attempt_of line)) (later_of failed (failure_of race (attempt_of line))) more)
    ∙ sym (count_cons (λ (l : Line). s l.tick l.place l.ip) line more)

-- all events of a race that are so, by its lines and its end
pub counted : (p : ℕ → EventKind → Bool) (s : ℕ → ℕ → Ip → Bool) → IsOfAttempts p s → (race : Race) (report : Report)
    → count_by (on p) (events_of race report)
    ≡ (count_by (λ (line : Line). fails_as p line.place line.mark) report.lines + count_by (λ (line : Line). s line.tick line.place line.ip) report.lines)
    + (cond (on p (end_event report.result)) 1 0 + count_by (λ (line : Line). cancelled_as p line.place line.mark) report.lines)
counted p s is race report =
    let fails : List Event = flat_map (λ (line : Line). failed_by line.place line.mark) report.lines in
    let begins : List Event = start_events race None (Some 0) report.lines in
    let cancels : List Event = flat_map (λ (line : Line). cancelled_by line.place line.mark) report.lines in
    let all : count_by (on p) (events_of race report) ≡ count_by (on p) (met_events race) + count_by (on p) (told_events race report) =
    count_append (on p) (met_events race) (told_events race report)
    in
    let told : count_by (on p) (told_events race report) ≡ count_by (on p) (fails ++ begins) + count_by (on p) (end_event report.result ∷ cancels) =
    count_append (on p) (fails ++ begins) (end_event report.result ∷ cancels)
    in
    let last : count_by (on p) (end_event report.result ∷ cancels) ≡ cond (on p (end_event report.result)) 1 0 + count_by (on p) cancels = count_cons (on p) (end_event report.result) cancels in
    let first : count_by (on p) (fails ++ begins) ≡ count_by (on p) fails + count_by (on p) begins = count_append (on p) fails begins in
    omega (arith, all, told, last, first, met_none p s is race, fails_count p report.lines, starts_count p s is race None (Some 0) report.lines, cancels_count p report.lines)

-- the same of those up to the race's end
abbrev pub by_end : ℕ → (ℕ → EventKind → Bool) → ℕ → EventKind → Bool
by_end end p t kind = p t kind && comes_by end t kind

pub by_end-is : (p : ℕ → EventKind → Bool) (s : ℕ → ℕ → Ip → Bool) → IsOfAttempts p s → (end : ℕ) → IsOfAttempts (by_end end p) (λ t place ip. s t place ip && nat_le t end)
by_end-is p s is end =
    record {
      paused = λ t until. ap (λ b. b && comes_by end t (Paused until)) (is.paused t until);
      answered = λ t family n. ap (λ b. b && comes_by end t (Answered family n)) (is.answered t family n);
      waits = λ t until. ap (λ b. b && comes_by end t (Waits until)) (is.waits t until);
      over = λ t. ap (λ b. b && comes_by end t DelayOver) (is.over t);
      exhausted = λ t. ap (λ b. b && comes_by end t Exhausted) (is.exhausted t);
      limit = λ t. ap (λ b. b && comes_by end t Limit) (is.limit t);
      started = λ t start. ap (λ b. b && nat_le t end) (is.started t start);
    }

pub in_course : (p : ℕ → EventKind → Bool) (race : Race) (report : Report)
    → count_by (on p) (events_in race report) ≡ count_by (on (by_end (end_event report.result).tick p)) (events_of race report)
in_course p race report =
    count-permutation (on p) _ _ (course_stands race report).0
    ∙ count_filter (on p) (λ (event : Event). comes_by (end_event report.result).tick event.tick event.kind) (events_of race report)

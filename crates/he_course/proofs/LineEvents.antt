-- Each attempt of a transcript has one start and one end among the events of its course.
use Rattle.std.proofs.Common.{◌≡◌, ℕ, zero, suc, ◌+◌, ◌<◌, ◌≤◌, ◌==◌, Bool, true, false, cond, ◌&&◌, List, [], ◌∷◌, filter, map, refl, sym, ◌∙◌, ap, subst, arith, inl, inr, slice_get, nat_le, nat_lt, if◌then◌else◌}
use Rattle.std.specs.Prelude.{Option, None, Some, nat_eq, max, option_map}
use Rattle.std.specs.List.{count_by, list_all}
use Rattle.std.proofs.Math.Nat.{le-max_left, le-max_right}
use Rattle.std.proofs.lemmas.Bool.{cases_Bool, eqb-true, eq-eqb}
use Rattle.std.proofs.lemmas.Option.{slice_get-map}
use Rattle.he_addr.specs.declared.ip.Ip.{Ip}
use Rattle.he_addr.specs.Ip.{same_ip}
use Rattle.he_timeline.specs.Race.{Race, Reply}
use Rattle.he_timeline.specs.Seen.{seen}
use Rattle.he_timeline.specs.Timeline.{IsRace}
use Rattle.he_timeline.proofs.Bools.{and_both, and_left, and_right, clash, le_from, le_test, lt_from}
use Rattle.he_plan.specs.declared.attempts.Attempt.{Attempt}
use Rattle.he_plan.specs.declared.finish.Fate.{Fate}
use Rattle.he_plan.specs.declared.finish.Fate.TheVariants as fates
use Rattle.he_plan.specs.declared.transcript.Line.{Line}
use Rattle.he_plan.specs.declared.transcript.Mark.{Mark}
use Rattle.he_plan.specs.declared.transcript.Mark.TheVariants as marks
use Rattle.he_plan.specs.declared.transcript.Outcome3.{Outcome3}
use Rattle.he_plan.specs.declared.transcript.Outcome3.TheVariants as results
use Rattle.he_plan.specs.Finish.{IsInTime, fate_of}
use Rattle.he_plan.specs.Transcript.{IsTranscript, Report, failed_mark, failures, greatest, is_exhausted, is_failed, is_tried_out, line_of, mark_at, result_of, stop_of, without_winner}
use Rattle.he_plan.proofs.Distinct.{same_ip-self}
use Rattle.he_plan.proofs.Finishing.{fate-in_time}
use Rattle.he_plan.proofs.Lawful.{place-is}
use Rattle.he_course.specs.declared.events.EventKind.{EventKind}
use Rattle.he_course.specs.declared.events.EventKind.TheVariants as kinds
use Rattle.he_course.specs.Events.{end_event}
use Rattle.he_course.specs.Course.{events_in}
use Rattle.he_course.specs.Laws.{HasStartAndEnd, LinesStand, ends, ends_at, starts, starts_at}
use Rattle.he_course.proofs.Counted.{IsOfAttempts, by_end, by_end-is, cancelled_as, count_cons, count_filter, count_map, count_none, count_past, counted, fails_as, in_course, on}

-- the attempts have their places
abbrev ArePlaced : ℕ → List Attempt → Type 0
ArePlaced k xs = (n : ℕ) (x : Attempt) → slice_get xs n ≡ Some x → x.place ≡ k + n

placed_on : (k : ℕ) (x : Attempt) (xs : List Attempt) → ArePlaced k (x ∷ xs) → ArePlaced (suc k) xs
placed_on k x xs h n y at = let place : y.place ≡ k + suc n = h (suc n) y at in omega (arith, place)

never : (S : Attempt → Bool) (k m : ℕ) (xs : List Attempt) → ArePlaced k xs → ((x : Attempt) → S x ≡ true → x.place ≡ m) → m < k → count_by S xs ≡ 0
never S k m [] h only less = refl
never S k m (x ∷ xs) h only less =
    elim (cases_Bool (S x)) [
      | inl met ↦ absurd (let a : x.place ≡ k + 0 = h 0 x refl in let b : x.place ≡ m = only x met in omega (arith, a, b, less))
      | inr out ↦ count_past S x xs out ∙ never S (suc k) m xs (placed_on k x xs h) only (omega (arith, less))
    ]

-- what only the attempt of a place can meet is met once, or not at all
at_place : (S : Attempt → Bool) (k i : ℕ) (xs : List Attempt) (x : Attempt) → ArePlaced k xs → ((y : Attempt) → S y ≡ true → y.place ≡ k + i) → slice_get xs i ≡ Some x
    → count_by S xs ≡ cond {A = ℕ} (S x) 1 0
at_place S k i [] x h only at = cc
at_place S k zero (y ∷ ys) x h only at =
    let same : y ≡ x = cc in
    let rest : count_by S ys ≡ 0 = never S (suc k) k ys (placed_on k y ys h) (λ z met. let place : z.place ≡ k + 0 = only z met in omega (arith, place)) (omega arith) in
    let all : count_by S (y ∷ ys) ≡ cond {A = ℕ} (S y) 1 0 + count_by S ys = count_cons S y ys in
    let head : cond {A = ℕ} (S y) 1 0 ≡ cond {A = ℕ} (S x) 1 0 = ap (λ z. cond {A = ℕ} (S z) 1 0) same in
    omega (arith, all, rest, head)
at_place S k (suc i) (y ∷ ys) x h only at =
    let not_first : S y ≡ true → ⊥ = λ met. let a : y.place ≡ k + 0 = h 0 y refl in let b : y.place ≡ k + suc i = only y met in omega (arith, a, b) in
    elim (cases_Bool (S y)) [
      | inl met ↦ absurd (not_first met)
      | inr out ↦
          count_past S y ys out
          ∙ at_place S (suc k) i ys x (placed_on k y ys h) (λ z met. let place : z.place ≡ k + suc i = only z met in omega (arith, place)) at
    ]

-- a line is that of an attempt that starts before the stop
record IsLineOf (f : Attempt → Line) (q : Attempt → Bool) (xs : List Attempt) (line : Line) : Type 0 where
  place : ℕ
  x : Attempt
  at : slice_get xs place ≡ Some x
  kept : q x ≡ true
  is : f x ≡ line

line_from : (f : Attempt → Line) (q : Attempt → Bool) (xs : List Attempt) (n : ℕ) (line : Line) → slice_get (map f (filter q xs)) n ≡ Some line → IsLineOf f q xs line
line_from f q [] n line at = cc
line_from f q (x ∷ xs) n line at = by_test (q x) refl n at (λ k h. later (line_from f q xs k line h))
  where
    later : IsLineOf f q xs line → IsLineOf f q (x ∷ xs) line
    later it = record { place = suc it.place; x = it.x; at = it.at; kept = it.kept; is = it.is }

    by_test : (b : Bool) → q x ≡ b → (k : ℕ) → slice_get (map f (cond b (x ∷ filter q xs) (filter q xs))) k ≡ Some line
        → ((k : ℕ) → slice_get (map f (filter q xs)) k ≡ Some line → IsLineOf f q (x ∷ xs) line) → IsLineOf f q (x ∷ xs) line
    by_test true e zero h rest = record { place = 0; x = x; at = refl; kept = e; is = cc }
    by_test true e (suc k) h rest = rest k h
    by_test false e k h rest = rest k h

-- what became of the attempt of a place agrees with the race's end
abbrev Fits : ℕ → Outcome3 → Mark → Type 0
Fits place result (marks.Won t) = result ≡ results.Won place t
Fits place result (marks.Failed t) = (t ≤ (end_event result).tick) × ((u : ℕ) → result ≡ results.Won place u → ⊥)
Fits place result (marks.Cancelled t) = (t ≤ (end_event result).tick) × ((u : ℕ) → result ≡ results.Won place u → ⊥)

-- at a stop that is the race's end
fits_stop : (place stop : ℕ) (result : Outcome3) (fate : Fate) → (end_event result).tick ≡ stop → ((u : ℕ) → result ≡ results.Won place u → ⊥) → Fits place result (failed_mark stop fate)
fits_stop place stop result (fates.Failed finish) end other = by_test (nat_le finish stop) refl
  where
    by_test : (b : Bool) → nat_le finish stop ≡ b → Fits place result (if b then marks.Failed finish else marks.Cancelled stop)
    by_test true e = (let less : finish ≤ stop = le_from finish stop e in omega (arith, less, end), other)
    by_test false e = (omega (arith, end), other)
fits_stop place stop result (fates.Succeeded finish) end other = (omega (arith, end), other)
fits_stop place stop result fates.Running end other = (omega (arith, end), other)
fits_stop place stop result fates.Skipped end other = (omega (arith, end), other)

among : (told : List Fate) (n finish : ℕ) → slice_get told n ≡ Some (fates.Failed finish) → finish ≤ greatest (failures told)
among [] n finish at = cc
among (fates.Failed first ∷ told) zero finish at =
    let same : first ≡ finish = cc in
    subst (λ m. m ≤ max first (greatest (failures told))) same (le-max_left first (greatest (failures told)))
among (fates.Failed first ∷ told) (suc n) finish at =
    let rest : finish ≤ greatest (failures told) = among told n finish at in
    let more : greatest (failures told) ≤ max first (greatest (failures told)) = le-max_right first (greatest (failures told)) in
    omega (arith, rest, more)
among (fates.Succeeded first ∷ told) zero finish at = cc
among (fates.Succeeded first ∷ told) (suc n) finish at = among told n finish at
among (fates.Running ∷ told) zero finish at = cc
among (fates.Running ∷ told) (suc n) finish at = among told n finish at
among (fates.Skipped ∷ told) zero finish at = cc
among (fates.Skipped ∷ told) (suc n) finish at = among told n finish at

failed_one : (told : List Fate) (n : ℕ) (fate : Fate) → slice_get told n ≡ Some fate → list_all is_failed told ≡ true → is_failed fate ≡ true
failed_one [] n fate at all = cc
failed_one (first ∷ told) zero fate at all = let same : first ≡ fate = cc in ap is_failed (sym same) ∙ and_left _ _ all
failed_one (first ∷ told) (suc n) fate at all = failed_one told n fate at (and_right (is_failed first) _ all)

-- the attempt of a place, with the race's end
record AtEnd (race : Race) (result : Outcome3) (winner : Option (ℕ × ℕ)) (x : Attempt) : Type 0 where
  begun : x.tick ≤ (end_event result).tick
  fits : Fits x.place result (mark_at (stop_of race winner) winner x.place (fate_of race x))

at_won : (race : Race) (key : ℕ × ℕ) (x : Attempt) → nat_lt x.tick key.0 ≡ true → AtEnd race (results.Won key.1 key.0) (Some key) x
at_won race key x early = record { begun = (let less : x.tick < key.0 = lt_from x.tick key.0 early in omega (arith, less)); fits = by_test (nat_eq key.1 x.place) refl }
  where
    by_test : (b : Bool) → nat_eq key.1 x.place ≡ b → Fits x.place (results.Won key.1 key.0) (if b then marks.Won key.0 else failed_mark key.0 (fate_of race x))
    by_test true e = ap (λ n. results.Won n key.0) (eqb-true key.1 x.place e)
    by_test false e =
        fits_stop x.place key.0 (results.Won key.1 key.0) (fate_of race x) refl
        (λ u won. let same : key.1 ≡ x.place = cc in clash (nat_eq key.1 x.place) (eq-eqb key.1 x.place same) e)

at_limit : (race : Race) (x : Attempt) → nat_lt x.tick race.settings.limit ≡ true → AtEnd race (results.Limit race.settings.limit) None x
at_limit race x early =
    record {
      begun = (let less : x.tick < race.settings.limit = lt_from x.tick race.settings.limit early in omega (arith, less));
      fits = fits_stop x.place race.settings.limit (results.Limit race.settings.limit) (fate_of race x) refl (λ u won. cc);
    }

at_exhausted : (race : Race) (n six four : ℕ) (attempts : List Attempt) (x : Attempt) → IsRace race → slice_get attempts n ≡ Some x
    → list_all is_failed (map (fate_of race) attempts) ≡ true
    → AtEnd race (results.Exhausted (greatest (six ∷ four ∷ failures (map (fate_of race) attempts)))) None x
at_exhausted race n six four attempts x r at all =
    by_fate (fate_of race x) refl (slice_get-map (fate_of race) attempts n ∙ ap (option_map (fate_of race)) at)
  where
    told : List Fate
    told = map (fate_of race) attempts

    last : ℕ
    last = greatest (six ∷ four ∷ failures told)

    under : (finish : ℕ) → finish ≤ greatest (failures told) → finish ≤ last
    under finish less =
        let one : greatest (failures told) ≤ max four (greatest (failures told)) = le-max_right four (greatest (failures told)) in
        let two : max four (greatest (failures told)) ≤ max six (max four (greatest (failures told))) = le-max_right six (max four (greatest (failures told))) in
        omega (arith, less, one, two)

    by_fate : (fate : Fate) → fate ≡ fate_of race x → slice_get told n ≡ Some (fate_of race x) → AtEnd race (results.Exhausted last) None x
    by_fate (fates.Failed finish) e place =
        let found : slice_get told n ≡ Some (fates.Failed finish) = place ∙ ap Some (sym e) in
        let below : finish ≤ last = under finish (among told n finish found) in
        let times : IsInTime race x (fates.Failed finish) = fate-in_time race r x (fates.Failed finish) e in
        record {
          begun = (let less : x.tick < finish = times.0 in omega (arith, less, below));
          fits =
              subst (λ fate. Fits x.place (results.Exhausted last) (failed_mark race.settings.limit fate)) e
              (subst (λ b. Fits x.place (results.Exhausted last) (if b then marks.Failed finish else marks.Cancelled race.settings.limit))
              (sym (le_test finish race.settings.limit times.1)) (below, λ u won. cc));
        }
    by_fate (fates.Succeeded finish) e place = absurd (let failed : is_failed (fates.Succeeded finish) ≡ true = ap is_failed e ∙ failed_one told n (fate_of race x) place all in cc)
    by_fate fates.Running e place = absurd (let failed : is_failed fates.Running ≡ true = ap is_failed e ∙ failed_one told n (fate_of race x) place all in cc)
    by_fate fates.Skipped e place = absurd (let failed : is_failed fates.Skipped ≡ true = ap is_failed e ∙ failed_one told n (fate_of race x) place all in cc)

last_of_five : (a b c d e : Bool) → (a && b && c && d && e) ≡ true → e ≡ true
last_of_five false b c d e h = cc
last_of_five true false c d e h = cc
last_of_five true true false d e h = cc
last_of_five true true true false e h = cc
last_of_five true true true true e h = h

at_lost : (race : Race) (n : ℕ) (attempts : List Attempt) (x : Attempt) → IsRace race → slice_get attempts n ≡ Some x → nat_lt x.tick race.settings.limit ≡ true
    → (aaaa a : Option Reply) → AtEnd race (without_winner race attempts (map (fate_of race) attempts) aaaa a) None x
at_lost race n attempts x r at early None a = at_limit race x early
at_lost race n attempts x r at early (Some aaaa) None = at_limit race x early
at_lost race n attempts x r at early (Some aaaa) (Some a) = by_test (is_exhausted race attempts told aaaa a) refl
  where
    told : List Fate
    told = map (fate_of race) attempts

    by_test : (b : Bool) → is_exhausted race attempts told aaaa a ≡ b
        → AtEnd race (if b then results.Exhausted (greatest (seen race aaaa.tick ∷ seen race a.tick ∷ failures told)) else results.Limit race.settings.limit) None x
    by_test true e =
        at_exhausted race n (seen race aaaa.tick) (seen race a.tick) attempts x r at
        (last_of_five (nat_le (seen race aaaa.tick) race.settings.limit) (nat_le (seen race a.tick) race.settings.limit) (is_tried_out attempts aaaa) (is_tried_out attempts a) (list_all is_failed told) e)
    by_test false e = at_limit race x early

at_end : (race : Race) (report : Report) (n : ℕ) (x : Attempt) → IsRace race → (is : IsTranscript race report) → slice_get is.attempts n ≡ Some x
    → nat_lt x.tick (stop_of race is.winner) ≡ true → AtEnd race report.result is.winner x
at_end race report n x r is at early = subst (λ result. AtEnd race result is.winner x) (sym is.result) (by_winner is.winner early)
  where
    by_winner : (winner : Option (ℕ × ℕ)) → nat_lt x.tick (stop_of race winner) ≡ true
        → AtEnd race (result_of race is.attempts (map (fate_of race) is.attempts) winner) winner x
    by_winner (Some key) h = at_won race key x h
    by_winner None h = at_lost race n is.attempts x r at h race.aaaa race.a

-- what is counted of a transcript's lines, by the attempts
lines_count : (race : Race) (report : Report) (is : IsTranscript race report) (test : Line → Bool)
    → count_by test report.lines ≡ count_by (λ (x : Attempt). test (line_of race is.winner x) && nat_lt x.tick (stop_of race is.winner)) is.attempts
lines_count race report is test =
    ap (count_by test) is.lines
    ∙ count_map test (line_of race is.winner) (filter (λ (x : Attempt). nat_lt x.tick (stop_of race is.winner)) is.attempts)
    ∙ count_filter (λ (x : Attempt). test (line_of race is.winner x)) (λ (x : Attempt). nat_lt x.tick (stop_of race is.winner)) is.attempts

-- a test of what is of an attempt, which only the attempt of this place meets
record IsOfPlace (p : ℕ → EventKind → Bool) (place : ℕ) : Type 0 where
  failed : (t at : ℕ) → p t (kinds.Failed at) ≡ true → at ≡ place
  cancelled : (t at : ℕ) → p t (kinds.Cancelled at) ≡ true → at ≡ place
  won : (t at : ℕ) → p t (kinds.Won at) ≡ true → at ≡ place

-- it is true of the end of that attempt
abbrev Meets : (ℕ → EventKind → Bool) → ℕ → Mark → Type 0
Meets p place (marks.Won t) = p t (kinds.Won place) ≡ true
Meets p place (marks.Failed t) = p t (kinds.Failed place) ≡ true
Meets p place (marks.Cancelled t) = p t (kinds.Cancelled place) ≡ true

fails_of : (p : ℕ → EventKind → Bool) (end place at : ℕ) → IsOfPlace p place → (mark : Mark) → fails_as (by_end end p) at mark ≡ true → at ≡ place
fails_of p end place at of (marks.Failed t) h = of.failed t at (and_left _ _ h)
fails_of p end place at of (marks.Won t) h = cc
fails_of p end place at of (marks.Cancelled t) h = cc

cancels_of : (p : ℕ → EventKind → Bool) (end place at : ℕ) → IsOfPlace p place → (mark : Mark) → cancelled_as (by_end end p) at mark ≡ true → at ≡ place
cancels_of p end place at of (marks.Cancelled t) h = of.cancelled t at (and_left _ _ h)
cancels_of p end place at of (marks.Won t) h = cc
cancels_of p end place at of (marks.Failed t) h = cc

not_won : (p : ℕ → EventKind → Bool) (s : ℕ → ℕ → Ip → Bool) (place : ℕ) → IsOfAttempts p s → IsOfPlace p place → (result : Outcome3)
    → ((u : ℕ) → result ≡ results.Won place u → ⊥) → on (by_end (end_event result).tick p) (end_event result) ≡ false
not_won p s place is of (results.Won at t) other =
    elim (cases_Bool (p t (kinds.Won at))) [
      | inl met ↦ absurd (other t (ap (λ n. results.Won n t) (of.won t at met)))
      | inr out ↦ ap (λ b. b && nat_le t t) out
    ]
not_won p s place is of (results.Exhausted t) other = ap (λ b. b && nat_le t t) (is.exhausted t)
not_won p s place is of (results.Limit t) other = ap (λ b. b && nat_le t t) (is.limit t)

-- by the end of its attempt
sums_up : (p : ℕ → EventKind → Bool) (s : ℕ → ℕ → Ip → Bool) (place : ℕ) → IsOfAttempts p s → IsOfPlace p place → (result : Outcome3) (mark : Mark) → Fits place result mark
    → Meets p place mark
    → (cond {A = ℕ} (fails_as (by_end (end_event result).tick p) place mark && true) 1 0 + 0)
    + (cond {A = ℕ} (on (by_end (end_event result).tick p) (end_event result)) 1 0 + cond {A = ℕ} (cancelled_as (by_end (end_event result).tick p) place mark && true) 1 0) ≡ 1
sums_up p s place is of result (marks.Won t) fits met =
    let won : on (by_end t p) (end_event (results.Won place t)) ≡ true = and_both (p t (kinds.Won place)) (nat_le t t) met (le_test t t (omega arith)) in
    let at : on (by_end (end_event result).tick p) (end_event result) ≡ true = subst (λ r. on (by_end (end_event r).tick p) (end_event r) ≡ true) (sym fits) won in
    let one : cond {A = ℕ} (on (by_end (end_event result).tick p) (end_event result)) 1 0 ≡ 1 = ap (λ b. cond {A = ℕ} b 1 0) at in
    omega (arith, one)
sums_up p s place is of result (marks.Failed t) fits met =
    let yes_ : fails_as (by_end (end_event result).tick p) place (marks.Failed t) ≡ true =
    and_both (p t (kinds.Failed place)) (nat_le t (end_event result).tick) met (le_test t (end_event result).tick fits.0)
    in
    let one : cond {A = ℕ} (fails_as (by_end (end_event result).tick p) place (marks.Failed t) && true) 1 0 ≡ 1 = ap (λ b. cond {A = ℕ} (b && true) 1 0) yes_ in
    let none : cond {A = ℕ} (on (by_end (end_event result).tick p) (end_event result)) 1 0 ≡ 0 = ap (λ b. cond {A = ℕ} b 1 0) (not_won p s place is of result fits.1) in
    omega (arith, one, none)
sums_up p s place is of result (marks.Cancelled t) fits met =
    let yes_ : cancelled_as (by_end (end_event result).tick p) place (marks.Cancelled t) ≡ true =
    and_both (p t (kinds.Cancelled place)) (nat_le t (end_event result).tick) met (le_test t (end_event result).tick fits.0)
    in
    let one : cond {A = ℕ} (cancelled_as (by_end (end_event result).tick p) place (marks.Cancelled t) && true) 1 0 ≡ 1 = ap (λ b. cond {A = ℕ} (b && true) 1 0) yes_ in
    let none : cond {A = ℕ} (on (by_end (end_event result).tick p) (end_event result)) 1 0 ≡ 0 = ap (λ b. cond {A = ℕ} b 1 0) (not_won p s place is of result fits.1) in
    omega (arith, one, none)

middle : (a b c : Bool) → (a && b && c) ≡ true → b ≡ true
middle true true c h = refl
middle true false c h = cc
middle false b c h = cc

all_three : (a b c : Bool) → a ≡ true → b ≡ true → c ≡ true → (a && b && c) ≡ true
all_three a b c ha hb hc = cc

self : (n : ℕ) → (n == n) ≡ true
self n = eq-eqb n n refl

-- the attempts of a transcript have their places
placed : (race : Race) (report : Report) (is : IsTranscript race report) → ArePlaced 0 is.attempts
placed race report is m y at = let place : y.place ≡ m = place-is race is.attempts is.are m y at in omega (arith, place)

-- an attempt of a transcript
record IsAttemptOf (race : Race) (report : Report) (is : IsTranscript race report) (x : Attempt) : Type 0 where
  place : ℕ
  at : slice_get is.attempts place ≡ Some x
  kept : nat_lt x.tick (stop_of race is.winner) ≡ true
  end : AtEnd race report.result is.winner x

abbrev mark_in : (race : Race) (report : Report) → IsTranscript race report → Attempt → Mark
mark_in race report is x = mark_at (stop_of race is.winner) is.winner x.place (fate_of race x)

-- what is counted of the lines, where only the attempt of one place can meet it
line_count : (race : Race) (report : Report) (is : IsTranscript race report) (x : Attempt) → IsAttemptOf race report is x → (test : Line → Bool)
    → ((y : Attempt) → test (line_of race is.winner y) ≡ true → y.place ≡ x.place)
    → count_by test report.lines ≡ cond {A = ℕ} (test (line_of race is.winner x) && true) 1 0
line_count race report is x of test only =
    let own : x.place ≡ of.place = place-is race is.attempts is.are of.place x of.at in
    let S : Attempt → Bool = λ y. test (line_of race is.winner y) && nat_lt y.tick (stop_of race is.winner) in
    lines_count race report is test
    ∙ at_place S 0 of.place is.attempts x (placed race report is)
    (λ y met. let same : y.place ≡ x.place = only y (and_left _ _ met) in omega (arith, same, own))
    of.at
    ∙ ap (λ b. cond {A = ℕ} (test (line_of race is.winner x) && b) 1 0) of.kept

end_once : (race : Race) (report : Report) (is : IsTranscript race report) (x : Attempt) → IsAttemptOf race report is x → (p : ℕ → EventKind → Bool)
    → IsOfAttempts p (λ t place ip. false) → IsOfPlace p x.place → Meets p x.place (mark_in race report is x) → count_by (on p) (events_in race report) ≡ 1
end_once race report is x of p ofs places met =
    let end : ℕ = (end_event report.result).tick in
    let told = in_course p race report ∙ counted (by_end end p) (λ t place ip. false && nat_le t end) (by_end-is p (λ t place ip. false) ofs end) race report in
    let fails = line_count race report is x of (λ (line : Line). fails_as (by_end end p) line.place line.mark)
    (λ y h. fails_of p end x.place y.place places (mark_in race report is y) h)
    in
    let cancels = line_count race report is x of (λ (line : Line). cancelled_as (by_end end p) line.place line.mark)
    (λ y h. cancels_of p end x.place y.place places (mark_in race report is y) h)
    in
    let begins : count_by (λ (line : Line). false && nat_le line.tick end) report.lines ≡ 0 = count_none (λ (line : Line). false && nat_le line.tick end) (λ line. refl) report.lines in
    let sum = sums_up p (λ t place ip. false) x.place ofs places report.result (mark_in race report is x) of.end.fits met in
    omega (arith, told, fails, cancels, begins, sum)

-- a test that no end of an attempt meets
record IsOfStarts (p : ℕ → EventKind → Bool) : Type 0 where
  failed : (t at : ℕ) → p t (kinds.Failed at) ≡ false
  cancelled : (t at : ℕ) → p t (kinds.Cancelled at) ≡ false
  won : (t at : ℕ) → p t (kinds.Won at) ≡ false

no_failure : (p : ℕ → EventKind → Bool) (end place : ℕ) → IsOfStarts p → (mark : Mark) → fails_as (by_end end p) place mark ≡ false
no_failure p end place of (marks.Failed t) = ap (λ b. b && nat_le t end) (of.failed t place)
no_failure p end place of (marks.Won t) = refl
no_failure p end place of (marks.Cancelled t) = refl

no_cancel : (p : ℕ → EventKind → Bool) (end place : ℕ) → IsOfStarts p → (mark : Mark) → cancelled_as (by_end end p) place mark ≡ false
no_cancel p end place of (marks.Cancelled t) = ap (λ b. b && nat_le t end) (of.cancelled t place)
no_cancel p end place of (marks.Won t) = refl
no_cancel p end place of (marks.Failed t) = refl

no_end : (p : ℕ → EventKind → Bool) (s : ℕ → ℕ → Ip → Bool) (end : ℕ) → IsOfAttempts p s → IsOfStarts p → (result : Outcome3) → on (by_end end p) (end_event result) ≡ false
no_end p s end is of (results.Won at t) = ap (λ b. b && nat_le t end) (of.won t at)
no_end p s end is of (results.Exhausted t) = ap (λ b. b && nat_le t end) (is.exhausted t)
no_end p s end is of (results.Limit t) = ap (λ b. b && nat_le t end) (is.limit t)

start_once : (race : Race) (report : Report) (is : IsTranscript race report) (x : Attempt) → IsAttemptOf race report is x → (p : ℕ → EventKind → Bool)
    → (s : ℕ → ℕ → Ip → Bool) → IsOfAttempts p s → IsOfStarts p → ((t place : ℕ) (ip : Ip) → s t place ip ≡ true → place ≡ x.place)
    → s x.tick x.place x.ip ≡ true → count_by (on p) (events_in race report) ≡ 1
start_once race report is x of p s ofs alone only met =
    let end : ℕ = (end_event report.result).tick in
    let told = in_course p race report ∙ counted (by_end end p) (λ t place ip. s t place ip && nat_le t end) (by_end-is p s ofs end) race report in
    let fails : count_by (λ (line : Line). fails_as (by_end end p) line.place line.mark) report.lines ≡ 0 =
    count_none (λ (line : Line). fails_as (by_end end p) line.place line.mark) (λ line. no_failure p end line.place alone line.mark) report.lines
    in
    let cancels : count_by (λ (line : Line). cancelled_as (by_end end p) line.place line.mark) report.lines ≡ 0 =
    count_none (λ (line : Line). cancelled_as (by_end end p) line.place line.mark) (λ line. no_cancel p end line.place alone line.mark) report.lines
    in
    let none : cond {A = ℕ} (on (by_end end p) (end_event report.result)) 1 0 ≡ 0 = ap (λ b. cond {A = ℕ} b 1 0) (no_end p s end ofs alone report.result) in
    let begins = line_count race report is x of (λ (line : Line). s line.tick line.place line.ip && nat_le line.tick end)
    (λ y h. only y.tick y.place y.ip (and_left _ _ h))
    in
    let first : (s x.tick x.place x.ip && nat_le x.tick end) ≡ true = and_both _ _ met (le_test x.tick end of.end.begun) in
    let one : cond {A = ℕ} ((s x.tick x.place x.ip && nat_le x.tick end) && true) 1 0 ≡ 1 = ap (λ b. cond {A = ℕ} (b && true) 1 0) first in
    omega (arith, told, fails, cancels, none, begins, one)

own_end : (place : ℕ) (mark : Mark) → Meets (ends place mark) place mark
own_end place (marks.Won t) = and_both _ _ (self t) (self place)
own_end place (marks.Failed t) = and_both _ _ (self t) (self place)
own_end place (marks.Cancelled t) = and_both _ _ (self t) (self place)

any_end : (place : ℕ) (mark : Mark) → Meets (ends_at place) place mark
any_end place (marks.Won t) = self place
any_end place (marks.Failed t) = self place
any_end place (marks.Cancelled t) = self place

ends_of_attempts : (place : ℕ) (mark : Mark) → IsOfAttempts (ends place mark) (λ t at ip. false)
ends_of_attempts place (marks.Won tick) =
    record { paused = λ t u. refl; answered = λ t f n. refl; waits = λ t u. refl; over = λ t. refl; exhausted = λ t. refl; limit = λ t. refl; started = λ t start. refl }
ends_of_attempts place (marks.Failed tick) =
    record { paused = λ t u. refl; answered = λ t f n. refl; waits = λ t u. refl; over = λ t. refl; exhausted = λ t. refl; limit = λ t. refl; started = λ t start. refl }
ends_of_attempts place (marks.Cancelled tick) =
    record { paused = λ t u. refl; answered = λ t f n. refl; waits = λ t u. refl; over = λ t. refl; exhausted = λ t. refl; limit = λ t. refl; started = λ t start. refl }

ends_of_place : (place : ℕ) (mark : Mark) → IsOfPlace (ends place mark) place
ends_of_place place (marks.Won tick) = record { failed = λ t at h. cc; cancelled = λ t at h. cc; won = λ t at h. eqb-true at place (and_right (t == tick) (at == place) h) }
ends_of_place place (marks.Failed tick) = record { failed = λ t at h. eqb-true at place (and_right (t == tick) (at == place) h); cancelled = λ t at h. cc; won = λ t at h. cc }
ends_of_place place (marks.Cancelled tick) = record { failed = λ t at h. cc; cancelled = λ t at h. eqb-true at place (and_right (t == tick) (at == place) h); won = λ t at h. cc }

has_both : (race : Race) (report : Report) (is : IsTranscript race report) (x : Attempt) → IsAttemptOf race report is x
    → HasStartAndEnd (events_in race report) (line_of race is.winner x)
has_both race report is x of =
    let line : Line = line_of race is.winner x in
    record {
      start =
          start_once race report is x of (starts line) (λ t place ip. (t == x.tick) && (place == x.place) && same_ip ip x.ip)
          (record { paused = λ t u. refl; answered = λ t f n. refl; waits = λ t u. refl; over = λ t. refl; exhausted = λ t. refl; limit = λ t. refl; started = λ t start. refl })
          (record { failed = λ t at. refl; cancelled = λ t at. refl; won = λ t at. refl })
          (λ t place ip h. eqb-true place x.place (middle (t == x.tick) (place == x.place) (same_ip ip x.ip) h))
          (all_three _ _ _ (self x.tick) (self x.place) (same_ip-self x.ip));
      one_start =
          start_once race report is x of (starts_at x.place) (λ t place ip. place == x.place)
          (record { paused = λ t u. refl; answered = λ t f n. refl; waits = λ t u. refl; over = λ t. refl; exhausted = λ t. refl; limit = λ t. refl; started = λ t start. refl })
          (record { failed = λ t at. refl; cancelled = λ t at. refl; won = λ t at. refl })
          (λ t place ip h. eqb-true place x.place h)
          (self x.place);
      end =
          end_once race report is x of (ends x.place line.mark) (ends_of_attempts x.place line.mark) (ends_of_place x.place line.mark) (own_end x.place line.mark);
      one_end =
          end_once race report is x of (ends_at x.place)
          (record { paused = λ t u. refl; answered = λ t f n. refl; waits = λ t u. refl; over = λ t. refl; exhausted = λ t. refl; limit = λ t. refl; started = λ t start. refl })
          (record { failed = λ t at h. eqb-true at x.place h; cancelled = λ t at h. eqb-true at x.place h; won = λ t at h. eqb-true at x.place h })
          (any_end x.place line.mark);
    }

pub lines_stand : LinesStand
lines_stand race r report is n line at =
    let it : IsLineOf (line_of race is.winner) (λ (x : Attempt). nat_lt x.tick (stop_of race is.winner)) is.attempts line =
    line_from (line_of race is.winner) (λ (x : Attempt). nat_lt x.tick (stop_of race is.winner)) is.attempts n line (ap (λ (ls : List Line). slice_get ls n) (sym is.lines) ∙ at)
    in
    subst (HasStartAndEnd (events_in race report)) it.is
    (has_both race report is it.x (record { place = it.place; at = it.at; kept = it.kept; end = at_end race report it.place it.x r is it.at it.kept }))

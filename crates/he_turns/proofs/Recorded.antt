-- What is known of a race that is being run when a turn begins, when an attempt finishes in it, and when it ends.
use Rattle.std.proofs.Common.{◌≡◌, ℕ, zero, suc, ◌+◌, ◌-◌, ◌≤◌, ◌<◌, ◌⊎◌, ◌&&◌, ◌||◌, ◌++◌, Bool, true, false, not, List, [], ◌∷◌, if◌then◌else◌, length, find, get_or, take, Option, Some, None, Result, Ok, Err, IfSome, OnOk, IsSomeAnd, MatchOption, nat_le, nat_lt, refl, sym, ◌∙◌, ap, subst, arith, inl, inr, length-append}
use Rattle.std.specs.List.{All, Contains, list_all, slice_get}
use Rattle.std.specs.Option.{option_map, option_map_or}
use Rattle.std.proofs.lemmas.Bool.{cases_lt}
use Rattle.std.proofs.lemmas.Bool.Decides.{Decides-eqb}
use Rattle.std.proofs.lemmas.List.Elements.{All-contains, All-head, All-nil, All-push, All-tail, All-weaker}
use Rattle.std.proofs.lemmas.List.Folds.{list_all-append, list_any-append}
use Rattle.he_addr.specs.declared.ip.Ip.{Ip}
use Rattle.he_addr.specs.declared.ip.Ip.TheVariants.{V4, V6}
use Rattle.he_addr.specs.Ip.{same_ip}
use Rattle.he_plan.specs.declared.attempts.Attempt.{Attempt}
use Rattle.he_timeline.specs.declared.outcome.Outcome.{Outcome}
use Rattle.he_timeline.specs.declared.outcome.Outcome.TheVariants as outcomes
use Rattle.he_plan.specs.Agreement.{AgreeBelow, AreAlike, FailAlike}
use Rattle.he_plan.specs.Attempts.{AreNextInTurn, HasWaited, HaveFailed, IsNext, MayBegin, MayFollow, MayStart, has_failed, has_failed_by, is_tried, is_untried, last_of}
use Rattle.he_timeline.specs.Seen.{IsFree, IsLeast, IsSeen, seen, seen_past}
use Rattle.he_timeline.specs.Building.{last_end, unrecorded, with_outcome, with_pause}
use Rattle.he_plan.specs.Continuing.{Follow}
use Rattle.he_plan.specs.Due.{IsAfterTurn, IsDelayDue, IsDue, IsDueTick, IsStartDue, IsTaken}
use Rattle.he_plan.specs.Finish.{fate_of}
use Rattle.he_timeline.specs.Race.{outcome_in, outcome_of, Race, Reply, has_outcome}
use Rattle.he_timeline.specs.Timeline.{IsRace, duration_of}
use Rattle.he_plan.specs.RaceState.{EndsOne, IsUnderway, MakesNext, Progress, was_received}
use Rattle.he_plan.proofs.Agreeing.{alike-below, failed-shared, in_turn-below, starts-below, starts-shared}
use Rattle.he_timeline.proofs.Bools.{and_both, and_left, and_right, before, clash, inside, le_test, lt_test, not_le, or_left, or_left_none, or_right, or_right_none}
use Rattle.he_plan.proofs.Dueness.{due-no_sooner, finish-failed, finish-silent, starts-free, starts-later}
use Rattle.he_plan.proofs.Ends.{ends-alike, ends-in_turn}
use Rattle.he_plan.proofs.Growing.{outcome-below, outcome-others, outcome-own, pause-away, pause-below, pauses-over}
use Rattle.he_plan.proofs.InTurn.{in_turn-follow, in_turn-more, in_turn-none}
use Rattle.he_plan.proofs.Lawful.{seen_past-more}
use Rattle.he_plan.proofs.Planned.{last_of-more}
use Rattle.he_timeline.proofs.Ranges.{same_ip-sym}
use Rattle.he_timeline.proofs.Seen.{IsSeen-seen}
use Rattle.he_plan.proofs.Starting.{SeesOwn-free}
use Rattle.he_turns.specs.Kept.{Begins, FailedBelow, InTurn, Rests, first_after, taken}
use Rattle.he_turns.specs.Recording.{EndedBy, HasSuccess, ended_by}
use Rattle.he_turns.proofs.Counted.{all_taken_later, due_taken, turn_by}
use Rattle.he_turns.proofs.DueTicks.{due_starts}
use Rattle.he_turns.proofs.Failing.{all-weaker, at-one, map-same, seen-free}

pub own_ip : (ip : Ip) → same_ip ip ip ≡ true
own_ip (V4 n) = (Decides-eqb n n).1 refl
own_ip (V6 n) = (Decides-eqb n n).1 refl

pub same_ip-is : (x y : Ip) → same_ip x y ≡ true → x ≡ y
same_ip-is (V4 m) (V4 n) e = ap V4 ((Decides-eqb m n).0 e)
same_ip-is (V6 m) (V6 n) e = ap V6 ((Decides-eqb m n).0 e)
same_ip-is (V4 m) (V6 n) e = cc
same_ip-is (V6 m) (V4 n) e = cc

if_some : (P Q : Outcome → Type 0) (o : Option Outcome) → ((x : Outcome) → P x → Q x) → IfSome o P → IfSome o Q
if_some P Q None f h = tt
if_some P Q (Some x) f h = f x h

-- ticks that all come before one
pub all_before : (tick : ℕ) (xs : List Attempt) → All (λ (x : Attempt). x.tick < tick) xs → list_all (λ (x : Attempt). nat_lt x.tick tick) xs ≡ true
all_before tick [] h = refl
all_before tick (x ∷ xs) h = and_both _ _ (lt_test x.tick tick (All-head (λ (y : Attempt). y.tick < tick) x xs h)) (all_before tick xs (All-tail (λ (y : Attempt). y.tick < tick) x xs h))

pub get_last : {X : Type 0} (xs : List X) (x : X) → slice_get (xs ++ x ∷ []) (length xs) ≡ Some x
get_last [] x = refl
get_last (y ∷ xs) x = get_last xs x

pub take_all_of : (xs : List Attempt) (x : Attempt) → take (length xs) (xs ++ x ∷ []) ≡ xs
take_all_of [] x = refl
take_all_of (y ∷ xs) x = ap (λ (zs : List Attempt). y ∷ zs) (take_all_of xs x)

last_end-more : (pauses : List (ℕ × ℕ)) (p : ℕ × ℕ) → last_end (pauses ++ p ∷ []) ≡ p.1
last_end-more pauses p =
    let e : length (pauses ++ p ∷ []) - 1 ≡ length pauses = omega (arith, length-append pauses (p ∷ [])) in
    rw e (ap (λ (o : Option (ℕ × ℕ)). option_map_or (λ (q : ℕ × ℕ). q.1) o 0) (get_last pauses p))

-- nothing is due before the first tick after the last turn
pub due_later : (race : Race) → IsRace race → (turn : Option ℕ) (xs : List Attempt) (due : ℕ) → IsAfterTurn race turn xs → IsDue race turn xs due → first_after turn ≤ due
due_later race r None xs due after is = omega arith
due_later race r (Some n) xs due after is = by_kind is
  where
    answer : (o : Option Reply) → IsSomeAnd o (λ x. (¬ IsTaken (Some n) x) × (x.tick ≡ due)) → n + 1 ≤ due
    answer None h = absurd h
    answer (Some x) h = elim (cases_lt n x.tick) [ inl later ↦ omega (arith, h.1) | inr by ↦ absurd (h.0 by) ]

    by_kind : IsDue race (Some n) xs due → n + 1 ≤ due
    by_kind (inl six) = answer race.aaaa six
    by_kind (inr (inl four)) = answer race.a four
    by_kind (inr (inr (inl delay))) = elim (cases_lt n due) [ inl later ↦ omega arith | inr by ↦ absurd (after.2 (due_starts race r (Some n) xs due n (inl delay) (omega arith) by after.0 after.1)) ]
    by_kind (inr (inr (inr (inl start)))) = elim (cases_lt n due) [ inl later ↦ omega arith | inr by ↦ absurd (after.2 (due_starts race r (Some n) xs due n (inr start) (omega arith) by after.0 after.1)) ]
    by_kind (inr (inr (inr (inr limit)))) = omega (arith, limit, after.1)

failed_ended : (race : Race) (now : ℕ) (x : Attempt) (o : Outcome) → FailedBelow race now x o → EndedBy race now false x o
failed_ended race now x (outcomes.Ok d) h = absurd h
failed_ended race now x (outcomes.Fail d) h = (h.0, omega (arith, h.1))

failed_later : (race race' : Race) (below now : ℕ) (x : Attempt) → below ≤ now → ((t : ℕ) → t < below → IsFree race t → IsFree race' t) → (o : Outcome) → FailedBelow race below x o → FailedBelow race' now x o
failed_later race race' below now x up free (outcomes.Ok d) h = absurd h
failed_later race race' below now x up free (outcomes.Fail d) h = (free (x.tick + d) h.1 h.0, omega (arith, h.1))

not_won : false ≡ true → ⊥
not_won e = cc

pub begins-late : (race : Race) (turn : Option ℕ) (xs : List Attempt) (due now : ℕ) → Rests race turn xs → IsDueTick race turn xs due → first_after turn ≤ now → due < now → IsRace (with_pause race due now) → Begins (with_pause race due now) now xs
begins-late race turn xs due now rest is up late r' =
    let race' : Race = with_pause race due now in
    let r : IsRace race = rest.valid in
    let agree : AgreeBelow due race race' = pause-below race due now in
    let base : first_after turn ≤ due = due_later race r turn xs due rest.after is.holds in
    let alike : FailAlike due race race' xs = alike-below due race race' r r' agree xs (λ k d lt. refl) in
    let past : All (λ (x : Attempt). x.tick < due) xs = All-weaker (λ (x : Attempt). x.tick < first_after turn) (λ (x : Attempt). x.tick < due) (λ x h. omega (arith, h)) xs rest.past in
    let failed : All (λ (x : Attempt). IfSome (outcome_of race' x.ip) (FailedBelow race' now x)) xs = All-weaker (λ (x : Attempt). IfSome (outcome_of race x.ip) (FailedBelow race (first_after turn) x)) (λ (x : Attempt). IfSome (outcome_of race' x.ip) (FailedBelow race' now x))
    (λ x h. if_some (FailedBelow race (first_after turn) x) (FailedBelow race' now x) (outcome_of race x.ip) (failed_later race race' (first_after turn) now x up (λ t lt free. (agree.free t (omega arith)).0 free)) h) xs rest.failed in
    record {
      in_turn = record {
        valid = r';
        made = record { in_turn = in_turn-below due race race' r r' agree xs alike (all_before due xs past) rest.made.in_turn; tried = rest.made.tried };
        past = All-weaker (λ (x : Attempt). x.tick < due) (λ (x : Attempt). x.tick < now) (λ x h. omega (arith, h)) xs past;
        over = let e : last_end race'.pauses ≡ now = last_end-more race.pauses (due, now) in omega (arith, e);
        ended = All-weaker (λ (x : Attempt). IfSome (outcome_of race' x.ip) (FailedBelow race' now x)) (λ (x : Attempt). IfSome (outcome_of race' x.ip) (EndedBy race' now false x)) (λ x h. if_some (FailedBelow race' now x) (EndedBy race' now false x) (outcome_of race' x.ip) (failed_ended race' now x) h) xs failed;
        stops = stops agree alike;
        success = λ e. absurd (not_won e);
        few = omega (arith, one_more, rest.few, all_taken_later turn now up race);
        starts = λ more early. starts more early is.holds;
      };
      failed = failed;
    }
  where
    one_more : length (race.pauses ++ (due, now) ∷ []) ≡ length race.pauses + 1
    one_more = length-append race.pauses ((due, now) ∷ [])

    base : first_after turn ≤ due
    base = due_later race rest.valid turn xs due rest.after is.holds

    starts_at : now < race.settings.limit → IsDelayDue race turn xs due ⊎ IsStartDue race turn xs due → MayStart (with_pause race due now) xs now
    starts_at early is_due =
        let over : last_end (race.pauses ++ (due, now) ∷ []) ≡ now = last_end-more race.pauses (due, now) in
        let free : IsFree race now = pauses-over race rest.valid now (omega (arith, rest.over, base)) in
        let free' : IsFree (with_pause race due now) now = pauses-over (with_pause race due now) r' now (omega (arith, over)) in
        let same : list_all (has_failed race now) xs ≡ list_all (has_failed (with_pause race due now) now) xs = failed-shared race (with_pause race due now) now (SeesOwn-free race rest.valid now free) (SeesOwn-free (with_pause race due now) r' now free') (λ ip. refl) xs in
        let may : MayStart race xs now = due_starts race rest.valid turn xs due now is_due (turn_by turn now up) (omega arith) free early in
        (starts-shared race (with_pause race due now) rest.valid r' refl xs now (λ h. sym same ∙ h, λ h. same ∙ h) free free').0 may

    -- the new pause is one too many only where a delay was over, so that an attempt may start
    starts : taken (Some now) race + length xs < length (race.pauses ++ (due, now) ∷ []) → now < race.settings.limit → IsDue race turn xs due → MayStart (with_pause race due now) xs now
    starts more early (inl six) = absurd (let no : ⊥ = omega (arith, more, one_more, rest.few, due_taken turn now due up (omega arith) race (inl six)) in no)
    starts more early (inr (inl four)) = absurd (let no : ⊥ = omega (arith, more, one_more, rest.few, due_taken turn now due up (omega arith) race (inr four)) in no)
    starts more early (inr (inr (inl delay))) = starts_at early (inl delay)
    starts more early (inr (inr (inr (inl start)))) = starts_at early (inr start)
    starts more early (inr (inr (inr (inr limit)))) = absurd (let no : ⊥ = omega (arith, limit, early) in no)

    stops : AgreeBelow due race (with_pause race due now) → FailAlike due race (with_pause race due now) xs → (t : ℕ) → MayStart (with_pause race due now) xs t → now ≤ t
    stops agree alike t m = elim (cases_lt t due) [
      | inl sooner ↦
          let k : seen race due ≤ t = due-no_sooner race rest.valid turn xs due rest.after is t ((starts-below due race (with_pause race due now) rest.valid r' agree xs alike t sooner).1 m) in
          let s : IsSeen race due (seen race due) = IsSeen-seen race rest.valid due in
          absurd (let l : due ≤ seen race due = s.holds.0 in let no : ⊥ = omega arith in no)
      | inr after ↦ elim (cases_lt t now) [
        | inl within ↦ absurd (clash _ (pause-away race due now t (omega arith) within) (starts-free (with_pause race due now) r' xs t m))
        | inr by ↦ omega arith
      ]
    ]

pub begins-now : (race : Race) (turn : Option ℕ) (xs : List Attempt) (due now : ℕ) → Rests race turn xs → IsDueTick race turn xs due → first_after turn ≤ now → now ≤ due → Begins race now xs
begins-now race turn xs due now rest is up early =
    let r : IsRace race = rest.valid in
    let failed : All (λ (x : Attempt). IfSome (outcome_of race x.ip) (FailedBelow race now x)) xs = All-weaker (λ (x : Attempt). IfSome (outcome_of race x.ip) (FailedBelow race (first_after turn) x)) (λ (x : Attempt). IfSome (outcome_of race x.ip) (FailedBelow race now x))
    (λ x h. if_some (FailedBelow race (first_after turn) x) (FailedBelow race now x) (outcome_of race x.ip) (failed_later race race (first_after turn) now x up (λ t lt free. free)) h) xs rest.failed in
    record {
      in_turn = record {
        valid = r;
        made = rest.made;
        past = All-weaker (λ (x : Attempt). x.tick < first_after turn) (λ (x : Attempt). x.tick < now) (λ x h. omega (arith, h)) xs rest.past;
        over = omega (arith, rest.over);
        ended = All-weaker (λ (x : Attempt). IfSome (outcome_of race x.ip) (FailedBelow race now x)) (λ (x : Attempt). IfSome (outcome_of race x.ip) (EndedBy race now false x)) (λ x h. if_some (FailedBelow race now x) (EndedBy race now false x) (outcome_of race x.ip) (failed_ended race now x) h) xs failed;
        stops = λ t m. (let k : seen race due ≤ t = due-no_sooner race r turn xs due rest.after is t m in let s : IsSeen race due (seen race due) = IsSeen-seen race r due in let l : due ≤ seen race due = s.holds.0 in omega arith);
        success = λ e. absurd (not_won e);
        few = omega (arith, rest.few, all_taken_later turn now up race);
        starts = λ more early. absurd (let no : ⊥ = omega (arith, more, rest.few, all_taken_later turn now up race) in no);
      };
      failed = failed;
    }

-- the underway's queue stays right where the client sleeps after the last start
past_pause : (from to last x : ℕ) → last < from → nat_le (seen_past ((from, to) ∷ []) x) last ≡ nat_le x last
past_pause from to last x above = elim (cases_lt x from) [
  | inl earlier ↦ ap (λ (b : Bool). nat_le (if b then to else x) last) (before from to x earlier)
  | inr after ↦ by_test after (nat_le from x && nat_lt x to) refl ∙ sym (not_le x last (omega arith))
]
  where
    by_test : from ≤ x → (b : Bool) → (nat_le from x && nat_lt x to) ≡ b → nat_le (if b then to else x) last ≡ false
    by_test after false e = not_le x last (omega arith)
    by_test after true e = not_le to last (let within : (from ≤ x) × (x < to) = inside from to x e in omega (arith, within.1))

received_still : (race : Race) (from to : ℕ) (last : Option Attempt) (reply : Option Reply) → IfSome last (λ x. x.tick < from) → was_received (with_pause race from to) last reply ≡ was_received race last reply
received_still race from to None reply above = refl
received_still race from to (Some x) None above = refl
received_still race from to (Some x) (Some reply) above =
    ap (λ (k : ℕ). nat_le k x.tick) (seen_past-more race.pauses (from, to) reply.tick) ∙ past_pause from to x.tick (seen race reply.tick) above

pub last_before : (tick : ℕ) (xs : List Attempt) → All (λ (x : Attempt). x.tick < tick) xs → IfSome (last_of xs) (λ x. x.tick < tick)
last_before tick xs h = by_get (length xs - 1) xs h
  where
    by_get : (k : ℕ) (ys : List Attempt) → All (λ (x : Attempt). x.tick < tick) ys → IfSome (slice_get ys k) (λ x. x.tick < tick)
    by_get k [] h = tt
    by_get zero (y ∷ ys) h = All-head (λ (x : Attempt). x.tick < tick) y ys h
    by_get (suc k) (y ∷ ys) h = by_get k ys (All-tail (λ (x : Attempt). x.tick < tick) y ys h)

pub underway-slept : (race : Race) (from to : ℕ) (u : Progress) → All (λ (x : Attempt). x.tick < from) u.attempts → All (λ (x : Attempt). fate_of race x ≡ fate_of (with_pause race from to) x) u.attempts → AreNextInTurn (with_pause race from to) u.attempts → IsUnderway race u → IsUnderway (with_pause race from to) u
underway-slept race from to u above fates in_turn is = record {
  in_turn = in_turn;
  in_range = is.in_range;
  fates = is.fates ∙ map-same (fate_of race) (fate_of (with_pause race from to)) u.attempts fates;
  failed = is.failed;
  latest = is.latest;
  queue = record {
    rest = record { members = is.queue.rest.members; own_six = is.queue.rest.own_six; own_four = is.queue.rest.own_four; rest = is.queue.rest.rest; sorted = is.queue.rest.sorted };
    six = is.queue.six ∙ sym (received_still race from to (last_of u.attempts) race.aaaa (last_before from u.attempts above));
    four = is.queue.four ∙ sym (received_still race from to (last_of u.attempts) race.a (last_before from u.attempts above));
  };
}

-- what becomes of an attempt that failed or still runs before a pause
fate_kept : (race race' : Race) → IsRace race → IsRace race' → AreAlike race race' → (below : ℕ) → below ≤ race.settings.limit + 1 → (x : Attempt) → outcome_of race' x.ip ≡ outcome_of race x.ip → ((t : ℕ) → t < below → IsFree race t → IsFree race' t) → (o : Option Outcome) → outcome_of race x.ip ≡ o → IfSome o (FailedBelow race below x) → fate_of race x ≡ fate_of race' x
fate_kept race race' r r' alike below early x same free None is h = finish-silent race x is ∙ sym (finish-silent race' x (same ∙ is))
fate_kept race race' r r' alike below early x same free (Some (outcomes.Ok d)) is h = absurd h
fate_kept race race' r r' alike below early x same free (Some (outcomes.Fail d)) is h =
    let at : d ≡ (x.tick + d) - x.tick = omega arith in
    let told : outcome_of race x.ip ≡ Some (outcomes.Fail ((x.tick + d) - x.tick)) = is ∙ ap (λ (k : ℕ). Some (outcomes.Fail k)) at in
    let limit : race'.settings.limit ≡ race.settings.limit = ap (λ (z : Race). z.settings.limit) alike in
    finish-failed race r x (x.tick + d) h.0 (omega arith) (omega (arith, h.1, early)) told
    ∙ sym (finish-failed race' r' x (x.tick + d) (free (x.tick + d) h.1 h.0) (omega arith) (omega (arith, h.1, early, limit)) (same ∙ told))

-- an attempt that was made is tried
pub tried_made : (xs : List Attempt) (x : Attempt) → Contains xs x → is_tried xs x.ip ≡ true
tried_made xs x at = by_index xs at.0 at.1 at.2
  where
    by_index : (xs : List Attempt) (k : ℕ) → k < length xs → get_or xs k x ≡ x → is_tried xs x.ip ≡ true
    by_index [] k lt e = absurd (let no : ⊥ = omega arith in no)
    by_index (y ∷ xs) zero lt e = or_left _ _ (ap (λ (z : Attempt). same_ip z.ip x.ip) e ∙ own_ip x.ip)
    by_index (y ∷ xs) (suc k) lt e = or_right _ _ (by_index xs k (omega arith) e)

found_passes : (p : Ip → Bool) (xs : List Ip) (y : Ip) → find p xs ≡ Some y → p y ≡ true
found_passes p [] y h = cc
found_passes p (x ∷ xs) y h = at_head (p x) refl h (found_passes p xs y)
  where
    at_head : (b : Bool) → p x ≡ b → (if b then Some x else find p xs) ≡ Some y → (find p xs ≡ Some y → p y ≡ true) → p y ≡ true
    at_head true e h rest = let same : x ≡ y = cc in ap p (sym same) ∙ e
    at_head false e h rest = rest h

not_true : (b : Bool) → not b ≡ true → b ≡ false
not_true true h = cc
not_true false h = refl

pub next_untried : (race : Race) (done : List Attempt) (next : Attempt) → IsNext race done next → is_tried done next.ip ≡ false
next_untried race done next is = not_true _ (found_passes (is_untried done) _ next.ip is.ip)

-- an attempt was untried before it
untried_later : (race : Race) (done xs : List Attempt) → Follow race done xs → (k : ℕ) (d : Attempt) → k < length xs → is_tried done (get_or xs k d).ip ≡ false
untried_later race done [] f k d lt = absurd (let no : ⊥ = omega arith in no)
untried_later race done (x ∷ xs) f zero d lt = next_untried race done x f.0
untried_later race done (x ∷ xs) f (suc k) d lt =
    or_left_none _ _ (sym (list_any-append (λ (z : Attempt). same_ip z.ip (get_or xs k d).ip) done (x ∷ [])) ∙ untried_later race (done ++ x ∷ []) xs f.1 k d (omega arith))

apart_later : (race : Race) (done xs : List Attempt) (x : Attempt) → Follow race (done ++ x ∷ []) xs → (k : ℕ) (d : Attempt) → k < length xs → same_ip x.ip (get_or xs k d).ip ≡ false
apart_later race done xs x f k d lt =
    or_left_none _ _ (or_right_none (is_tried done (get_or xs k d).ip) _ (sym (list_any-append (λ (z : Attempt). same_ip z.ip (get_or xs k d).ip) done (x ∷ [])) ∙ untried_later race (done ++ x ∷ []) xs f k d lt))

-- attempts at one address are one
one_of : (race : Race) (done xs : List Attempt) → Follow race done xs → (j k : ℕ) (d : Attempt) → j < length xs → k < length xs → same_ip (get_or xs j d).ip (get_or xs k d).ip ≡ true → get_or xs j d ≡ get_or xs k d
one_of race done [] f j k d lj lk same = absurd (let no : ⊥ = omega arith in no)
one_of race done (x ∷ xs) f zero zero d lj lk same = refl
one_of race done (x ∷ xs) f zero (suc k) d lj lk same = absurd (clash _ same (apart_later race done xs x f.1 k d (omega arith)))
one_of race done (x ∷ xs) f (suc j) zero d lj lk same = absurd (clash _ (same_ip-sym x.ip (get_or xs j d).ip ∙ same) (apart_later race done xs x f.1 j d (omega arith)))
one_of race done (x ∷ xs) f (suc j) (suc k) d lj lk same = one_of race (done ++ x ∷ []) xs f.1 j k d (omega arith) (omega arith) same

pub one_attempt : (race : Race) (xs : List Attempt) → AreNextInTurn race xs → (x : Attempt) → Contains xs x → (k : ℕ) (d : Attempt) → k < length xs → same_ip x.ip (get_or xs k d).ip ≡ true → get_or xs k d ≡ x
one_attempt race xs turn x at k d lt same =
    let f : Follow race [] xs = in_turn-follow race xs turn in
    let here : get_or xs at.0 d ≡ x = get_or-default xs at.0 d x at.1 ∙ at.2 in
    sym (one_of race [] xs f at.0 k d at.1 lt (ap (λ (z : Attempt). same_ip z.ip (get_or xs k d).ip) here ∙ same)) ∙ here
  where
    get_or-default : (ys : List Attempt) (j : ℕ) (a b : Attempt) → j < length ys → get_or ys j a ≡ get_or ys j b
    get_or-default [] j a b lt = absurd (let no : ⊥ = omega arith in no)
    get_or-default (y ∷ ys) zero a b lt = refl
    get_or-default (y ∷ ys) (suc j) a b lt = get_or-default ys j a b (omega arith)

-- an attempt of the race that is at the address of another is it
pub same-attempt : (race : Race) (xs : List Attempt) → AreNextInTurn race xs → (x y : Attempt) → Contains xs x → Contains xs y → same_ip y.ip x.ip ≡ true → y ≡ x
same-attempt race xs turn x y made at same =
    let here : get_or xs made.0 x ≡ x = made.2 in
    sym (sym here ∙ one_attempt race xs turn y at made.0 x made.1 (ap (λ (z : Attempt). same_ip y.ip z.ip) here ∙ same))

-- an address that was not tried has no outcome
untold : (xs : List Attempt) (told : List (Ip × Outcome)) (ip : Ip) → list_all (λ (p : Ip × Outcome). is_tried xs p.0) told ≡ true → is_tried xs ip ≡ false → outcome_in told ip ≡ None
untold xs [] ip all none = refl
untold xs (p ∷ told) ip all none = by_head (same_ip p.0 ip) refl (untold xs told ip (and_right _ _ all) none)
  where
    by_head : (b : Bool) → same_ip p.0 ip ≡ b → outcome_in told ip ≡ None → option_map (λ (q : Ip × Outcome). q.1) (if b then Some p else find (λ (q : Ip × Outcome). same_ip q.0 ip) told) ≡ None
    by_head true e rest = absurd (clash (is_tried xs ip) (ap (is_tried xs) (sym (same_ip-is p.0 ip e)) ∙ and_left _ _ all) none)
    by_head false e rest = rest

failed_now : (race : Race) (now : ℕ) (x : Attempt) (o : Outcome) → EndedBy race now false x o → FailedBelow race (now + 1) x o
failed_now race now x (outcomes.Ok d) h = absurd (not_won h.0)
failed_now race now x (outcomes.Fail d) h = (h.0, omega (arith, h.1))

-- one that has failed by any tick has by the turn
ended_failed : (race : Race) → IsRace race → (now later : ℕ) (x : Attempt) (o : Option Outcome) → IfSome o (EndedBy race now false x) → has_failed_by race later x.tick o ≡ true → has_failed_by race now x.tick o ≡ true
ended_failed race r now later x None h k = k
ended_failed race r now later x (Some (outcomes.Ok d)) h k = k
ended_failed race r now later x (Some (outcomes.Fail d)) h k = rw (seen-free race r (x.tick + d) h.0) (le_test (x.tick + d) now h.1)

each_ended : (race : Race) → IsRace race → (now later : ℕ) (xs : List Attempt) → All (λ (x : Attempt). IfSome (outcome_of race x.ip) (EndedBy race now false x)) xs → All (λ (x : Attempt). has_failed race later x ≡ true → has_failed race now x ≡ true) xs
each_ended race r now later xs h k d lt = ended_failed race r now later (get_or xs k d) (outcome_of race (get_or xs k d).ip) (h k d lt)

-- a turn ends
all_failed : (race : Race) (now : ℕ) (xs : List Attempt) → All (λ (x : Attempt). IfSome (outcome_of race x.ip) (EndedBy race now false x)) xs → All (λ (x : Attempt). IfSome (outcome_of race x.ip) (FailedBelow race (now + 1) x)) xs
all_failed race now xs h =
    All-weaker (λ (x : Attempt). IfSome (outcome_of race x.ip) (EndedBy race now false x)) (λ (x : Attempt). IfSome (outcome_of race x.ip) (FailedBelow race (now + 1) x)) (λ x k. if_some (EndedBy race now false x) (FailedBelow race (now + 1) x) (outcome_of race x.ip) (failed_now race now x) k) xs h

pub rests-still : (race : Race) (now : ℕ) (xs : List Attempt) → InTurn race now xs false → now < race.settings.limit → ¬ MayStart race xs now → Rests race (Some now) xs
rests-still race now xs t early none = record {
  valid = t.valid;
  made = t.made;
  past = All-weaker (λ (x : Attempt). x.tick < now) (λ (x : Attempt). x.tick < now + 1) (λ x h. omega (arith, h)) xs t.past;
  over = omega (arith, t.over);
  failed = all_failed race now xs t.ended;
  after = (pauses-over race t.valid now t.over, early, none, λ later h. all-weaker (has_failed race later) (has_failed race now) xs (each_ended race t.valid now later xs t.ended) h);
  few = elim (cases_lt (taken (Some now) race + length xs) (length race.pauses)) [ inl more ↦ absurd (none (t.starts more early)) | inr few ↦ few ];
}

tried_more : (xs : List Attempt) (x : Attempt) (told : List (Ip × Outcome)) → list_all (λ (p : Ip × Outcome). is_tried xs p.0) told ≡ true → list_all (λ (p : Ip × Outcome). is_tried (xs ++ x ∷ []) p.0) told ≡ true
tried_more xs x [] h = refl
tried_more xs x (p ∷ told) h =
    let head : is_tried xs p.0 ≡ true = and_left (is_tried xs p.0) (list_all (λ (q : Ip × Outcome). is_tried xs q.0) told) h in
    let rest : list_all (λ (q : Ip × Outcome). is_tried xs q.0) told ≡ true = and_right (is_tried xs p.0) (list_all (λ (q : Ip × Outcome). is_tried xs q.0) told) h in
    and_both _ _ (list_any-append (λ (z : Attempt). same_ip z.ip p.0) xs (x ∷ []) ∙ or_left (is_tried xs p.0) (is_tried (x ∷ []) p.0) head) (tried_more xs x told rest)

pub rests-started : (race : Race) (now : ℕ) (xs all : List Attempt) → InTurn race now xs false → MayStart race xs now → MakesNext race xs all now → Rests race (Some now) all
rests-started race now xs all t may p =
    let next : IsNext race xs p.next = p.is in
    rw p.more (record {
      valid = t.valid;
      made = record { in_turn = in_turn-more race xs p.next t.made.in_turn next; tried = tried_more xs p.next race.outcomes t.made.tried };
      past = All-push (λ (x : Attempt). x.tick < now + 1) xs p.next (All-weaker (λ (x : Attempt). x.tick < now) (λ (x : Attempt). x.tick < now + 1) (λ x h. omega (arith, h)) xs t.past) (omega (arith, p.at));
      over = omega (arith, t.over);
      failed = All-push (λ (x : Attempt). IfSome (outcome_of race x.ip) (FailedBelow race (now + 1) x)) xs p.next (all_failed race now xs t.ended) (silent p.next (untold xs race.outcomes p.next.ip t.made.tried (next_untried race xs p.next next)));
      after = (pauses-over race t.valid now t.over, may.0, none next, λ later h. all-weaker (has_failed race later) (has_failed race now) (xs ++ p.next ∷ []) (All-push (λ (x : Attempt). has_failed race later x ≡ true → has_failed race now x ≡ true) xs p.next (each_ended race t.valid now later xs t.ended) (unended later p.next (untold xs race.outcomes p.next.ip t.made.tried (next_untried race xs p.next next)))) h);
      few = omega (arith, t.few, length-append xs (p.next ∷ []));
    })
  where
    silent : (x : Attempt) → outcome_of race x.ip ≡ None → IfSome (outcome_of race x.ip) (FailedBelow race (now + 1) x)
    silent x e = rw e tt

    none : IsNext race xs p.next → ¬ MayStart race (xs ++ p.next ∷ []) now
    none next m =
        omega (arith, starts-later race t.valid (xs ++ p.next ∷ []) p.next now (last_of-more xs p.next) m, p.at)

    unended : (later : ℕ) (x : Attempt) → outcome_of race x.ip ≡ None → has_failed race later x ≡ true → has_failed race now x ≡ true
    unended later x e h = let no : has_failed_by race later x.tick None ≡ true = subst (λ (o : Option Outcome). has_failed_by race later x.tick o ≡ true) e h in cc

-- an attempt that finishes in a turn ends in it
ends_at : (ok : Bool) (start now : ℕ) → start < now → start + duration_of (ended_by ok (now - start)) ≡ now
ends_at true start now lt = omega arith
ends_at false start now lt = omega arith

pub ends-one : (race new : Race) (now : ℕ) (xs : List Attempt) (won ok : Bool) (x : Attempt) → InTurn race now xs won → Contains xs x → has_outcome x.ip race.outcomes ≡ false → new ≡ with_outcome race x.ip (ended_by ok (now - x.tick)) → EndsOne race new xs x
ends-one race new now xs won ok x t at first is = record {
  made = at;
  silent = first;
  outcome = ended_by ok (now - x.tick);
  told = is;
  late = subst (λ (tick : ℕ). list_all (λ (y : Attempt). nat_lt y.tick tick) xs ≡ true) (sym (ends_at ok x.tick now (All-contains (λ (z : Attempt). z.tick < now) xs x t.past at))) (all_before now xs t.past);
}

-- an attempt finishes in a turn
pub finished : (race : Race) (now : ℕ) (xs : List Attempt) (won ok : Bool) (x : Attempt) → InTurn race now xs won → Contains xs x → outcome_of race x.ip ≡ None → has_outcome x.ip race.outcomes ≡ false → IsRace (with_outcome race x.ip (ended_by ok (now - x.tick))) → InTurn (with_outcome race x.ip (ended_by ok (now - x.tick))) now xs (won || ok)
unfolding ends-one
finished race now xs won ok x t at silent first r' = record {
  valid = r';
  made = record {
    in_turn = ends-in_turn race race' t.valid r' xs x ends t.made.in_turn;
    tried = list_all-append (λ (p : Ip × Outcome). is_tried xs p.0) race.outcomes ((x.ip, o) ∷ []) ∙ and_both _ _ t.made.tried (and_both _ _ (tried_made xs x at) refl);
  };
  past = t.past;
  over = t.over;
  ended = λ k d lt. by_ip k d lt (same_ip x.ip (get_or xs k d).ip) refl;
  stops = λ s m. elim (cases_lt s now) [ inl sooner ↦ t.stops s ((starts-below now race race' t.valid r' (outcome-below race x.ip o now) xs alike s sooner).1 m) | inr later ↦ later ];
  success = by_success ok refl won refl;
  few = t.few;
  starts = λ more early. (let may : MayStart race xs now = t.starts more early in (may.0, still_starts (last_of xs) may.1));
}
  where
    o : Outcome
    o = ended_by ok (now - x.tick)

    race' : Race
    race' = with_outcome race x.ip o

    now_free : IsFree race' now
    now_free = pauses-over race' r' now t.over

    ends : EndsOne race race' xs x
    ends = ends-one race race' now xs won ok x t at first refl

    -- before the turn attempts have failed as before
    alike : FailAlike now race race' xs
    alike = subst (λ (tick : ℕ). FailAlike tick race race' xs) (ends_at ok x.tick now (All-contains (λ (z : Attempt). z.tick < now) xs x t.past at)) (ends-alike race race' t.valid xs x ends t.made.in_turn)

    -- as long as it runs no start is by the floor
    still_waited : (last : Attempt) → HasWaited race xs now last → HasWaited race' xs now last
    still_waited last (inl over) = inl over
    still_waited last (inr floor) = by_floor race.settings.floor floor
      where
        by_floor : (f : Option ℕ) → IsSomeAnd f (λ n. (last.tick + n ≤ now) × HaveFailed race xs now) → HasWaited race' xs now last
        by_floor None h = absurd h
        by_floor (Some n) h = absurd (clash (has_failed race now x) (at-one (has_failed race now) xs x h.1 at) (ap (has_failed_by race now x.tick) silent))

    still_starts : (last : Option Attempt) → MatchOption last (MayBegin race now) (MayFollow race xs now) → MatchOption last (MayBegin race' now) (MayFollow race' xs now)
    still_starts None m = m
    still_starts (Some last) m = record { free = m.free; waited = still_waited last m.waited; some = m.some }

    wider : (y : Attempt) (out : Outcome) → EndedBy race now won y out → EndedBy race' now (won || ok) y out
    wider y (outcomes.Ok d) h = (or_left _ _ h.0, h.1)
    wider y (outcomes.Fail d) h = h

    own : (ok : Bool) → x.tick < now → EndedBy (with_outcome race x.ip (ended_by ok (now - x.tick))) now (won || ok) x (ended_by ok (now - x.tick))
    own true lt = (or_right won true refl, omega arith)
    own false lt = let e : x.tick + (now - x.tick) ≡ now = omega arith in (rw e (pauses-over race t.valid now t.over), omega arith)

    by_ip : (k : ℕ) (d : Attempt) → k < length xs → (b : Bool) → same_ip x.ip (get_or xs k d).ip ≡ b → IfSome (outcome_of race' (get_or xs k d).ip) (EndedBy race' now (won || ok) (get_or xs k d))
    by_ip k d lt true e =
        let P : Attempt → Type 0 = λ z. IfSome (outcome_of race' z.ip) (EndedBy race' now (won || ok) z) in
        let told : outcome_of race' x.ip ≡ Some o = outcome-own race x.ip o first in
        subst P (sym (one_attempt race xs t.made.in_turn x at k d lt e)) (rw told (own ok (All-contains (λ (z : Attempt). z.tick < now) xs x t.past at)))
    by_ip k d lt false e =
        rw (outcome-others race x.ip (get_or xs k d).ip o e) (if_some (EndedBy race now won (get_or xs k d)) (EndedBy race' now (won || ok) (get_or xs k d)) (outcome_of race (get_or xs k d).ip) (wider (get_or xs k d)) (t.ended k d lt))

    kept : HasSuccess race xs → HasSuccess race' xs
    kept h = by_same (same_ip x.ip h.x.ip) refl
      where
        by_same : (b : Bool) → same_ip x.ip h.x.ip ≡ b → HasSuccess race' xs
        by_same true e = let none : Some (outcomes.Ok h.duration) ≡ None = sym h.success ∙ (ap (outcome_of race) (sym (same_ip-is x.ip h.x.ip e)) ∙ silent) in cc
        by_same false e = record { x = h.x; made = h.made; duration = h.duration; success = outcome-others race x.ip h.x.ip o e ∙ h.success }

    by_success : (a : Bool) → ok ≡ a → (b : Bool) → won ≡ b → (won || ok) ≡ true → HasSuccess race' xs
    by_success true e b f h = record { x = x; made = at; duration = now - x.tick; success = outcome-own race x.ip o first ∙ ap (λ (v : Bool). Some (ended_by v (now - x.tick))) e }
    by_success false e true f h = kept (t.success f)
    by_success false e false f h = absurd (let no : false ≡ true = sym (rw (f, e) refl) ∙ h in not_won no)

pub none_yet : (race : Race) (now tick : ℕ) (xs : List Attempt) → IsLeast (MayStart race xs) tick → now < tick → ¬ MayStart race xs now
none_yet race now tick xs is late m = let k : tick ≤ now = is.least now m in omega arith

-- an attempt that is due starts in the turn
pub rests-ok : {E : Type 0} (race : Race) (now tick : ℕ) (xs all : List Attempt) → InTurn race now xs false → IsLeast (MayStart race xs) tick → tick ≤ now → (r : Result (Unit {0}) E) → OnOk r (MakesNext race xs all tick) → OnOk r (Rests race (Some now) all)
rests-ok race now tick xs all t is by (Ok done) m =
    let same : tick ≡ now = (let k : now ≤ tick = t.stops tick is.holds in omega arith) in
    rests-started race now xs all t (subst (MayStart race xs) same is.holds) (subst (MakesNext race xs all) same m)
rests-ok race now tick xs all t is by (Err f) m = tt

pub begins-slept : {E : Type 0} (race new : Race) (turn : Option ℕ) (xs : List Attempt) (due now : ℕ) → Rests race turn xs → IsDueTick race turn xs due → first_after turn ≤ now → due < now → (r : Result (Unit {0}) E) → OnOk r (new ≡ with_pause race due now) → OnOk r (IsRace new) → OnOk r (Begins new now xs)
begins-slept race new turn xs due now rest is up late (Ok done) e v = rw e (begins-late race turn xs due now rest is up late (subst IsRace e v))
begins-slept race new turn xs due now rest is up late (Err f) e v = tt

pub underway-ok : {E : Type 0} (race new : Race) (turn : Option ℕ) (u : Progress) (due now : ℕ) → Rests race turn u.attempts → IsDueTick race turn u.attempts due → IsUnderway race u → (r : Result (Unit {0}) E) → OnOk r (new ≡ with_pause race due now) → OnOk r (Begins new now u.attempts) → OnOk r (IsUnderway new u)
underway-ok race new turn u due now rest is p (Ok done) e b =
    let base : first_after turn ≤ due = due_later race rest.valid turn u.attempts due rest.after is.holds in
    let in_turn : AreNextInTurn (with_pause race due now) u.attempts = subst (λ (x : Race). AreNextInTurn x u.attempts) e b.in_turn.made.in_turn in
    let r' : IsRace (with_pause race due now) = subst IsRace e b.in_turn.valid in
    let agree : AgreeBelow due race (with_pause race due now) = pause-below race due now in
    let fates : All (λ (x : Attempt). fate_of race x ≡ fate_of (with_pause race due now) x) u.attempts =
    λ k d lt. fate_kept race (with_pause race due now) rest.valid r' refl (first_after turn) (turn_early turn rest.after) (get_or u.attempts k d) refl (λ t below free. (agree.free t (omega (arith, base))).0 free) (outcome_of race (get_or u.attempts k d).ip) refl (rest.failed k d lt) in
    rw e (underway-slept race due now u (All-weaker (λ (x : Attempt). x.tick < first_after turn) (λ (x : Attempt). x.tick < due) (λ x h. omega (arith, h)) u.attempts rest.past) fates in_turn p)
  where
    turn_early : (turn : Option ℕ) → IsAfterTurn race turn u.attempts → first_after turn ≤ race.settings.limit + 1
    turn_early None after = omega arith
    turn_early (Some n) after = omega (arith, after.1)
underway-ok race new turn u due now rest is p (Err f) e b = tt

pub rests-new : (race given : Race) → IsRace race → race ≡ unrecorded given → Rests race None []
rests-new race given r e = record {
  valid = r;
  made = record { in_turn = in_turn-none race; tried = ap (λ (x : Race). list_all (λ (p : Ip × Outcome). is_tried [] p.0) x.outcomes) e };
  past = All-nil (λ (x : Attempt). x.tick < 0);
  over = let o : last_end race.pauses ≡ 0 = ap (λ (x : Race). last_end x.pauses) e in omega arith;
  failed = All-nil (λ (x : Attempt). IfSome (outcome_of race x.ip) (FailedBelow race 0 x));
  after = tt;
  few = let none : length race.pauses ≡ 0 = ap (λ (x : Race). length x.pauses) e in omega (arith, none);
}

-- An attempt that was made ends: no other one is of its address, so what became of the others stays.
use Rattle.std.proofs.Common.{◌≡◌, ℕ, zero, suc, ◌+◌, ◌≤◌, ◌<◌, ◌||◌, ◌++◌, Bool, true, false, not, List, [], ◌∷◌, find, if◌then◌else◌, length, map, max, set, take, get_or, Some, None, IfSome, refl, sym, ◌∙◌, ap, subst, arith, length-take}
use Rattle.std.specs.List.{Contains, list_all, list_any, slice_get}
use Rattle.std.specs.Option.{option_map}
use Rattle.std.proofs.lemmas.List.Folds.{list_any-append}
use Rattle.he_addr.specs.Ip.{same_ip}
use Rattle.he_addr.specs.declared.ip.Ip.{Ip}
use Rattle.he_plan.specs.declared.attempts.Attempt.{Attempt}
use Rattle.he_plan.specs.declared.finish.Fate.{Fate}
use Rattle.he_plan.specs.declared.finish.Fate.TheVariants.{Succeeded, Failed, Running, Skipped}
use Rattle.he_timeline.specs.declared.limits.TheConstants.{MAX_LIMIT}
use Rattle.he_timeline.specs.declared.outcome.Outcome.{Outcome}
use Rattle.he_timeline.specs.declared.outcome.Outcome.TheVariants as outcomes
use Rattle.he_plan.specs.Agreement.{AgreeBelow, FailAlike}
use Rattle.he_plan.specs.Attempts.{AreNextInTurn, IsNext, finish_of, has_failed, has_failed_by, is_tried, is_untried, last_of, order_at}
use Rattle.he_timeline.specs.Seen.{IsSeen}
use Rattle.he_timeline.specs.Race.{outcome_in, outcome_of, Race, has_outcome}
use Rattle.he_timeline.specs.Building.{with_outcome}
use Rattle.he_plan.specs.Continuing.{Follow}
use Rattle.he_plan.specs.Finish.{fate_by, fate_of}
use Rattle.he_plan.specs.Planning.{all_failed}
use Rattle.he_timeline.specs.Timeline.{IsRace, duration_of}
use Rattle.he_plan.specs.Transcript.{failures, greatest, is_failed}
use Rattle.he_plan.specs.RaceState.{AreFates, EndsOne, IsQueue, IsUnderway, Progress, UntriedValues, counted}
use Rattle.he_plan.proofs.Agreeing.{in_turn-below}
use Rattle.he_timeline.proofs.Bools.{clash, not_le, or_left, or_left_none, or_none, or_right_none}
use Rattle.he_plan.proofs.Distinct.{same_ip-is, same_ip-self}
use Rattle.he_plan.proofs.Few.{found_passes}
use Rattle.he_plan.proofs.Growing.{outcome-below, outcome-others, outcome-own}
use Rattle.he_plan.proofs.InTurn.{in_turn-follow}
use Rattle.he_timeline.proofs.Ranges.{same_ip-sym}
use Rattle.he_timeline.proofs.Seen.{IsSeen-seen}

not_tried : (race : Race) (done : List Attempt) (next : Attempt) → IsNext race done next → is_tried done next.ip ≡ false
not_tried race done next is = by_test (is_tried done next.ip) (found_passes (is_untried done) (order_at race next.tick) next.ip is.ip)
  where
    by_test : (b : Bool) → not b ≡ true → b ≡ false
    by_test true h = cc
    by_test false h = refl

-- one of these attempts is no address that was tried before
none_tried : (race : Race) (done xs : List Attempt) (ip : Ip) → Follow race done xs → is_tried done ip ≡ true → list_any (λ (z : Attempt). same_ip ip z.ip) xs ≡ false
none_tried race done [] ip f tried = refl
none_tried race done (next ∷ xs) ip f tried =
    or_none _ _ (by_ip (same_ip ip next.ip) refl)
    (none_tried race (done ++ next ∷ []) xs ip f.1 (list_any-append (λ (z : Attempt). same_ip z.ip ip) done (next ∷ []) ∙ or_left _ _ tried))
  where
    by_ip : (b : Bool) → same_ip ip next.ip ≡ b → b ≡ false
    by_ip false e = refl
    by_ip true e = absurd (clash (is_tried done ip) tried (ap (is_tried done) (same_ip-is ip next.ip e) ∙ not_tried race done next f.0))

untried_at : (race : Race) (done xs : List Attempt) (k : ℕ) (x : Attempt) → Follow race done xs → slice_get xs k ≡ Some x → is_tried done x.ip ≡ false
untried_at race done [] k x f h = cc
untried_at race done (y ∷ xs) zero x f h = let same : y ≡ x = cc in subst (λ (z : Attempt). is_tried done z.ip ≡ false) same (not_tried race done y f.0)
untried_at race done (y ∷ xs) (suc k) x f h =
    or_left_none _ _ (sym (list_any-append (λ (z : Attempt). same_ip z.ip x.ip) done (y ∷ [])) ∙ untried_at race (done ++ y ∷ []) xs k x f.1 h)

-- the attempt stands at this place, and no other one is of its address
abbrev pub IsAlone : Attempt → List Attempt → ℕ → Type 0
IsAlone x [] k = ⊥
IsAlone x (y ∷ xs) zero = (y ≡ x) × (list_any (λ z. same_ip x.ip z.ip) xs ≡ false)
IsAlone x (y ∷ xs) (suc k) = (same_ip x.ip y.ip ≡ false) × IsAlone x xs k

alone_from : (race : Race) (done xs : List Attempt) (k : ℕ) (x : Attempt) → Follow race done xs → slice_get xs k ≡ Some x → IsAlone x xs k
alone_from race done [] k x f h = cc
alone_from race done (y ∷ xs) zero x f h =
    let same : y ≡ x = cc in
    let tried : is_tried (done ++ y ∷ []) x.ip ≡ true = list_any-append (λ (z : Attempt). same_ip z.ip x.ip) done (y ∷ []) ∙ last_tried (is_tried done x.ip) (same_ip y.ip x.ip) (ap (λ (z : Attempt). same_ip z.ip x.ip) same ∙ same_ip-self x.ip) in
    (same, none_tried race (done ++ y ∷ []) xs x.ip f.1 tried)
  where
    last_tried : (a b : Bool) → b ≡ true → (a || (b || false)) ≡ true
    last_tried true b e = refl
    last_tried false b e = rw e refl
alone_from race done (y ∷ xs) (suc k) x f h =
    let apart : (is_tried done x.ip || (same_ip y.ip x.ip || false)) ≡ false = sym (list_any-append (λ (z : Attempt). same_ip z.ip x.ip) done (y ∷ [])) ∙ untried_at race (done ++ y ∷ []) xs k x f.1 h in
    (same_ip-sym x.ip y.ip ∙ or_left_none _ _ (or_right_none _ _ apart), alone_from race (done ++ y ∷ []) xs k x f.1 h)

get_some : (xs : List Attempt) (k : ℕ) (x : Attempt) → k < length xs → get_or xs k x ≡ x → slice_get xs k ≡ Some x
get_some [] k x lt e = absurd (let no : ⊥ = omega arith in no)
get_some (y ∷ xs) zero x lt e = ap Some e
get_some (y ∷ xs) (suc k) x lt e = get_some xs k x (omega arith) e

-- an attempt that was made is alone at its place
pub alone : (race : Race) (xs : List Attempt) (x : Attempt) → AreNextInTurn race xs → Contains xs x → IsAlone x xs x.place
alone race xs x in_turn at =
    let here : slice_get xs at.0 ≡ Some x = get_some xs at.0 x at.1 at.2 in
    let place : x.place ≡ length (take at.0 xs) = (in_turn at.0 x here).place in
    let is : at.0 ≡ x.place = omega (arith, place, length-take at.0 xs, at.1) in
    subst (λ (k : ℕ). IsAlone x xs k) is (alone_from race [] xs at.0 x (in_turn-follow race xs in_turn) here)

-- an address without an outcome is silent
silent_is : (told : List (Ip × Outcome)) (ip : Ip) → has_outcome ip told ≡ false → outcome_in told ip ≡ None
silent_is [] ip none = refl
silent_is (p ∷ told) ip none = by_head (same_ip p.0 ip) (or_left_none _ _ none) (silent_is told ip (or_right_none _ _ none))
  where
    by_head : (b : Bool) → b ≡ false → outcome_in told ip ≡ None → option_map (λ (q : Ip × Outcome). q.1) (if b then Some p else find (λ (q : Ip × Outcome). same_ip q.0 ip) told) ≡ None
    by_head true e rest = cc
    by_head false e rest = rest

-- until it ends the attempt has failed neither with the outcome nor without it
late_fails : (race : Race) → IsRace race → (t start : ℕ) (outcome : Outcome) → t < start + duration_of outcome → has_failed_by race t start (Some outcome) ≡ false
late_fails race r t start (outcomes.Ok duration) late = refl
late_fails race r t start (outcomes.Fail duration) late =
    let s : IsSeen race (start + duration) (finish_of race start duration) = IsSeen-seen race r (start + duration) in
    not_le _ _ (omega (arith, s.holds.0))

others_fail : (race : Race) (ip : Ip) (outcome : Outcome) (t : ℕ) (z : Attempt) → same_ip ip z.ip ≡ false → has_failed race t z ≡ has_failed (with_outcome race ip outcome) t z
others_fail race ip outcome t z apart = ap (has_failed_by race t z.tick) (sym (outcome-others race ip z.ip outcome apart))

rest_alike : (race : Race) (ip : Ip) (outcome : Outcome) (tick : ℕ) (xs : List Attempt) → list_any (λ (z : Attempt). same_ip ip z.ip) xs ≡ false → FailAlike tick race (with_outcome race ip outcome) xs
rest_alike race ip outcome tick [] none = tt
rest_alike race ip outcome tick (z ∷ xs) none =
    (λ t below. others_fail race ip outcome t z (or_left_none _ _ none), rest_alike race ip outcome tick xs (or_right_none _ _ none))

alike_at : (race : Race) → IsRace race → (x : Attempt) (outcome : Outcome) → has_outcome x.ip race.outcomes ≡ false → (xs : List Attempt) (k : ℕ) → IsAlone x xs k → FailAlike (x.tick + duration_of outcome) race (with_outcome race x.ip outcome) xs
alike_at race r x outcome silent [] k a = absurd a
alike_at race r x outcome silent (y ∷ xs) zero a = (
  λ t below. subst (λ (z : Attempt). has_failed race t z ≡ has_failed (with_outcome race x.ip outcome) t z) (sym a.0)
      (ap (has_failed_by race t x.tick) (silent_is race.outcomes x.ip silent)
      ∙ sym (ap (has_failed_by race t x.tick) (outcome-own race x.ip outcome silent) ∙ late_fails race r t x.tick outcome below)),
  rest_alike race x.ip outcome (x.tick + duration_of outcome) xs a.1,
)
alike_at race r x outcome silent (y ∷ xs) (suc k) a =
    (λ t below. others_fail race x.ip outcome t y a.0, alike_at race r x outcome silent xs k a.1)

pub ends-alike : (old new : Race) → IsRace old → (attempts : List Attempt) (x : Attempt) → (is : EndsOne old new attempts x) → AreNextInTurn old attempts → FailAlike (x.tick + duration_of is.outcome) old new attempts
ends-alike old new r attempts x is in_turn =
    subst (λ (race : Race). FailAlike (x.tick + duration_of is.outcome) old race attempts) (sym is.told)
    (alike_at old r x is.outcome is.silent attempts x.place (alone old attempts x in_turn is.made))

pub ends-in_turn : (old new : Race) → IsRace old → IsRace new → (attempts : List Attempt) (x : Attempt) → EndsOne old new attempts x → AreNextInTurn old attempts → AreNextInTurn new attempts
ends-in_turn old new r r' attempts x is in_turn =
    in_turn-below (x.tick + duration_of is.outcome) old new r r'
    (subst (λ (race : Race). AgreeBelow (x.tick + duration_of is.outcome) old race) (sym is.told) (outcome-below old x.ip is.outcome (x.tick + duration_of is.outcome)))
    attempts (ends-alike old new r attempts x is in_turn) is.late in_turn

-- what became of the others stays
others_fates : (race : Race) (ip : Ip) (outcome : Outcome) (xs : List Attempt) → list_any (λ (z : Attempt). same_ip ip z.ip) xs ≡ false → map (fate_of (with_outcome race ip outcome)) xs ≡ map (fate_of race) xs
others_fates race ip outcome [] none = refl
others_fates race ip outcome (z ∷ xs) none =
    let here : outcome_of (with_outcome race ip outcome) z.ip ≡ outcome_of race z.ip = outcome-others race ip z.ip outcome (or_left_none _ _ none) in
    let rest : map (fate_of (with_outcome race ip outcome)) xs ≡ map (fate_of race) xs = others_fates race ip outcome xs (or_right_none _ _ none) in
    ap (λ (fate : Fate). fate ∷ map (fate_of (with_outcome race ip outcome)) xs) (ap (fate_by race z.tick) here) ∙ ap (λ (fates : List Fate). fate_of race z ∷ fates) rest

fates_at : (race : Race) (x : Attempt) (outcome : Outcome) (xs : List Attempt) (k : ℕ) → IsAlone x xs k → map (fate_of (with_outcome race x.ip outcome)) xs ≡ set (map (fate_of race) xs) k (fate_of (with_outcome race x.ip outcome) x)
fates_at race x outcome [] k a = absurd a
fates_at race x outcome (y ∷ xs) zero a =
    ap (λ (z : Attempt). fate_of (with_outcome race x.ip outcome) z ∷ map (fate_of (with_outcome race x.ip outcome)) xs) a.0
    ∙ ap (λ (fates : List Fate). fate_of (with_outcome race x.ip outcome) x ∷ fates) (others_fates race x.ip outcome xs a.1)
fates_at race x outcome (y ∷ xs) (suc k) a =
    let here : outcome_of (with_outcome race x.ip outcome) y.ip ≡ outcome_of race y.ip = outcome-others race x.ip y.ip outcome a.0 in
    ap (λ (fate : Fate). fate ∷ map (fate_of (with_outcome race x.ip outcome)) xs) (ap (fate_by race y.tick) here)
    ∙ ap (λ (fates : List Fate). fate_of race y ∷ fates) (fates_at race x outcome xs k a.1)

-- and it still ran
ran_at : (race : Race) (x : Attempt) (xs : List Attempt) (k : ℕ) → has_outcome x.ip race.outcomes ≡ false → IsAlone x xs k → slice_get (map (fate_of race) xs) k ≡ Some Running
ran_at race x [] k silent a = absurd a
ran_at race x (y ∷ xs) zero silent a =
    ap Some (ap (fate_of race) a.0 ∙ ap (fate_by race x.tick) (silent_is race.outcomes x.ip silent))
ran_at race x (y ∷ xs) (suc k) silent a = ran_at race x xs k silent a.1

-- failures are counted
pub few_failures : (fates : List Fate) → length (failures fates) ≤ length fates
few_failures [] = omega arith
few_failures (Failed finish ∷ fates) = omega (arith, few_failures fates)
few_failures (Succeeded finish ∷ fates) = omega (arith, few_failures fates)
few_failures (Running ∷ fates) = omega (arith, few_failures fates)
few_failures (Skipped ∷ fates) = omega (arith, few_failures fates)

pub fewer_failures : (fates : List Fate) (k : ℕ) → slice_get fates k ≡ Some Running → length (failures fates) < length fates
fewer_failures [] k h = cc
fewer_failures (Running ∷ fates) zero h = omega (arith, few_failures fates)
fewer_failures (Failed finish ∷ fates) zero h = cc
fewer_failures (Succeeded finish ∷ fates) zero h = cc
fewer_failures (Skipped ∷ fates) zero h = cc
fewer_failures (Failed finish ∷ fates) (suc k) h = omega (arith, fewer_failures fates k h)
fewer_failures (Succeeded finish ∷ fates) (suc k) h = omega (arith, fewer_failures fates k h)
fewer_failures (Running ∷ fates) (suc k) h = omega (arith, fewer_failures fates k h)
fewer_failures (Skipped ∷ fates) (suc k) h = omega (arith, fewer_failures fates k h)

-- these fates have one more in place of one that was no failure
record IsCounted (old new : List Fate) (fate : Fate) : Type 0 where
  failed : (u : Progress) → u.failed ≡ length (failures old) → (counted u fate).failed ≡ length (failures new)
  latest : (u : Progress) → u.latest ≡ greatest (failures old) → (counted u fate).latest ≡ greatest (failures new)

-- what is counted, by the failures
counted_by : (old new : List Fate) (fate : Fate) → length (failures new) ≡ length (failures (fate ∷ old)) → greatest (failures new) ≡ greatest (failures (fate ∷ old)) → IsCounted old new fate
counted_by old new (Failed finish) count last = record {
  failed = λ u e. omega (arith, e, count);
  latest = λ u e. omega (arith, e, last);
}
counted_by old new (Succeeded finish) count last = record { failed = λ u e. e ∙ sym count; latest = λ u e. e ∙ sym last }
counted_by old new Running count last = record { failed = λ u e. e ∙ sym count; latest = λ u e. e ∙ sym last }
counted_by old new Skipped count last = record { failed = λ u e. e ∙ sym count; latest = λ u e. e ∙ sym last }

-- the failures of one more fate at the front of a list, in numbers
abbrev count_of : Fate → ℕ
count_of (Failed finish) = 1
count_of _ = 0

abbrev tick_of : Fate → ℕ
tick_of (Failed finish) = finish
tick_of _ = 0

count_front : (fate : Fate) (fates : List Fate) → length (failures (fate ∷ fates)) ≡ count_of fate + length (failures fates)
count_front (Failed finish) fates = omega arith
count_front (Succeeded finish) fates = omega arith
count_front Running fates = omega arith
count_front Skipped fates = omega arith

tick_front : (fate : Fate) (fates : List Fate) → greatest (failures (fate ∷ fates)) ≡ max (tick_of fate) (greatest (failures fates))
tick_front (Failed finish) fates = omega arith
tick_front (Succeeded finish) fates = omega arith
tick_front Running fates = omega arith
tick_front Skipped fates = omega arith

count_last : (fates : List Fate) (fate : Fate) → length (failures (fates ++ fate ∷ [])) ≡ count_of fate + length (failures fates)
count_last [] fate = count_front fate []
count_last (y ∷ fates) fate = omega (arith, count_front y (fates ++ fate ∷ []), count_front y fates, count_last fates fate)

tick_last : (fates : List Fate) (fate : Fate) → greatest (failures (fates ++ fate ∷ [])) ≡ max (tick_of fate) (greatest (failures fates))
tick_last [] fate = tick_front fate []
tick_last (y ∷ fates) fate = omega (arith, tick_front y (fates ++ fate ∷ []), tick_front y fates, tick_last fates fate)

count_set : (fates : List Fate) (k : ℕ) (fate : Fate) → slice_get fates k ≡ Some Running → length (failures (set fates k fate)) ≡ count_of fate + length (failures fates)
count_set [] k fate h = cc
count_set (Running ∷ fates) zero fate h = count_front fate fates
count_set (Failed finish ∷ fates) zero fate h = cc
count_set (Succeeded finish ∷ fates) zero fate h = cc
count_set (Skipped ∷ fates) zero fate h = cc
count_set (y ∷ fates) (suc k) fate h = omega (arith, count_front y (set fates k fate), count_front y fates, count_set fates k fate h)

tick_set : (fates : List Fate) (k : ℕ) (fate : Fate) → slice_get fates k ≡ Some Running → greatest (failures (set fates k fate)) ≡ max (tick_of fate) (greatest (failures fates))
tick_set [] k fate h = cc
tick_set (Running ∷ fates) zero fate h = tick_front fate fates
tick_set (Failed finish ∷ fates) zero fate h = cc
tick_set (Succeeded finish ∷ fates) zero fate h = cc
tick_set (Skipped ∷ fates) zero fate h = cc
tick_set (y ∷ fates) (suc k) fate h = omega (arith, tick_front y (set fates k fate), tick_front y fates, tick_set fates k fate h)

more_counted : (fates : List Fate) (fate : Fate) → IsCounted fates (fates ++ fate ∷ []) fate
more_counted fates fate = counted_by fates (fates ++ fate ∷ []) fate (count_last fates fate ∙ sym (count_front fate fates)) (tick_last fates fate ∙ sym (tick_front fate fates))

set_counted : (fates : List Fate) (k : ℕ) (fate : Fate) → slice_get fates k ≡ Some Running → IsCounted fates (set fates k fate) fate
set_counted fates k fate h = counted_by fates (set fates k fate) fate (count_set fates k fate h ∙ sym (count_front fate fates)) (tick_set fates k fate h ∙ sym (tick_front fate fates))

-- a race under way, once a fate is counted
counted-under : (race : Race) (w : Progress) (fate : Fate) → AreNextInTurn race w.attempts → IfSome (last_of w.attempts) (λ last. last.tick ≤ MAX_LIMIT) → AreFates race w → (counted w fate).failed ≡ length (failures w.fates) → (counted w fate).latest ≡ greatest (failures w.fates) → IsQueue race w.attempts w.queue → IsUnderway race (counted w fate)
counted-under race w (Failed finish) in_turn in_range fates failed latest queue = record { in_turn = in_turn; in_range = in_range; fates = fates; failed = failed; latest = latest; queue = queue }
counted-under race w (Succeeded finish) in_turn in_range fates failed latest queue = record { in_turn = in_turn; in_range = in_range; fates = fates; failed = failed; latest = latest; queue = queue }
counted-under race w Running in_turn in_range fates failed latest queue = record { in_turn = in_turn; in_range = in_range; fates = fates; failed = failed; latest = latest; queue = queue }
counted-under race w Skipped in_turn in_range fates failed latest queue = record { in_turn = in_turn; in_range = in_range; fates = fates; failed = failed; latest = latest; queue = queue }

pub fates_more : (race : Race) (done : List Attempt) (x : Attempt) → map (fate_of race) done ++ fate_of race x ∷ [] ≡ map (fate_of race) (done ++ x ∷ [])
fates_more race [] x = refl
fates_more race (y ∷ done) x = ap (λ fates. fate_of race y ∷ fates) (fates_more race done x)

abbrev pub with_start : Progress → Attempt → Fate → UntriedValues → Progress
with_start u x fate queue = record { attempts = u.attempts ++ x ∷ []; fates = u.fates ++ fate ∷ []; failed = u.failed; latest = u.latest; queue = queue }

pub underway-started : (race : Race) (u : Progress) (x : Attempt) (queue : UntriedValues) → IsUnderway race u → AreNextInTurn race (u.attempts ++ x ∷ []) → IfSome (last_of (u.attempts ++ x ∷ [])) (λ last. last.tick ≤ MAX_LIMIT) → IsQueue race (u.attempts ++ x ∷ []) queue → IsUnderway race (counted (with_start u x (fate_of race x) queue) (fate_of race x))
underway-started race u x queue under in_turn in_range is =
    let c : IsCounted u.fates (u.fates ++ fate_of race x ∷ []) (fate_of race x) = more_counted u.fates (fate_of race x) in
    counted-under race (with_start u x (fate_of race x) queue) (fate_of race x) in_turn in_range
    (ap (λ (fates : List Fate). fates ++ fate_of race x ∷ []) under.fates ∙ fates_more race u.attempts x)
    (c.failed (with_start u x (fate_of race x) queue) under.failed)
    (c.latest (with_start u x (fate_of race x) queue) under.latest) is

-- all failed where as many failed as there are
pub all_failed-some : (fates : List Fate) → length (failures fates) ≡ length fates → all_failed fates ≡ Some (greatest (failures fates))
all_failed-some fates h = let all : list_all is_failed fates ≡ true = all_by fates h in rw all refl
  where
    all_by : (fates : List Fate) → length (failures fates) ≡ length fates → list_all is_failed fates ≡ true
    all_by [] h = refl
    all_by (Failed finish ∷ fates) h = all_by fates (omega arith)
    all_by (Succeeded finish ∷ fates) h = absurd (let no : ⊥ = omega (arith, few_failures fates) in no)
    all_by (Running ∷ fates) h = absurd (let no : ⊥ = omega (arith, few_failures fates) in no)
    all_by (Skipped ∷ fates) h = absurd (let no : ⊥ = omega (arith, few_failures fates) in no)

pub all_failed-none : (fates : List Fate) → (length (failures fates) ≡ length fates → ⊥) → all_failed fates ≡ None
all_failed-none fates h = by_all (list_all is_failed fates) refl
  where
    count_by : (fates : List Fate) → list_all is_failed fates ≡ true → length (failures fates) ≡ length fates
    count_by [] all = refl
    count_by (Failed finish ∷ fates) all = ap suc (count_by fates all)
    count_by (Succeeded finish ∷ fates) all = cc
    count_by (Running ∷ fates) all = cc
    count_by (Skipped ∷ fates) all = cc

    by_all : (b : Bool) → list_all is_failed fates ≡ b → (if b then Some (greatest (failures fates)) else None) ≡ None
    by_all false e = refl
    by_all true e = absurd (h (count_by fates e))

-- a race under way, after an attempt has ended
pub underway-ran : (old new : Race) → (u : Progress) (x : Attempt) → IsUnderway old u → EndsOne old new u.attempts x → slice_get u.fates x.place ≡ Some Running
underway-ran old new u x under is =
    ap (λ (fates : List Fate). slice_get fates x.place) under.fates ∙ ran_at old x u.attempts x.place is.silent (alone old u.attempts x under.in_turn is.made)

queue_told : (race : Race) (ip : Ip) (outcome : Outcome) (done : List Attempt) (queue : UntriedValues) → IsQueue race done queue → IsQueue (with_outcome race ip outcome) done queue
queue_told race ip outcome done queue is = record {
  rest = record { members = is.rest.members; own_six = is.rest.own_six; own_four = is.rest.own_four; rest = is.rest.rest; sorted = is.rest.sorted };
  six = is.six;
  four = is.four;
}

abbrev pub with_end : Progress → ℕ → Fate → Progress
with_end u place fate = record u { fates = set u.fates place fate }

pub underway-ended : (old new : Race) → IsRace old → IsRace new → (u : Progress) (x : Attempt) → IsUnderway old u → EndsOne old new u.attempts x → IsUnderway new (counted (with_end u x.place (fate_of new x)) (fate_of new x))
underway-ended old new r r' u x under is =
    let ran : slice_get u.fates x.place ≡ Some Running = underway-ran old new u x under is in
    let c : IsCounted u.fates (set u.fates x.place (fate_of new x)) (fate_of new x) = set_counted u.fates x.place (fate_of new x) ran in
    let told : map (fate_of new) u.attempts ≡ set (map (fate_of old) u.attempts) x.place (fate_of new x) =
    subst (λ (race : Race). map (fate_of race) u.attempts ≡ set (map (fate_of old) u.attempts) x.place (fate_of race x)) (sym is.told)
    (fates_at old x is.outcome u.attempts x.place (alone old u.attempts x under.in_turn is.made)) in
    counted-under new (with_end u x.place (fate_of new x)) (fate_of new x)
    (ends-in_turn old new r r' u.attempts x is under.in_turn)
    under.in_range
    (ap (λ (xs : List Fate). set xs x.place (fate_of new x)) under.fates ∙ sym told)
    (c.failed (with_end u x.place (fate_of new x)) under.failed)
    (c.latest (with_end u x.place (fate_of new x)) under.latest)
    (subst (λ (race : Race). IsQueue race u.attempts u.queue) (sym is.told) (queue_told old x.ip is.outcome u.attempts u.queue under.queue))

-- An attempt's cause is what it waited for.
use Rattle.std.proofs.Common.{◌≡◌, ℕ, ◌+◌, ◌<◌, ◌≤◌, ◌&&◌, ◌||◌, ◌⊎◌, Bool, true, false, List, [], ◌∷◌, if◌then◌else◌, refl, sym, ◌∙◌, subst, arith, inl, inr, max, nat_le, nat_lt}
use Rattle.std.specs.Prelude.{Option, None, Some, MatchOption, IsSomeAnd, IsTrue, IsFalse}
use Rattle.std.specs.List.{list_any}
use Rattle.std.proofs.lemmas.Bool.{cases_lt}
use Rattle.he_addr.specs.Ip.{family_of, is_usable}
use Rattle.he_plan.specs.declared.attempts.Attempt.{Attempt}
use Rattle.he_plan.specs.Attempts.{HasWaited, HaveFailed, IsAnswered, IsPositive, MayBegin, MayFollow, MayStart, is_untried, last_of, received}
use Rattle.he_timeline.specs.Seen.{IsFree, IsLeast, IsSeen, seen, seen_past}
use Rattle.he_timeline.specs.Race.{Race, Reply, reply_of}
use Rattle.he_timeline.specs.Timeline.{IsRace}
use Rattle.he_timeline.proofs.Bools.{and_both, and_left, and_right, clash, lt_from, lt_test, not_lt}
use Rattle.he_timeline.proofs.Seen.{IsSeen-seen}
use Rattle.he_course.specs.declared.cause.Cause.{Cause}
use Rattle.he_course.specs.declared.cause.Cause.TheVariants.{AaaaAnswer, BothAnswers, ResolutionDelay, AttemptDelay, Floor, LastFailure, LaterAnswer}
use Rattle.he_course.specs.Causes.{cause_of, due_of, first_cause_by, floor_cause, last_failure, later_cause, tick_of, was_floor_over}
use Rattle.he_course.specs.Laws.{CausesStand, DuesStand, IsByFloor, IsCausedBy, IsFirstWait, IsLaterBy}
use Rattle.he_course.proofs.LaterLaws.{CameFrom, later_seen, own_answer, some_at}
use Rattle.he_course.proofs.FloorLaws.{IsFailure, all_from, last_by, seen_max, seen_more}

-- a tick is not seen before it
pub not_sooner : (pauses : List (ℕ × ℕ)) (x : ℕ) → x ≤ seen_past pauses x
not_sooner [] x = omega arith
not_sooner (p ∷ pauses) x = past (nat_le p.0 x && nat_lt x p.1) refl (not_sooner pauses p.1) (not_sooner pauses x)
  where
    past : (b : Bool) → (nat_le p.0 x && nat_lt x p.1) ≡ b → p.1 ≤ seen_past pauses p.1 → x ≤ seen_past pauses x → x ≤ seen_past pauses (if b then p.1 else x)
    past true e end here = omega (arith, lt_from x p.1 (and_right (nat_le p.0 x) (nat_lt x p.1) e), end)
    past false e end here = here

pub never_before : (race : Race) (x t : ℕ) → t ≤ x → nat_lt (seen race x) t ≡ false
never_before race x t h = not_lt (seen race x) t (omega (arith, h, not_sooner race.pauses x))

pub not_before : (m n : ℕ) → nat_lt m n ≡ false → n ≤ m
not_before m n e = elim (cases_lt m n) [ inl less ↦ absurd (clash (nat_lt m n) (lt_test m n less) e) | inr more ↦ more ]

some_same : (m n : ℕ) → Some m ≡ Some n → m ≡ n
some_same m n e = cc

-- the race may begin at t, where these are its answers
abbrev BeginsAt : Race → Option Reply → Option Reply → ℕ → Type 0
BeginsAt race aaaa a t =
    IsFree race t
    × (IsPositive race t aaaa ⊎ (IsPositive race t a × (IsAnswered race t aaaa ⊎ IsSomeAnd a (λ r. seen race (r.tick + race.settings.resolution) ≤ t))))

-- the first attempt's cause, where these are the answers
abbrev FirstBy : Race → Option Reply → Option Reply → ℕ → Cause → Type 0
FirstBy race aaaa a t AaaaAnswer = IsSomeAnd aaaa (λ r. IsTrue (list_any is_usable r.addresses) × (seen race r.tick ≡ t))
FirstBy race aaaa a t BothAnswers =
    IsSomeAnd aaaa (λ six. IsFalse (list_any is_usable six.addresses)
    × IsSomeAnd a (λ four. IsTrue (list_any is_usable four.addresses) × (max (seen race six.tick) (seen race four.tick) ≡ t)))
FirstBy race aaaa a t ResolutionDelay =
    ¬ IsAnswered race t aaaa
    × IsSomeAnd a (λ r. IsTrue (list_any is_usable r.addresses) × (seen race (r.tick + race.settings.resolution) ≡ t))
FirstBy race aaaa a t (AttemptDelay place delay) = ⊥
FirstBy race aaaa a t (Floor place floor) = ⊥
FirstBy race aaaa a t (LastFailure tick) = ⊥
FirstBy race aaaa a t (LaterAnswer family) = ⊥

answered : (race : Race) (t : ℕ) (reply : Option Reply) → IsPositive race t reply → IsAnswered race t reply
answered race t None p = absurd p
answered race t (Some r) p = p.1

-- the Resolution Delay begins the race
delayed : (race : Race) → IsRace race → (aaaa a : Option Reply) (t : ℕ) → ((s : ℕ) → BeginsAt race aaaa a s → t ≤ s)
    → ¬ IsAnswered race t aaaa → IsPositive race t a → IsSomeAnd a (λ r. seen race (r.tick + race.settings.resolution) ≤ t)
    → FirstBy race aaaa a t ResolutionDelay
delayed race r aaaa None t least none pa over = absurd pa
delayed race r aaaa (Some four) t least none pa over =
    let s : ℕ = seen race (four.tick + race.settings.resolution) in
    let here : IsSeen race (four.tick + race.settings.resolution) s = IsSeen-seen race r (four.tick + race.settings.resolution) in
    let own : IsSeen race four.tick (seen race four.tick) = IsSeen-seen race r four.tick in
    let come : seen race four.tick ≤ s = own.least s (omega (arith, here.holds.0), here.holds.1) in
    let last : t ≤ s = least s (here.holds.1, inr ((pa.0, come), inr (omega arith))) in
    (none, (pa.0, omega (arith, last, over)))

delayed_by : (race : Race) → IsRace race → (aaaa a : Option Reply) (t : ℕ) → BeginsAt race aaaa a t → ((s : ℕ) → BeginsAt race aaaa a s → t ≤ s)
    → ¬ IsAnswered race t aaaa → FirstBy race aaaa a t ResolutionDelay
delayed_by race r aaaa a t now least none =
    elim now.1 [
      | inl p ↦ absurd (none (answered race t aaaa p))
      | inr q ↦ elim q.1 [
        | inl is ↦ absurd (none is)
        | inr over ↦ delayed race r aaaa a t least none q.0 over
      ]
    ]

-- both answers begin it, the AAAA answer without a usable address
both_by : (race : Race) → IsRace race → (six : Reply) (a : Option Reply) (t : ℕ) → BeginsAt race (Some six) a t
    → ((s : ℕ) → BeginsAt race (Some six) a s → t ≤ s) → seen race six.tick ≤ t → list_any is_usable six.addresses ≡ false
    → FirstBy race (Some six) a t BothAnswers
both_by race r six a t now least come none =
    elim now.1 [
      | inl p ↦ absurd (clash (list_any is_usable six.addresses) p.0 none)
      | inr q ↦ (none, from_a a q.0 least)
    ]
  where
    from_a : (a : Option Reply) → IsPositive race t a → ((s : ℕ) → BeginsAt race (Some six) a s → t ≤ s)
        → IsSomeAnd a (λ four. IsTrue (list_any is_usable four.addresses) × (max (seen race six.tick) (seen race four.tick) ≡ t))
    from_a None p least = absurd p
    from_a (Some four) p least =
        let s6 : ℕ = seen race six.tick in
        let s4 : ℕ = seen race four.tick in
        let is6 : IsSeen race six.tick s6 = IsSeen-seen race r six.tick in
        let is4 : IsSeen race four.tick s4 = IsSeen-seen race r four.tick in
        elim (cases_lt s6 s4) [
          | inl less ↦
              let last : t ≤ s4 = least s4 (is4.holds.1, inr ((p.0, omega arith), inl (omega (arith, less)))) in
              (p.0, omega (arith, less, last, p.1, come))
          | inr more ↦
              let last : t ≤ s6 = least s6 (is6.holds.1, inr ((p.0, more), inl (omega arith))) in
              (p.0, omega (arith, more, last, p.1, come))
        ]

first_is : (race : Race) → IsRace race → (aaaa a : Option Reply) (t : ℕ) → BeginsAt race aaaa a t → ((s : ℕ) → BeginsAt race aaaa a s → t ≤ s)
    → FirstBy race aaaa a t (first_cause_by race aaaa t)
first_is race r None a t now least = delayed_by race r None a t now least (λ is. is)
first_is race r (Some six) a t now least = by_seen (nat_lt t (seen race six.tick)) refl
  where
    by_usable : (b : Bool) → list_any is_usable six.addresses ≡ b → seen race six.tick ≤ t → FirstBy race (Some six) a t (if b then AaaaAnswer else BothAnswers)
    by_usable true e come =
        let is6 : IsSeen race six.tick (seen race six.tick) = IsSeen-seen race r six.tick in
        let last : t ≤ seen race six.tick = least (seen race six.tick) (is6.holds.1, inl (e, omega arith)) in
        (e, omega (arith, last, come))
    by_usable false e come = both_by race r six a t now least come e

    by_seen : (b : Bool) → nat_lt t (seen race six.tick) ≡ b
        → FirstBy race (Some six) a t (if b then ResolutionDelay else (if list_any is_usable six.addresses then AaaaAnswer else BothAnswers))
    by_seen true e = delayed_by race r (Some six) a t now least (λ come. absurd (omega (arith, come, lt_from t (seen race six.tick) e)))
    by_seen false e = by_usable (list_any is_usable six.addresses) refl (not_before t (seen race six.tick) e)

same_first : (race : Race) (t : ℕ) (cause : Cause) (done : List Attempt) (next : Attempt) → next.tick ≡ t → FirstBy race race.aaaa race.a t cause → IsCausedBy race done None next cause
same_first race t AaaaAnswer done next e is = subst (λ t. FirstBy race race.aaaa race.a t AaaaAnswer) (sym e) is
same_first race t BothAnswers done next e is = subst (λ t. FirstBy race race.aaaa race.a t BothAnswers) (sym e) is
same_first race t ResolutionDelay done next e is = subst (λ t. FirstBy race race.aaaa race.a t ResolutionDelay) (sym e) is
same_first race t (AttemptDelay place delay) done next e is = absurd is
same_first race t (Floor place floor) done next e is = absurd is
same_first race t (LastFailure tick) done next e is = absurd is
same_first race t (LaterAnswer family) done next e is = absurd is

-- a later attempt, at no earlier tick than this one
abbrev IsFirst : Race → List Attempt → Attempt → ℕ → Type 0
IsFirst race done last t = (s : ℕ) → s < t → ¬ MayFollow race done s last

-- the wait was over at d, which is earlier
late_by : (race : Race) → IsRace race → (done : List Attempt) (last next : Attempt) (d : ℕ) → IsFree race d → d < next.tick
    → ((m : ℕ) → d ≤ m → HasWaited race done m last) → IsFirst race done last next.tick → CameFrom race done next.tick (reply_of race (family_of next.ip))
    → IsLaterBy race done last next (LaterAnswer (family_of next.ip))
late_by race r done last next d free before waited none from = (
  refl,
  later_seen race r done last next.tick (family_of next.ip) d free before waited none from,
  (d, free, waited d (omega arith), before),
  λ t free over early. untried_by t free over early (list_any (is_untried done) (received race t)) refl,
)
  where
    untried_by : (t : ℕ) → IsFree race t → HasWaited race done t last → t < next.tick → (b : Bool) → list_any (is_untried done) (received race t) ≡ b → b ≡ false
    untried_by t free over early true e = absurd (none t early (record { free = free; waited = over; some = e }))
    untried_by t free over early false e = refl

module _ (race : Race) (r : IsRace race) (done : List Attempt) (last next : Attempt) (e : last_of done ≡ Some last) (inside : next.tick ≤ race.settings.limit) (now : MayFollow race done next.tick last) (none : IsFirst race done last next.tick) (from : CameFrom race done next.tick (reply_of race (family_of next.ip))) where
  abbrev t : ℕ
  t = next.tick

  abbrev end : ℕ
  end = last.tick + race.settings.attempt

  end_is : IsSeen race end (seen race end)
  end_is = IsSeen-seen race r end

  -- the floor was over before: the answer came later
  floor_before : (o : Option ℕ) → race.settings.floor ≡ o → (failed : Option ℕ) → last_failure race done ≡ failed → was_floor_over race last o failed t ≡ true
      → IsLaterBy race done last next (LaterAnswer (family_of next.ip))
  floor_before None is failed known h = cc
  floor_before (Some floor) is None known h = cc
  floor_before (Some floor) is (Some failed) known h =
      let both : ℕ = max (last.tick + floor) failed in
      let sees : IsSeen race both (seen race both) = IsSeen-seen race r both in
      let one : seen race (last.tick + floor) < t = lt_from (seen race (last.tick + floor)) t (and_left _ _ h) in
      let other : seen race failed < t = lt_from (seen race failed) t (and_right (nat_lt (seen race (last.tick + floor)) t) _ h) in
      late_by race r done last next (seen race both) sees.holds.1 (omega (arith, seen_max race r (last.tick + floor) failed, one, other))
      (λ m after. inr (some_at race.settings.floor floor (λ n. (last.tick + n ≤ m) × HaveFailed race done m) is
      (omega (arith, after, sees.holds.0), all_from race r m done failed known (omega (arith, seen_more race r failed both (omega arith), after)))))
      none from

  -- where neither was over before, this is the first tick at which the last one had been waited for
  no_floor : (s : ℕ) → IsFree race s → (o : Option ℕ) → race.settings.floor ≡ o → was_floor_over race last o (last_failure race done) t ≡ false
      → IsSomeAnd o (λ floor. (last.tick + floor ≤ s) × HaveFailed race done s) → s < t → ⊥
  no_floor s free None is h waited before = absurd waited
  no_floor s free (Some floor) is h waited before =
      let failure : IsFailure race s (last_failure race done) = last_by race r s done last e (omega (arith, before, inside)) waited.1 in
      let sees : IsSeen race (last.tick + floor) (seen race (last.tick + floor)) = IsSeen-seen race r (last.tick + floor) in
      let early : seen race (last.tick + floor) ≤ s = sees.least s (waited.0, free) in
      let one : nat_lt (seen race (last.tick + floor)) t ≡ true = lt_test (seen race (last.tick + floor)) t (omega (arith, early, before)) in
      let other : nat_lt (seen race failure.tick) t ≡ true = lt_test (seen race failure.tick) t (omega (arith, failure.early, before)) in
      clash (was_floor_over race last (Some floor) (Some failure.tick) t) (and_both _ _ one other)
      (subst (λ o. was_floor_over race last (Some floor) o t ≡ false) failure.is h)

  first_wait : nat_lt (seen race end) t ≡ false → was_floor_over race last race.settings.floor (last_failure race done) t ≡ false → IsFirstWait race done last t
  first_wait late sooner s free (inl over) = omega (arith, not_before (seen race end) t late, end_is.least s (over, free))
  first_wait late sooner s free (inr waited) = elim (cases_lt s t) [
    | inl before ↦ absurd (no_floor s free race.settings.floor refl sooner waited before)
    | inr after ↦ after
  ]

  -- the floor let it start, where the delay is not over
  floor_is : t < end → IsFirstWait race done last t → (o : Option ℕ) → race.settings.floor ≡ o → IsSomeAnd o (λ floor. (last.tick + floor ≤ t) × HaveFailed race done t)
      → IsLaterBy race done last next (floor_cause race last o (last_failure race done))
  floor_is early first None is waited = absurd waited
  floor_is early first (Some floor) is waited = subst (λ o. IsLaterBy race done last next (floor_cause race last (Some floor) o)) (sym failure.is) (by_later (nat_lt (last.tick + floor) failure.tick) refl)
    where
      failure : IsFailure race t (last_failure race done)
      failure = last_by race r t done last e inside waited.1

      fails : IsSeen race failure.tick (seen race failure.tick)
      fails = IsSeen-seen race r failure.tick

      floor_sees : IsSeen race (last.tick + floor) (seen race (last.tick + floor))
      floor_sees = IsSeen-seen race r (last.tick + floor)

      by : IsByFloor race done t last floor
      by = (is, waited.1, waited.0, early)

      had_waited : (s : ℕ) → last.tick + floor ≤ s → seen race failure.tick ≤ s → HasWaited race done s last
      had_waited s over seen_by =
          inr (some_at race.settings.floor floor (λ n. (last.tick + n ≤ s) × HaveFailed race done s) is (over, all_from race r s done failure.tick failure.is seen_by))

      least_failure : t ≤ seen race failure.tick → (m : ℕ) → HaveFailed race done m → t ≤ m
      least_failure late m all = elim (cases_lt m t) [
        | inl before ↦
            let other : IsFailure race m (last_failure race done) = last_by race r m done last e (omega (arith, before, inside)) all in
            let same : other.tick ≡ failure.tick = some_same other.tick failure.tick (sym other.is ∙ failure.is) in
            let sooner : seen race failure.tick ≤ m = subst (λ n. seen race n ≤ m) same other.early in
            omega (arith, late, sooner)
        | inr after ↦ after
      ]

      by_later : (b : Bool) → nat_lt (last.tick + floor) failure.tick ≡ b → IsLaterBy race done last next (if b then LastFailure failure.tick else Floor last.place floor)
      by_later true less =
          let late : t ≤ seen race failure.tick =
          first (seen race failure.tick) fails.holds.1 (had_waited (seen race failure.tick) (omega (arith, lt_from (last.tick + floor) failure.tick less, fails.holds.0)) (omega arith))
          in (
            some_at race.settings.floor floor (IsByFloor race done t last) is by,
            record { holds = waited.1; least = least_failure late },
            omega (arith, late, failure.early),
          )
      by_later false less =
          let more : seen race failure.tick ≤ seen race (last.tick + floor) = seen_more race r failure.tick (last.tick + floor) (not_before (last.tick + floor) failure.tick less) in
          let late : t ≤ seen race (last.tick + floor) =
          first (seen race (last.tick + floor)) floor_sees.holds.1 (had_waited (seen race (last.tick + floor)) floor_sees.holds.0 more)
          in
          let soon : seen race (last.tick + floor) ≤ t = floor_sees.least t (waited.0, now.free) in
          (refl, by, omega (arith, late, soon))

  -- which of both let it start, where this is the first tick at which the last one had been waited for
  by_delay : nat_lt (seen race end) t ≡ false → IsFirstWait race done last t → (b : Bool) → nat_lt t end ≡ b
      → IsLaterBy race done last next (if b then floor_cause race last race.settings.floor (last_failure race done) else AttemptDelay last.place race.settings.attempt)
  by_delay late first true k = elim now.waited [
    | inl over ↦ absurd (omega (arith, over, lt_from t end k))
    | inr waited ↦ floor_is (lt_from t end k) first race.settings.floor refl waited
  ]
  by_delay late first false k =
      let soon : seen race end ≤ t = end_is.least t (not_before t end k, now.free) in
      (refl, refl, omega (arith, soon, not_before (seen race end) t late), first)

  later_is : IsLaterBy race done last next (later_cause race last (last_failure race done) next)
  later_is = by_wait (nat_lt (seen race end) t) (was_floor_over race last race.settings.floor (last_failure race done) t) refl refl
    where
      by_wait : (b c : Bool) → nat_lt (seen race end) t ≡ b → was_floor_over race last race.settings.floor (last_failure race done) t ≡ c
          → IsLaterBy race done last next (if b || c then LaterAnswer (family_of next.ip)
          else (if nat_lt t end then floor_cause race last race.settings.floor (last_failure race done) else AttemptDelay last.place race.settings.attempt))
      by_wait true c k l =
          late_by race r done last next (seen race end) end_is.holds.1 (lt_from (seen race end) t k) (λ m after. inl (omega (arith, after, end_is.holds.0))) none from
      by_wait false true k l = floor_before race.settings.floor refl (last_failure race done) refl l
      by_wait false false k l = by_delay k (first_wait k l) (nat_lt t end) refl

-- the least tick at which one may start
stands_by : (race : Race) → IsRace race → (done : List Attempt) (next : Attempt) (last : Option Attempt) → last_of done ≡ last
    → IsLeast (MayStart race done) next.tick → CameFrom race done next.tick (reply_of race (family_of next.ip)) → IsCausedBy race done last next (cause_of race last (last_failure race done) next)
stands_by race r done next None e least from =
    let At : ℕ → Option Attempt → Type 0 = λ s o. MatchOption o (MayBegin race s) (MayFollow race done s) in
    let now : MayBegin race next.tick = subst (At next.tick) e least.holds.1 in
    let first : (s : ℕ) → MayBegin race s → next.tick ≤ s =
    λ s may. elim (cases_lt s next.tick) [
      | inl before ↦ least.least s (omega (arith, before, least.holds.0), subst (At s) (sym e) may)
      | inr after ↦ after
    ]
    in
    same_first race next.tick (first_cause_by race race.aaaa next.tick) done next refl (first_is race r race.aaaa race.a next.tick now first)
stands_by race r done next (Some last) e least from =
    let At : ℕ → Option Attempt → Type 0 = λ s o. MatchOption o (MayBegin race s) (MayFollow race done s) in
    let now : MayFollow race done next.tick last = subst (At next.tick) e least.holds.1 in
    later_is race r done last next e (omega (arith, least.holds.0)) now
    (λ s before may. absurd (omega (arith, before, least.least s (omega (arith, before, least.holds.0), subst (At s) (sym e) may)))) from

pub causes_stand : CausesStand
causes_stand race r done next is = stands_by race r done next (last_of done) refl is.tick (own_answer race r done next is)

due_aaaa : (race : Race) (t : ℕ) (U : Reply → Type 0) (reply : Option Reply) → IsSomeAnd reply (λ r. U r × (seen race r.tick ≡ t)) → seen race (tick_of reply) ≡ t
due_aaaa race t U None h = absurd h
due_aaaa race t U (Some r) h = h.1

due_both : (race : Race) → IsRace race → (t : ℕ) (U V : Reply → Type 0) (aaaa a : Option Reply)
    → IsSomeAnd aaaa (λ six. U six × IsSomeAnd a (λ four. V four × (max (seen race six.tick) (seen race four.tick) ≡ t)))
    → seen race (max (tick_of aaaa) (tick_of a)) ≡ t
due_both race r t U V None a h = absurd h
due_both race r t U V (Some six) None h = absurd h.1
due_both race r t U V (Some six) (Some four) h = seen_max race r six.tick four.tick ∙ h.1.1

due_delay : (race : Race) (t delay : ℕ) (U : Reply → Type 0) (reply : Option Reply) → IsSomeAnd reply (λ r. U r × (seen race (r.tick + delay) ≡ t)) → seen race (tick_of reply + delay) ≡ t
due_delay race t delay U None h = absurd h
due_delay race t delay U (Some r) h = h.1

due_later : (race : Race) (t : ℕ) (reply : Option Reply) → IsSomeAnd reply (λ r. seen race r.tick ≡ t) → seen race (tick_of reply) ≡ t
due_later race t None h = absurd h
due_later race t (Some r) h = h

due_by : (race : Race) → IsRace race → (done : List Attempt) (last : Option Attempt) (next : Attempt) (cause : Cause) → IsCausedBy race done last next cause
    → seen race (due_of race last cause) ≡ next.tick
due_by race r done None next AaaaAnswer is = due_aaaa race next.tick (λ r. IsTrue (list_any is_usable r.addresses)) race.aaaa is
due_by race r done None next BothAnswers is =
    due_both race r next.tick (λ six. IsFalse (list_any is_usable six.addresses)) (λ four. IsTrue (list_any is_usable four.addresses)) race.aaaa race.a is
due_by race r done None next ResolutionDelay is = due_delay race next.tick race.settings.resolution (λ r. IsTrue (list_any is_usable r.addresses)) race.a is.1
due_by race r done None next (AttemptDelay place delay) is = absurd is
due_by race r done None next (Floor place floor) is = absurd is
due_by race r done None next (LastFailure tick) is = absurd is
due_by race r done None next (LaterAnswer family) is = absurd is
due_by race r done (Some last) next AaaaAnswer is = absurd is
due_by race r done (Some last) next BothAnswers is = absurd is
due_by race r done (Some last) next ResolutionDelay is = absurd is
due_by race r done (Some last) next (AttemptDelay place delay) is = is.2
due_by race r done (Some last) next (Floor place floor) is = is.2
due_by race r done (Some last) next (LastFailure tick) is = is.2
due_by race r done (Some last) next (LaterAnswer family) is = due_later race next.tick (reply_of race family) is.1

pub dues_stand : DuesStand
dues_stand race r done next is = due_by race r done (last_of done) next (cause_of race (last_of done) (last_failure race done) next) (causes_stand race r done next is)

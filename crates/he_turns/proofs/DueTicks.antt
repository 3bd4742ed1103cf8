-- The least of the ticks that the code looks at after a turn is the due tick.
use Rattle.std.proofs.Common.{◌≡◌, ℕ, ◌+◌, ◌≤◌, ◌<◌, ◌⊎◌, Bool, true, false, not, List, [], ◌∷◌, if◌then◌else◌, filter, Option, Some, None, MatchOption, IfSome, IfNone, IsSomeAnd, nat_le, refl, sym, ◌∙◌, subst, arith, inl, inr}
use Rattle.std.specs.List.{list_all, list_any}
use Rattle.std.specs.Option.{option_map_or}
use Rattle.std.proofs.lemmas.Bool.{cases_lt}
use Rattle.std.proofs.lemmas.List.Folds.{list_any-append}
use Rattle.he_addr.specs.Ip.{is_usable}
use Rattle.he_plan.specs.declared.attempts.Attempt.{Attempt}
use Rattle.he_timeline.specs.declared.limits.TheConstants.{MIN_FLOOR}
use Rattle.he_plan.specs.Attempts.{IsAnswered, IsDelayOver, HasWaited, HaveFailed, IsPositive, MayBegin, MayFollow, MayStart, has_failed, is_untried, last_of, received, received_of}
use Rattle.he_timeline.specs.Seen.{IsFree, IsLeast, seen}
use Rattle.he_timeline.specs.Building.{last_end}
use Rattle.he_plan.specs.Due.{IsAfterTurn, IsAnswerDue, IsDelayDue, IsDue, IsDueTick, IsStartDue, IsTaken, IsWaiting, start_delay}
use Rattle.he_timeline.specs.Race.{Race, Reply}
use Rattle.he_timeline.specs.Timeline.{IsRace}
use Rattle.he_timeline.proofs.Bools.{clash, le_from, le_test, not_le, or_left, or_one, or_right}
use Rattle.he_plan.proofs.Growing.{pauses-over}
use Rattle.he_plan.proofs.Planned.{last_of-some}
use Rattle.he_plan.proofs.Starting.{SeesOwn, SeesOwn-free, any_filter}
use Rattle.he_turns.specs.Answered.{earliest, is_taken, untaken_tick}
use Rattle.he_turns.specs.Kept.{first_after}
use Rattle.he_turns.proofs.Failing.{failed-later}

taken_by : (turn : Option ℕ) (t : ℕ) (reply : Reply) → IfSome turn (λ n. n ≤ t) → IsTaken turn reply → reply.tick ≤ t
taken_by None t reply by h = absurd h
taken_by (Some n) t reply by h = let k : reply.tick ≤ n = h in let l : n ≤ t = by in omega arith

-- what was taken and is untried is received
waiting_received : (race : Race) (turn : Option ℕ) (t : ℕ) → IfSome turn (λ n. n ≤ t) → SeesOwn race t → (done : List Attempt) (reply : Option Reply) → IsWaiting turn done reply → list_any (is_untried done) (received_of race t reply) ≡ true
waiting_received race turn t by own done None h = absurd h
waiting_received race turn t by own done (Some r) h =
    rw (le_test (seen race r.tick) t (own.back r.tick (taken_by turn t r by h.0))) (any_filter (is_untried done) is_usable r.addresses ∙ h.1)

waiting_one : (race : Race) (turn : Option ℕ) (t : ℕ) → IfSome turn (λ n. n ≤ t) → SeesOwn race t → (done : List Attempt) → IsWaiting turn done race.aaaa ⊎ IsWaiting turn done race.a → list_any (is_untried done) (received race t) ≡ true
waiting_one race turn t by own done h =
    list_any-append (is_untried done) (received_of race t race.aaaa) (received_of race t race.a)
    ∙ elim h [ inl k ↦ or_left _ _ (waiting_received race turn t by own done race.aaaa k) | inr k ↦ or_right _ _ (waiting_received race turn t by own done race.a k) ]

-- once the delay after the last start is over it was waited for
delay_waited : (race : Race) (turn : Option ℕ) (done : List Attempt) (last : Attempt) (d t : ℕ) → IfSome turn (λ n. n ≤ t) → d ≤ t → last.tick + start_delay race turn done ≡ d → HasWaited race done t last
delay_waited race None done last d t by up e = inl (omega (arith, e))
delay_waited race (Some n) done last d t by up e = by_test (list_all (has_failed race n) done) refl e
  where
    by_floor : list_all (has_failed race n) done ≡ true → (f : Option ℕ) → race.settings.floor ≡ f → last.tick + option_map_or (λ floor. floor) f race.settings.attempt ≡ d → HasWaited race done t last
    by_floor all None is e = inl (omega (arith, e))
    by_floor all (Some floor) is e = inr (rw is (omega (arith, e), failed-later race n t by done all))

    by_test : (b : Bool) → list_all (has_failed race n) done ≡ b → last.tick + (if b then option_map_or (λ floor. floor) race.settings.floor race.settings.attempt else race.settings.attempt) ≡ d → HasWaited race done t last
    by_test true all e = by_floor all race.settings.floor refl e
    by_test false all e = inl (omega (arith, e))

delay_most : (race : Race) → IsRace race → (turn : Option ℕ) (done : List Attempt) → start_delay race turn done ≤ race.settings.attempt
delay_most race r None done = omega arith
delay_most race r (Some n) done = by_test (list_all (has_failed race n) done)
  where
    by_floor : (f : Option ℕ) → IfSome f (λ n. (MIN_FLOOR ≤ n) × (n ≤ race.settings.attempt)) → option_map_or (λ floor. floor) f race.settings.attempt ≤ race.settings.attempt
    by_floor None h = omega arith
    by_floor (Some floor) h = h.1

    by_test : (b : Bool) → (if b then option_map_or (λ floor. floor) race.settings.floor race.settings.attempt else race.settings.attempt) ≤ race.settings.attempt
    by_test true = by_floor race.settings.floor r.settings.floor
    by_test false = omega arith

-- where the last attempt was waited for, the delay after its start is over
waited_delay : (race : Race) → IsRace race → (turn : Option ℕ) (done : List Attempt) (last : Attempt) (t : ℕ) (reply : Reply) → IsTaken turn reply → IsAfterTurn race turn done → HasWaited race done t last → last.tick + start_delay race turn done ≤ t
waited_delay race r None done last t reply taken after h = absurd taken
waited_delay race r (Some n) done last t reply taken after (inl over) = omega (arith, over, delay_most race r (Some n) done)
waited_delay race r (Some n) done last t reply taken after (inr floor) = by_floor race.settings.floor refl floor
  where
    by_floor : (f : Option ℕ) → race.settings.floor ≡ f → IsSomeAnd f (λ floor. (last.tick + floor ≤ t) × HaveFailed race done t) → last.tick + start_delay race (Some n) done ≤ t
    by_floor None is h = absurd h
    by_floor (Some floor) is h =
        let all : list_all (has_failed race n) done ≡ true = after.3 t h.1 in
        let same : start_delay race (Some n) done ≡ floor = rw (all, is) refl in
        omega (arith, same, h.0)

follows : (race : Race) (turn : Option ℕ) (done : List Attempt) (d t : ℕ) → IfSome turn (λ n. n ≤ t) → IsFree race t → d ≤ t → list_any (is_untried done) (received race t) ≡ true → (o : Option Attempt) → IsSomeAnd o (λ last. last.tick + start_delay race turn done ≡ d) → MatchOption o (MayBegin race t) (MayFollow race done t)
follows race turn done d t by free up some None h = absurd h
follows race turn done d t by free up some (Some last) h = record { free = free; waited = delay_waited race turn done last d t by up h; some = some }

delayed : (race : Race) (turn : Option ℕ) (d t : ℕ) → IfSome turn (λ n. n ≤ t) → SeesOwn race t → d ≤ t → (reply : Option Reply) → IsSomeAnd reply (λ r. (list_any is_usable r.addresses ≡ true) × IsTaken turn r × (r.tick + race.settings.resolution ≡ d)) → IsPositive race t reply × IsSomeAnd reply (λ r. seen race (r.tick + race.settings.resolution) ≤ t)
delayed race turn d t by own up None h = absurd h
delayed race turn d t by own up (Some r) h =
    let over : r.tick + race.settings.resolution ≤ t = omega (arith, h.2) in
    ((h.0, own.back r.tick (taken_by turn t r by h.1)), own.back (r.tick + race.settings.resolution) over)

-- where a delay is over, an attempt may start
pub due_starts : (race : Race) → IsRace race → (turn : Option ℕ) (done : List Attempt) (d t : ℕ) → IsDelayDue race turn done d ⊎ IsStartDue race turn done d → IfSome turn (λ n. n ≤ t) → d ≤ t → IsFree race t → t < race.settings.limit → MayStart race done t
due_starts race r turn done d t due by up free early = elim due [
  | inl delay ↦
      let own : SeesOwn race t = SeesOwn-free race r t free in
      let k : IsPositive race t race.a × IsDelayOver race t = delayed race turn d t by own up race.a delay.a in
      let begins : MayBegin race t = (free, inr (k.0, inr k.1)) in
      let first : MayStart race [] t = (early, begins) in
      subst (λ (xs : List Attempt). MayStart race xs t) (sym delay.none) first
  | inr start ↦ (early, follows race turn done d t by free up (waiting_one race turn t by (SeesOwn-free race r t free) done start.some) (last_of done) start.delay)
]

-- something is due by the tick
abbrev IsDueBy : Race → Option ℕ → List Attempt → ℕ → Type 0
IsDueBy race turn done t = (d : ℕ) × IsDue race turn done d × (d ≤ t)

taken_or_not : (turn : Option ℕ) (reply : Reply) → IsTaken turn reply ⊎ (¬ IsTaken turn reply)
taken_or_not None reply = inr (λ h. h)
taken_or_not (Some n) reply = elim (cases_lt n reply.tick) [ inl later ↦ inr (λ h. let k : reply.tick ≤ n = h in omega arith) | inr by ↦ inl (omega arith) ]

module _ (race : Race) (r : IsRace race) (turn : Option ℕ) where
  -- what began the race by the last turn would have started there
  stuck : (turn : Option ℕ) → IsAfterTurn race turn [] → (reply : Reply) → IsTaken turn reply → ((n : ℕ) → SeesOwn race n → reply.tick ≤ n → IsTaken (Some n) reply → (turn ≡ Some n) → IsFree race n → MayBegin race n) → ⊥
  stuck None after reply h begins = h
  stuck (Some n) after reply h begins =
      let by : reply.tick ≤ n = h in
      after.2 (after.1, begins n (SeesOwn-free race r n after.0) by h refl after.0)

  taken_at : (n : ℕ) → turn ≡ Some n → (reply : Reply) → IsTaken turn reply → reply.tick ≤ n
  taken_at n e reply h = let P : Option ℕ → Type 0 = λ o. IsTaken o reply in subst P e h

  begin_due : IsAfterTurn race turn [] → (t : ℕ) → IsFree race t → (aaaa a : Option Reply) → race.aaaa ≡ aaaa → race.a ≡ a
      → IsPositive race t aaaa ⊎ (IsPositive race t a × (IsAnswered race t aaaa ⊎ IsSomeAnd a (λ x. seen race (x.tick + race.settings.resolution) ≤ t)))
      → IsDueBy race turn [] t
  begin_due after t free None a six four (inl p) = absurd p
  begin_due after t free (Some s) a six four (inl p) =
      let own : SeesOwn race t = SeesOwn-free race r t free in
      elim (taken_or_not turn s) [
        | inl taken ↦ absurd (stuck turn after s taken (λ n here by was e clear. (clear, inl (rw six (p.0, here.back s.tick by)))))
        | inr not ↦ (s.tick, inl (rw six (not, refl)), own.own s.tick p.1)
      ]
  begin_due after t free aaaa None six four (inr p) = absurd p.0
  begin_due after t free aaaa (Some x) six four (inr p) =
      let own : SeesOwn race t = SeesOwn-free race r t free in
      elim (taken_or_not turn x) [
        | inl taken ↦ elim p.1 [
          | inl answered ↦ by_answer aaaa six taken answered
          | inr over ↦ by_delay aaaa six taken over
        ]
        | inr not ↦ (x.tick, inr (inl (rw four (not, refl))), own.own x.tick p.0.1)
      ]
    where
      both : (s : Reply) → race.aaaa ≡ Some s → IsTaken turn x → IsTaken turn s → ⊥
      both s is taken also =
          stuck turn after s also (λ n here by was e clear. (clear, inr (rw four (p.0.0, here.back x.tick (taken_at n e x taken)), inl (rw is (here.back s.tick by)))))

      by_answer : (aaaa : Option Reply) → race.aaaa ≡ aaaa → IsTaken turn x → IsAnswered race t aaaa → IsDueBy race turn [] t
      by_answer None is taken h = absurd h
      by_answer (Some s) is taken h = elim (taken_or_not turn s) [
        | inl also ↦ absurd (both s is taken also)
        | inr not ↦ let own : SeesOwn race t = SeesOwn-free race r t free in (s.tick, inl (rw is (not, refl)), own.own s.tick h)
      ]

      delay : ¬ IsSomeAnd race.aaaa (IsTaken turn) → IsTaken turn x → IsDelayDue race turn [] (x.tick + race.settings.resolution)
      delay not taken = record { none = refl; aaaa = not; a = rw four (p.0.0, taken, refl) }

      by_delay : (aaaa : Option Reply) → race.aaaa ≡ aaaa → IsTaken turn x → seen race (x.tick + race.settings.resolution) ≤ t → IsDueBy race turn [] t
      by_delay None is taken h =
          let own : SeesOwn race t = SeesOwn-free race r t free in
          (x.tick + race.settings.resolution, inr (inr (inl (delay (rw is (λ k. k)) taken))), own.own (x.tick + race.settings.resolution) h)
      by_delay (Some s) is taken h = elim (taken_or_not turn s) [
        | inl also ↦ absurd (both s is taken also)
        | inr not ↦ let own : SeesOwn race t = SeesOwn-free race r t free in (x.tick + race.settings.resolution, inr (inr (inl (delay (rw is not) taken))), own.own (x.tick + race.settings.resolution) h)
      ]

  waiting_due : (done : List Attempt) (last : Attempt) (t : ℕ) → last_of done ≡ Some last → SeesOwn race t → IsAfterTurn race turn done → HasWaited race done t last → (reply : Option Reply) → (IsWaiting turn done reply → IsWaiting turn done race.aaaa ⊎ IsWaiting turn done race.a) → ((d : ℕ) → IsAnswerDue turn reply d → IsDue race turn done d) → list_any (is_untried done) (received_of race t reply) ≡ true → IsDueBy race turn done t
  waiting_due done last t is own after late None waits answer h = cc
  waiting_due done last t is own after late (Some x) waits answer h = by_seen (nat_le (seen race x.tick) t) refl h
    where
      by_seen : (b : Bool) → nat_le (seen race x.tick) t ≡ b → list_any (is_untried done) (if b then filter is_usable x.addresses else []) ≡ true → IsDueBy race turn done t
      by_seen false e h = cc
      by_seen true e h = elim (taken_or_not turn x) [
        | inl taken ↦ (
          last.tick + start_delay race turn done,
          inr (inr (inr (inl (record {
            delay = subst (λ (o : Option Attempt). IsSomeAnd o (λ y. y.tick + start_delay race turn done ≡ last.tick + start_delay race turn done)) (sym is) refl;
            some = waits (taken, sym (any_filter (is_untried done) is_usable x.addresses) ∙ h);
          })))),
          waited_delay race r turn done last t x taken after late,
        )
        | inr not ↦ (x.tick, answer x.tick (not, refl), own.own x.tick (le_from _ _ e))
      ]

  follow_due : (done : List Attempt) (last : Attempt) (t : ℕ) → IsAfterTurn race turn done → last_of done ≡ Some last → MayFollow race done t last → IsDueBy race turn done t
  follow_due done last t after is m =
      let own : SeesOwn race t = SeesOwn-free race r t m.free in
      elim (or_one _ _ (sym (list_any-append (is_untried done) (received_of race t race.aaaa) (received_of race t race.a)) ∙ m.some)) [
        | inl k ↦ waiting_due done last t is own after m.waited race.aaaa (λ w. inl w) (λ d a. inl a) k
        | inr k ↦ waiting_due done last t is own after m.waited race.a (λ w. inr w) (λ d a. inr (inl a)) k
      ]

  -- where an attempt may start, something was due by then
  start_due : (done : List Attempt) (t : ℕ) → IsAfterTurn race turn done → MayStart race done t → IsDueBy race turn done t
  start_due [] t after m = let may : MayBegin race t = m.1 in begin_due after t may.0 race.aaaa race.a refl refl may.1
  start_due (y ∷ ys) t after m = by_last (last_of (y ∷ ys)) refl m.1
    where
      by_last : (o : Option Attempt) → last_of (y ∷ ys) ≡ o → MatchOption o (MayBegin race t) (MayFollow race (y ∷ ys) t) → IsDueBy race turn (y ∷ ys) t
      by_last None is may = absurd (last_of-some ys y is)
      by_last (Some last) is may = follow_due (y ∷ ys) last t after is may

  -- before the least of two ticks something is due, if it is before each
  earliest_by : (done : List Attempt) (due : ℕ) (o : Option ℕ) → IsDueBy race turn done due → IfSome o (IsDueBy race turn done) → IsDueBy race turn done (earliest due o)
  earliest_by done due None h k = h
  earliest_by done due (Some tick) h k = elim (cases_lt due tick) [
    | inl sooner ↦ (h.0, h.1, let e : h.0 ≤ due = h.2 in omega arith)
    | inr later ↦ (k.0, k.1, let e : k.0 ≤ tick = k.2 in omega arith)
  ]

  some_of : (P Q : ℕ → Type 0) (o : Option ℕ) → ((x : ℕ) → P x → Q x) → IfSome o P → IfSome o Q
  some_of P Q None f h = tt
  some_of P Q (Some x) f h = f x h

  not_taken : (turn : Option ℕ) (reply : Reply) → is_taken turn reply.tick ≡ false → ¬ IsTaken turn reply
  not_taken None reply e h = h
  not_taken (Some n) reply e h = clash _ (le_test reply.tick n h) e

  is_not_taken : (turn : Option ℕ) (reply : Reply) → ¬ IsTaken turn reply → is_taken turn reply.tick ≡ false
  is_not_taken None reply not = refl
  is_not_taken (Some n) reply not = not_le reply.tick n (elim (cases_lt n reply.tick) [ inl later ↦ later | inr by ↦ absurd (not by) ])

  untaken_by : (done : List Attempt) (reply : Option Reply) → ((d : ℕ) → IsAnswerDue turn reply d → IsDue race turn done d) → IfSome (untaken_tick turn reply) (IsDueBy race turn done)
  untaken_by done None answer = tt
  untaken_by done (Some x) answer = by_test (is_taken turn x.tick) refl
    where
      by_test : (b : Bool) → is_taken turn x.tick ≡ b → IfSome (if not b then Some x.tick else None) (IsDueBy race turn done)
      by_test true e = tt
      by_test false e = (x.tick, answer x.tick (not_taken turn x e, refl), omega arith)

  -- the tick of an answer that is due is looked at
  untaken_is : (reply : Option Reply) (d : ℕ) → IsAnswerDue turn reply d → untaken_tick turn reply ≡ Some d
  untaken_is None d h = absurd h
  untaken_is (Some x) d h = rw (is_not_taken turn x h.0, h.1)

  earliest_first : (due : ℕ) (o : Option ℕ) → earliest due o ≤ due
  earliest_first due None = omega arith
  earliest_first due (Some tick) = omega arith

  earliest_other : (due d : ℕ) (o : Option ℕ) → o ≡ Some d → earliest due o ≤ d
  earliest_other due d None e = cc
  earliest_other due d (Some tick) e = let same : tick ≡ d = cc in omega arith

  -- a delay that is over was not over by the last turn
  not_passed : (turn : Option ℕ) (done : List Attempt) (d : ℕ) → IsAfterTurn race turn done → IsDelayDue race turn done d ⊎ IsStartDue race turn done d → first_after turn ≤ d
  not_passed None done d after due = omega arith
  not_passed (Some n) done d after due = elim (cases_lt n d) [
    | inl later ↦ omega arith
    | inr by ↦ absurd (after.2 (due_starts race r (Some n) done d n due (omega arith) by after.0 after.1))
  ]

  abbrev Least : ℕ → Option ℕ → ℕ
  Least limit next = earliest (earliest (earliest limit next) (untaken_tick turn race.aaaa)) (untaken_tick turn race.a)

  least_limit : (limit : ℕ) (next : Option ℕ) → Least limit next ≤ limit
  least_limit limit next =
      omega (arith, earliest_first limit next, earliest_first (earliest limit next) (untaken_tick turn race.aaaa), earliest_first (earliest (earliest limit next) (untaken_tick turn race.aaaa)) (untaken_tick turn race.a))

  least_next : (limit d : ℕ) (next : Option ℕ) → next ≡ Some d → Least limit next ≤ d
  least_next limit d next e =
      omega (arith, earliest_other limit d next e, earliest_first (earliest limit next) (untaken_tick turn race.aaaa), earliest_first (earliest (earliest limit next) (untaken_tick turn race.aaaa)) (untaken_tick turn race.a))

  turn_by : (turn : Option ℕ) (t : ℕ) → first_after turn ≤ t → IfSome turn (λ n. n ≤ t)
  turn_by None t h = tt
  turn_by (Some n) t h = omega arith

  pub due_tick-is : (done : List Attempt) (next : Option ℕ) → IsAfterTurn race turn done → last_end race.pauses ≤ first_after turn → IfSome next (IsLeast (MayStart race done)) → IfNone next ((t : ℕ) → ¬ MayStart race done t)
      → IsDueTick race turn done (Least race.settings.limit next)
  due_tick-is done next after over some none = record {
    holds = subst (IsDue race turn done) (omega (arith, bound.2, least bound.0 bound.1)) bound.1;
    least = least;
  }
    where
      delay_least : (d : ℕ) → IsDelayDue race turn done d ⊎ IsStartDue race turn done d → Least race.settings.limit next ≤ d
      delay_least d due = elim (cases_lt d race.settings.limit) [
        | inl early ↦
            let up : first_after turn ≤ d = not_passed turn done d after due in
            let m : MayStart race done d = due_starts race r turn done d d due (turn_by turn d up) (omega arith) (pauses-over race r d (omega (arith, over))) early in
            by_next next some none m refl
        | inr late ↦ omega (arith, least_limit race.settings.limit next)
      ]
        where
          by_next : (o : Option ℕ) → IfSome o (IsLeast (MayStart race done)) → IfNone o ((t : ℕ) → ¬ MayStart race done t) → MayStart race done d → next ≡ o → Least race.settings.limit next ≤ d
          by_next None some none m e = absurd (none d m)
          by_next (Some t) some none m e = omega (arith, some.least d m, least_next race.settings.limit t next e)

      least : (d : ℕ) → IsDue race turn done d → Least race.settings.limit next ≤ d
      least d (inl six) = omega (arith, earliest_other (earliest race.settings.limit next) d (untaken_tick turn race.aaaa) (untaken_is race.aaaa d six), earliest_first (earliest (earliest race.settings.limit next) (untaken_tick turn race.aaaa)) (untaken_tick turn race.a))
      least d (inr (inl four)) = earliest_other (earliest (earliest race.settings.limit next) (untaken_tick turn race.aaaa)) d (untaken_tick turn race.a) (untaken_is race.a d four)
      least d (inr (inr (inl delay))) = delay_least d (inl delay)
      least d (inr (inr (inr (inl start)))) = delay_least d (inr start)
      least d (inr (inr (inr (inr limit)))) = omega (arith, limit, least_limit race.settings.limit next)

      bound : IsDueBy race turn done (Least race.settings.limit next)
      bound =
          earliest_by done (earliest (earliest race.settings.limit next) (untaken_tick turn race.aaaa)) (untaken_tick turn race.a)
          (earliest_by done (earliest race.settings.limit next) (untaken_tick turn race.aaaa)
          (earliest_by done race.settings.limit next (race.settings.limit, inr (inr (inr (inr refl))), omega arith) (some_of (IsLeast (MayStart race done)) (IsDueBy race turn done) next (λ t is. start_due done t after is.holds) some))
          (untaken_by done race.aaaa (λ d a. inl a)))
          (untaken_by done race.a (λ d a. inr (inl a)))

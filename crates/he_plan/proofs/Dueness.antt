-- What is due after a turn: no attempt may start before the least of it is seen.
use Rattle.std.proofs.Common.{◌≡◌, ℕ, ◌+◌, ◌-◌, ◌≤◌, ◌<◌, ◌⊎◌, ◌↔◌, ◌&&◌, Bool, true, false, if◌then◌else◌, List, [], ◌∷◌, max, Option, Some, None, MatchOption, IfSome, IsSomeAnd, nat_le, refl, sym, ◌∙◌, ap, subst, arith, inl, inr}
use Rattle.std.specs.List.{list_all, list_any}
use Rattle.std.specs.Option.{option_map_or}
use Rattle.std.proofs.lemmas.Bool.{cases_lt}
use Rattle.he_addr.specs.Ip.{is_usable}
use Rattle.he_plan.specs.declared.attempts.Attempt.{Attempt}
use Rattle.he_plan.specs.declared.finish.Fate.TheVariants.{Succeeded, Failed, Running}
use Rattle.he_timeline.specs.declared.limits.TheConstants.{MIN_FLOOR}
use Rattle.he_timeline.specs.declared.outcome.Outcome.TheVariants as outcomes
use Rattle.he_plan.specs.Attempts.{HasWaited, HaveFailed, MayBegin, MayFollow, MayStart, has_failed, is_untried, last_of, order_at}
use Rattle.he_timeline.specs.Seen.{IsFree, IsLeast, IsSeen, seen}
use Rattle.he_plan.specs.Due.{IsAfterTurn, IsAnswerDue, IsDelayDue, IsDue, IsDueTick, IsTaken, IsWaiting, start_delay}
use Rattle.he_plan.specs.Finish.{fate_by, fate_of}
use Rattle.he_timeline.specs.Race.{outcome_of, Race, Reply}
use Rattle.he_plan.specs.Planning.{positive_tick, start_after, start_tick, a_begin_tick, wait_end, waiting_tick}
use Rattle.he_timeline.specs.Timeline.{IsRace}
use Rattle.he_plan.proofs.Agreeing.{failed-shared, order-shared, starts-shared}
use Rattle.he_timeline.proofs.Bools.{le_test}
use Rattle.he_plan.proofs.Failing.{waited_from, waited_later}
use Rattle.he_plan.proofs.Planned.{last_of-some}
use Rattle.he_timeline.proofs.Seen.{IsSeen-seen}
use Rattle.he_plan.proofs.Starting.{MayStart-StartsAt, Reaches, SeesOwn, SeesOwn-free, StartsAt, StartsAt-MayStart, a_from, a_if, a_tick, earlier_left, earlier_one, earlier_right, reaches_if, reaches_then}

reaches_later : (o : Option ℕ) (t later : ℕ) → Reaches o t → t ≤ later → Reaches o later
reaches_later None t later h up = absurd h
reaches_later (Some x) t later h up = let k : x ≤ t = h in omega arith

-- what may start may start at each later free tick
pub starts-stay : (race : Race) → IsRace race → (done : List Attempt) (t later : ℕ) → MayStart race done t → t ≤ later → IsFree race later → later < race.settings.limit → MayStart race done later
starts-stay race r done t later m up free early =
    let s : StartsAt race done t = StartsAt-MayStart race r done t m in
    MayStart-StartsAt race r done later (record { early = early; free = free; reached = reaches_later (start_tick race done) t later s.reached up })

pub starts-free : (race : Race) → IsRace race → (done : List Attempt) (t : ℕ) → MayStart race done t → IsFree race t
starts-free race r done t m = let s : StartsAt race done t = StartsAt-MayStart race r done t m in s.free

pub starts-waited : (race : Race) (done : List Attempt) (last : Attempt) (t : ℕ) → last_of done ≡ Some last → MayStart race done t → HasWaited race done t last
starts-waited race done last t e m = by_last (last_of done) e m.1
  where
    last_is : (x y : Attempt) → Some x ≡ Some y → x ≡ y
    last_is x y h = cc

    by_last : (o : Option Attempt) → o ≡ Some last → MatchOption o (MayBegin race t) (MayFollow race done t) → HasWaited race done t last
    by_last None e may = cc
    by_last (Some other) e may = subst (λ (x : Attempt). HasWaited race done t x) (last_is other last e) may.waited

pub starts-later : (race : Race) → IsRace race → (done : List Attempt) (last : Attempt) (t : ℕ) → last_of done ≡ Some last → MayStart race done t → last.tick < t
starts-later race r done last t e m = waited_later race r done t last (starts-waited race done last t e m)

-- the race without its pauses
abbrev awake : Race → Race
awake race = record race { pauses = [] }

awake-is : (race : Race) → IsRace race → IsRace (awake race)
awake-is race r = record { settings = r.settings; policy = r.policy; host = r.host; aaaa = r.aaaa; a = r.a; rtts = r.rtts; rtts_once = r.rtts_once; used = r.used; used_once = r.used_once; outcomes = r.outcomes; once = r.once; pauses = refl; few = omega arith }

pub starts-own : (race : Race) → IsRace race → (done : List Attempt) (t : ℕ) → IsFree race t → MayStart race done t ↔ MayStart (awake race) done t
starts-own race r done t free =
    let same : list_all (has_failed race t) done ≡ list_all (has_failed (awake race) t) done = failed-shared race (awake race) t (SeesOwn-free race r t free) (SeesOwn-free (awake race) (awake-is race r) t refl) (λ ip. refl) done in
    starts-shared race (awake race) r (awake-is race r) refl done t (λ h. sym same ∙ h, λ h. same ∙ h) free refl

pub order-own : (race : Race) → IsRace race → (t : ℕ) → IsFree race t → order_at race t ≡ order_at (awake race) t
order-own race r t free = order-shared race (awake race) r (awake-is race r) refl t free refl

-- an answer was taken by the last turn, or it was not
taken_or_not : (turn : Option ℕ) (reply : Reply) → IsTaken turn reply ⊎ (¬ IsTaken turn reply)
taken_or_not None reply = inr (λ h. h)
taken_or_not (Some n) reply = elim (cases_lt n reply.tick) [ inl later ↦ inr (λ h. let k : reply.tick ≤ n = h in omega arith) | inr by ↦ inl (omega arith) ]

-- nothing is left to start at a tick that the last turn has reached
not_reached : (race : Race) → IsRace race → (turn : Option ℕ) (done : List Attempt) → IsAfterTurn race turn done → IfSome turn (λ n. ¬ Reaches (start_tick race done) n)
not_reached race r None done after = tt
not_reached race r (Some n) done after = λ h. after.2 (MayStart-StartsAt race r done n (record { early = after.1; free = after.0; reached = h }))

-- something is due by the tick
abbrev IsDueBy : Race → Option ℕ → List Attempt → ℕ → Type 0
IsDueBy race turn done t = (d : ℕ) × IsDue race turn done d × (d ≤ t)

-- all attempts that fail had failed by the last turn
abbrev AreKnown : Race → Option ℕ → List Attempt → Type 0
AreKnown race turn done = IfSome turn (λ n. (later : ℕ) → HaveFailed race done later → HaveFailed race done n)

known : (race : Race) (turn : Option ℕ) (done : List Attempt) → IsAfterTurn race turn done → AreKnown race turn done
known race None done after = tt
known race (Some n) done after = after.3

-- after a turn the delay is over at a tick by which the last attempt was waited for
delay_over : (race : Race) → IsRace race → (turn : Option ℕ) (done : List Attempt) (last : Attempt) (t : ℕ) → AreKnown race turn done → IsSomeAnd turn (λ n. Unit {0}) → HasWaited race done t last → last.tick + start_delay race turn done ≤ t
delay_over race r None done last t all some waited = absurd some
delay_over race r (Some n) done last t all some (inl over) =
    let most : start_delay race (Some n) done ≤ race.settings.attempt = by_all (list_all (has_failed race n) done) race.settings.floor r.settings.floor in
    omega (arith, over)
  where
    by_all : (b : Bool) (o : Option ℕ) → IfSome o (λ floor. (MIN_FLOOR ≤ floor) × (floor ≤ race.settings.attempt)) → (if b then option_map_or (λ floor. floor) o race.settings.attempt else race.settings.attempt) ≤ race.settings.attempt
    by_all false o range = omega arith
    by_all true None range = omega arith
    by_all true (Some floor) range = range.1
delay_over race r (Some n) done last t all some (inr h) = by_floor race.settings.floor h
  where
    by_floor : (o : Option ℕ) → IsSomeAnd o (λ floor. (last.tick + floor ≤ t) × HaveFailed race done t) → last.tick + (if list_all (has_failed race n) done then option_map_or (λ floor. floor) o race.settings.attempt else race.settings.attempt) ≤ t
    by_floor None h = absurd h
    by_floor (Some floor) h = let failed : list_all (has_failed race n) done ≡ true = all t h.1 in rw failed h.0

-- an untried address of an answer: the answer is due, or the delay is
due_waiting : (race : Race) → IsRace race → (turn : Option ℕ) (done : List Attempt) (last : Attempt) (t : ℕ) → AreKnown race turn done → HasWaited race done t last → last_of done ≡ Some last → (reply : Option Reply) → (IsWaiting turn done reply → IsWaiting turn done race.aaaa ⊎ IsWaiting turn done race.a) → ((d : ℕ) → IsAnswerDue turn reply d → IsDue race turn done d) → Reaches (waiting_tick done (wait_end race done last) reply) t → IsDueBy race turn done t
due_waiting race r turn done last t all waited is None waiting answer h = absurd h
due_waiting race r turn done last t all waited is (Some reply) waiting answer h =
    let from : ℕ = wait_end race done last in
    let due : ℕ = last.tick + start_delay race turn done in
    let k : (list_any (λ ip. is_usable ip && is_untried done ip) reply.addresses ≡ true) × (max from reply.tick ≤ t) = reaches_if (list_any (λ ip. is_usable ip && is_untried done ip) reply.addresses) (max from reply.tick) t h in
    let delay : IsSomeAnd (last_of done) (λ x. x.tick + start_delay race turn done ≡ due) = subst (λ (o : Option Attempt). IsSomeAnd o (λ x. x.tick + start_delay race turn done ≡ due)) (sym is) refl in
    elim (taken_or_not turn reply) [
      | inl taken ↦ (due, inr (inr (inr (inl (record { delay = delay; some = waiting (taken, k.0) })))), delay_over race r turn done last t all (some_turn turn reply taken) waited)
      | inr not ↦ (reply.tick, answer reply.tick (not, refl), omega arith)
    ]
  where
    some_turn : (turn : Option ℕ) (reply : Reply) → IsTaken turn reply → IsSomeAnd turn (λ n. Unit {0})
    some_turn None reply h = h
    some_turn (Some n) reply h = tt

waiting_from : (done : List Attempt) (from : ℕ) (reply : Option Reply) (t : ℕ) → Reaches (waiting_tick done from reply) t → from ≤ t
waiting_from done from None t h = absurd h
waiting_from done from (Some reply) t h =
    let k : (list_any (λ ip. is_usable ip && is_untried done ip) reply.addresses ≡ true) × (max from reply.tick ≤ t) = reaches_if (list_any (λ ip. is_usable ip && is_untried done ip) reply.addresses) (max from reply.tick) t h in
    omega (arith, k.1)

due_follow : (race : Race) → IsRace race → (turn : Option ℕ) (done : List Attempt) (last : Attempt) (t : ℕ) → AreKnown race turn done → t < race.settings.limit → last_of done ≡ Some last → Reaches (start_after race done (Some last)) t → IsDueBy race turn done t
due_follow race r turn done last t all early is h =
    let from : ℕ = wait_end race done last in
    elim (earlier_one (waiting_tick done from race.aaaa) (waiting_tick done from race.a) t h) [
      | inl k ↦ due_waiting race r turn done last t all (waited_from race t early done last (waiting_from done from race.aaaa t k)) is race.aaaa (λ w. inl w) (λ d a. inl a) k
      | inr k ↦ due_waiting race r turn done last t all (waited_from race t early done last (waiting_from done from race.a t k)) is race.a (λ w. inr w) (λ d a. inr (inl a)) k
    ]

-- a list without a last member is empty
none_of : (done : List Attempt) → last_of done ≡ None → done ≡ []
none_of [] e = refl
none_of (x ∷ xs) e = absurd (last_of-some xs x e)

-- where a positive answer begins the race at once
due_positive : (race : Race) (turn : Option ℕ) (done : List Attempt) (t : ℕ) → IfSome turn (λ n. ¬ Reaches (start_tick race done) n) → (reply : Option Reply) → ((n : ℕ) → Reaches (positive_tick reply) n → Reaches (start_tick race done) n) → ((d : ℕ) → IsAnswerDue turn reply d → IsDue race turn done d) → Reaches (positive_tick reply) t → IsDueBy race turn done t
due_positive race turn done t rested None here answer h = absurd h
due_positive race turn done t rested (Some reply) here answer h =
    let k : (list_any is_usable reply.addresses ≡ true) × (reply.tick ≤ t) = reaches_if (list_any is_usable reply.addresses) reply.tick t h in
    elim (taken_or_not turn reply) [
      | inl taken ↦ absurd (refute turn rested taken k.0)
      | inr not ↦ (reply.tick, answer reply.tick (not, refl), k.1)
    ]
  where
    refute : (turn : Option ℕ) → IfSome turn (λ n. ¬ Reaches (start_tick race done) n) → IsTaken turn reply → list_any is_usable reply.addresses ≡ true → ⊥
    refute None rested taken some = taken
    refute (Some n) rested taken some = rested (here n (reaches_then (list_any is_usable reply.addresses) reply.tick n some taken))

-- where an A answer begins it, at once or after the Resolution Delay
due_a : (race : Race) (turn : Option ℕ) (done : List Attempt) (t : ℕ) → done ≡ [] → IfSome turn (λ n. ¬ Reaches (start_tick race done) n) → ((n : ℕ) → Reaches (a_tick race.settings.resolution race.aaaa race.a) n → Reaches (start_tick race done) n) → (aaaa a : Option Reply) → race.aaaa ≡ aaaa → race.a ≡ a → Reaches (a_tick race.settings.resolution aaaa a) t → IsDueBy race turn done t
due_a race turn done t none rested here aaaa None six four h = absurd h
due_a race turn done t none rested here aaaa (Some r) six four h =
    let k : (list_any is_usable r.addresses ≡ true) × (a_begin_tick race.settings.resolution aaaa r.tick ≤ t) = a_from (list_any is_usable r.addresses) race.settings.resolution r.tick t aaaa h in
    elim (taken_or_not turn r) [
      | inl taken ↦ by_aaaa aaaa six k.0 taken k.1
      | inr not ↦ (r.tick, inr (inl (rw four (not, refl))), after aaaa k.1)
    ]
  where
    after : (aaaa : Option Reply) → a_begin_tick race.settings.resolution aaaa r.tick ≤ t → r.tick ≤ t
    after None h = omega arith
    after (Some s) h = omega arith

    reached : (n : ℕ) (aaaa : Option Reply) → race.aaaa ≡ aaaa → list_any is_usable r.addresses ≡ true → a_begin_tick race.settings.resolution aaaa r.tick ≤ n → Reaches (start_tick race done) n
    reached n aaaa six some early = here n (rw (six, four) (a_if (list_any is_usable r.addresses) race.settings.resolution r.tick n aaaa some early))

    refute : (turn : Option ℕ) (s : Reply) → IfSome turn (λ n. ¬ Reaches (start_tick race done) n) → race.aaaa ≡ Some s → list_any is_usable r.addresses ≡ true → IsTaken turn r → IsTaken turn s → ⊥
    refute None s rested six some taken also = taken
    refute (Some n) s rested six some taken also =
        let one : r.tick ≤ n = taken in
        let two : s.tick ≤ n = also in
        rested (reached n (Some s) six some (omega arith))

    delay : (aaaa : Option Reply) → race.aaaa ≡ aaaa → ¬ IsSomeAnd aaaa (IsTaken turn) → list_any is_usable r.addresses ≡ true → IsTaken turn r → IsDelayDue race turn done (r.tick + race.settings.resolution)
    delay aaaa six not some taken = record { none = none; aaaa = rw six not; a = rw four (some, taken, refl) }

    by_aaaa : (aaaa : Option Reply) → race.aaaa ≡ aaaa → list_any is_usable r.addresses ≡ true → IsTaken turn r → a_begin_tick race.settings.resolution aaaa r.tick ≤ t → IsDueBy race turn done t
    by_aaaa None six some taken early = (r.tick + race.settings.resolution, inr (inr (inl (delay None six (λ h. h) some taken))), early)
    by_aaaa (Some s) six some taken early = elim (taken_or_not turn s) [
      | inl also ↦ absurd (refute turn s rested six some taken also)
      | inr not ↦ elim (cases_lt t s.tick) [
        | inl later ↦ (r.tick + race.settings.resolution, inr (inr (inl (delay (Some s) six not some taken))), omega arith)
        | inr by ↦ (s.tick, inl (rw six (not, refl)), omega arith)
      ]
    ]

due_begin : (race : Race) (turn : Option ℕ) (done : List Attempt) (t : ℕ) → last_of done ≡ None → IfSome turn (λ n. ¬ Reaches (start_tick race done) n) → Reaches (start_after race done None) t → IsDueBy race turn done t
due_begin race turn done t is rested h =
    let begins : (n : ℕ) → Reaches (start_after race done None) n → Reaches (start_tick race done) n = λ n k. subst (λ (o : Option Attempt). Reaches (start_after race done o) n) (sym is) k in
    elim (earlier_one (positive_tick race.aaaa) (a_tick race.settings.resolution race.aaaa race.a) t h) [
      | inl k ↦ due_positive race turn done t rested race.aaaa (λ n p. begins n (earlier_left (positive_tick race.aaaa) (a_tick race.settings.resolution race.aaaa race.a) n p)) (λ d a. inl a) k
      | inr k ↦ due_a race turn done t (none_of done is) rested (λ n p. begins n (earlier_right (positive_tick race.aaaa) (a_tick race.settings.resolution race.aaaa race.a) n p)) race.aaaa race.a refl refl k
    ]

due_by : (race : Race) → IsRace race → (turn : Option ℕ) (done : List Attempt) (t : ℕ) → AreKnown race turn done → t < race.settings.limit → IfSome turn (λ n. ¬ Reaches (start_tick race done) n) → (o : Option Attempt) → last_of done ≡ o → Reaches (start_after race done o) t → IsDueBy race turn done t
due_by race r turn done t all early rested None is h = due_begin race turn done t is rested h
due_by race r turn done t all early rested (Some last) is h = due_follow race r turn done last t all early is h

-- no attempt may start before the due tick is seen
pub due-no_sooner : (race : Race) → IsRace race → (turn : Option ℕ) (done : List Attempt) (w : ℕ) → IsAfterTurn race turn done → IsDueTick race turn done w → (t : ℕ) → MayStart race done t → seen race w ≤ t
due-no_sooner race r turn done w after is t m =
    let s : StartsAt race done t = StartsAt-MayStart race r done t m in
    let due : IsDueBy race turn done t = due_by race r turn done t (known race turn done after) s.early (not_reached race r turn done after) (last_of done) refl s.reached in
    let own : SeesOwn race t = SeesOwn-free race r t s.free in
    own.back w (let k : w ≤ due.0 = is.least due.0 due.1 in omega (arith, due.2))

pub due-at : (race : Race) → IsRace race → (turn : Option ℕ) (done : List Attempt) (w : ℕ) → IsAfterTurn race turn done → IsDueTick race turn done w → MayStart race done (seen race w) → IsLeast (MayStart race done) (seen race w)
due-at race r turn done w after is may = record { holds = may; least = λ t m. due-no_sooner race r turn done w after is t m }

pub due-never : (race : Race) → IsRace race → (turn : Option ℕ) (done : List Attempt) (w : ℕ) → IsAfterTurn race turn done → IsDueTick race turn done w → race.settings.limit ≤ seen race w → (t : ℕ) → ¬ MayStart race done t
due-never race r turn done w after is late t m =
    let k : seen race w ≤ t = due-no_sooner race r turn done w after is t m in
    omega (arith, m.0)

pub due-one : (race : Race) (turn : Option ℕ) (done : List Attempt) (v w : ℕ) → IsDueTick race turn done v → IsDueTick race turn done w → v ≡ w
due-one race turn done v w p q = omega (arith, p.least w q.holds, q.least v p.holds)

pub finish-succeeded : (race : Race) → IsRace race → (x : Attempt) (t : ℕ) → IsFree race t → x.tick ≤ t → t ≤ race.settings.limit → outcome_of race x.ip ≡ Some (outcomes.Ok (t - x.tick)) → fate_of race x ≡ Succeeded t
finish-succeeded race r x t free up by is =
    let at : x.tick + (t - x.tick) ≡ t = omega arith in
    let own : SeesOwn race t = SeesOwn-free race r t free in
    let s : IsSeen race t (seen race t) = IsSeen-seen race r t in
    let here : seen race t ≡ t = omega (arith, own.back t (omega arith), s.holds.0) in
    let in_time : nat_le t race.settings.limit ≡ true = le_test _ _ by in
    ap (fate_by race x.tick) is ∙ rw (at, here, in_time) refl

pub finish-failed : (race : Race) → IsRace race → (x : Attempt) (t : ℕ) → IsFree race t → x.tick ≤ t → t ≤ race.settings.limit → outcome_of race x.ip ≡ Some (outcomes.Fail (t - x.tick)) → fate_of race x ≡ Failed t
finish-failed race r x t free up by is =
    let at : x.tick + (t - x.tick) ≡ t = omega arith in
    let own : SeesOwn race t = SeesOwn-free race r t free in
    let s : IsSeen race t (seen race t) = IsSeen-seen race r t in
    let here : seen race t ≡ t = omega (arith, own.back t (omega arith), s.holds.0) in
    let in_time : nat_le t race.settings.limit ≡ true = le_test _ _ by in
    ap (fate_by race x.tick) is ∙ rw (at, here, in_time) refl

pub finish-silent : (race : Race) (x : Attempt) → outcome_of race x.ip ≡ None → fate_of race x ≡ Running
finish-silent race x is = ap (fate_by race x.tick) is

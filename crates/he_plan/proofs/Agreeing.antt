-- What two races share: at a tick at which both are free the same may start, and below a tick up to which they are
-- free at the same ticks the same happens.
use Rattle.std.proofs.Common.{◌≡◌, ℕ, ◌+◌, ◌≤◌, ◌<◌, ◌↔◌, ◌++◌, Bool, true, false, List, [], ◌∷◌, if◌then◌else◌, find, filter, Option, Some, None, MatchOption, IsSomeAnd, nat_le, nat_lt, refl, sym, ◌∙◌, ap, subst, arith, inl, inr}
use Rattle.std.specs.List.{All, list_all, list_any}
use Rattle.std.proofs.lemmas.Bool.{cases_lt}
use Rattle.std.proofs.lemmas.List.Elements.{All-head, All-tail}
use Rattle.he_addr.specs.declared.ip.Ip.{Ip}
use Rattle.he_addr.specs.Ip.{is_usable}
use Rattle.he_plan.specs.declared.attempts.Attempt.{Attempt}
use Rattle.he_plan.specs.declared.finish.Fate.{Fate}
use Rattle.he_plan.specs.declared.finish.Fate.TheVariants.{Succeeded, Failed, Running}
use Rattle.he_timeline.specs.declared.outcome.Outcome.{Outcome}
use Rattle.he_timeline.specs.declared.outcome.Outcome.TheVariants as outcomes
use Rattle.he_plan.specs.Agreement.{AgreeBelow, AreAlike, FailAlike}
use Rattle.he_plan.specs.Attempts.{AreNextInTurn, HasWaited, HaveFailed, IsAnswered, IsNext, IsPositive, MayBegin, MayFollow, MayStart, has_failed, has_failed_by, is_untried, last_of, order, order_at, received, received_of}
use Rattle.he_timeline.specs.Seen.{IsFree, IsSeen, seen}
use Rattle.he_plan.specs.Continuing.{Follow}
use Rattle.he_plan.specs.Finish.{fate_by, finish_of, known_at, known_by}
use Rattle.he_timeline.specs.Race.{outcome_of, Race, Reply}
use Rattle.he_plan.specs.Alternating.{interlace}
use Rattle.he_timeline.specs.Timeline.{IsRace}
use Rattle.he_timeline.proofs.Bools.{and_left, and_right, le_test, lt_from, not_le}
use Rattle.he_plan.proofs.InTurn.{follow-in_turn, in_turn-follow}
use Rattle.he_timeline.proofs.Seen.{IsSeen-seen}
use Rattle.he_plan.proofs.Starting.{SeesOwn, SeesOwn-free, StartsAt, StartsAt-MayStart}

-- the race with these outcomes and pauses
abbrev but : Race → List (Ip × Outcome) → List (ℕ × ℕ) → Race
but race outcomes pauses = record race { outcomes = outcomes; pauses = pauses }

same_test : (a b t : ℕ) → (a ≤ t → b ≤ t) → (b ≤ t → a ≤ t) → nat_le a t ≡ nat_le b t
same_test a b t to from = elim (cases_lt t a) [
  | inl late ↦ elim (cases_lt t b) [
    | inl later ↦ not_le a t late ∙ sym (not_le b t later)
    | inr early ↦ absurd (let k : a ≤ t = from (omega arith) in omega arith)
  ]
  | inr early ↦ le_test a t (omega arith) ∙ sym (le_test b t (to (omega arith)))
]

-- at a tick at which both races are free a tick is seen in both or in none
sees_same : (x y : Race) (t : ℕ) → SeesOwn x t → SeesOwn y t → (k : ℕ) → nat_le (seen x k) t ≡ nat_le (seen y k) t
sees_same x y t sx sy k = same_test (seen x k) (seen y k) t (λ h. sy.back k (sx.own k h)) (λ h. sx.back k (sy.own k h))

received_of-same : (x y : Race) (t : ℕ) → SeesOwn x t → SeesOwn y t → (reply : Option Reply) → received_of x t reply ≡ received_of y t reply
received_of-same x y t sx sy None = refl
received_of-same x y t sx sy (Some reply) =
    let f : Bool → List Ip = λ b. if b then filter is_usable reply.addresses else [] in
    ap f (sees_same x y t sx sy reply.tick)

received-same : (x : Race) (o : List (Ip × Outcome)) (p : List (ℕ × ℕ)) (t : ℕ) → SeesOwn x t → SeesOwn (but x o p) t → received x t ≡ received (but x o p) t
received-same x o p t sx sy =
    let f : List Ip → List Ip = λ ips. ips ++ received_of x t x.a in
    let g : List Ip → List Ip = λ ips. received_of (but x o p) t x.aaaa ++ ips in
    ap f (received_of-same x (but x o p) t sx sy x.aaaa) ∙ ap g (received_of-same x (but x o p) t sx sy x.a)

order-same : (x : Race) (o : List (Ip × Outcome)) (p : List (ℕ × ℕ)) (t : ℕ) → SeesOwn x t → SeesOwn (but x o p) t → order_at x t ≡ order_at (but x o p) t
order-same x o p t sx sy =
    let f : List Ip → List Ip = λ ips. interlace (order x ips) x.settings.count in
    ap f (received-same x o p t sx sy)

positive_same : (x y : Race) (t : ℕ) → SeesOwn x t → SeesOwn y t → (reply : Option Reply) → IsPositive x t reply → IsPositive y t reply
positive_same x y t sx sy None h = absurd h
positive_same x y t sx sy (Some reply) h = (h.0, sy.back reply.tick (sx.own reply.tick h.1))

answered_same : (x y : Race) (t : ℕ) → SeesOwn x t → SeesOwn y t → (reply : Option Reply) → IsAnswered x t reply → IsAnswered y t reply
answered_same x y t sx sy None h = absurd h
answered_same x y t sx sy (Some reply) h = sy.back reply.tick (sx.own reply.tick h)

delay_same : (x y : Race) (t delay : ℕ) → SeesOwn x t → SeesOwn y t → (reply : Option Reply) → IsSomeAnd reply (λ r. seen x (r.tick + delay) ≤ t) → IsSomeAnd reply (λ r. seen y (r.tick + delay) ≤ t)
delay_same x y t delay sx sy None h = absurd h
delay_same x y t delay sx sy (Some reply) h = sy.back (reply.tick + delay) (sx.own (reply.tick + delay) h)

waited_same : (x : Race) (o : List (Ip × Outcome)) (p : List (ℕ × ℕ)) (t : ℕ) (done : List Attempt) (last : Attempt) → (HaveFailed x done t → HaveFailed (but x o p) done t) → HasWaited x done t last → HasWaited (but x o p) done t last
waited_same x o p t done last failed (inl over) = inl over
waited_same x o p t done last failed (inr h) = inr (by_floor x.settings.floor h)
  where
    by_floor : (floor : Option ℕ) → IsSomeAnd floor (λ f. (last.tick + f ≤ t) × HaveFailed x done t) → IsSomeAnd floor (λ f. (last.tick + f ≤ t) × HaveFailed (but x o p) done t)
    by_floor None h = absurd h
    by_floor (Some f) h = (h.0, failed h.1)

-- what may start in a race may start in one that is alike, where both are free
starts_by : (x : Race) (o : List (Ip × Outcome)) (p : List (ℕ × ℕ)) (t : ℕ) → SeesOwn x t → SeesOwn (but x o p) t → IsFree (but x o p) t → (done : List Attempt) → (HaveFailed x done t → HaveFailed (but x o p) done t) → (last : Option Attempt) → MatchOption last (MayBegin x t) (MayFollow x done t) → MatchOption last (MayBegin (but x o p) t) (MayFollow (but x o p) done t)
starts_by x o p t sx sy free done failed None m = (
  free,
  elim m.1 [
    | inl six ↦ inl (positive_same x (but x o p) t sx sy x.aaaa six)
    | inr four ↦ inr (
      positive_same x (but x o p) t sx sy x.a four.0,
      elim four.1 [
        | inl answered ↦ inl (answered_same x (but x o p) t sx sy x.aaaa answered)
        | inr over ↦ inr (delay_same x (but x o p) t x.settings.resolution sx sy x.a over)
      ],
    )
  ],
)
starts_by x o p t sx sy free done failed (Some last) m =
    record { free = free; waited = waited_same x o p t done last failed m.waited; some = subst (λ (ips : List Ip). list_any (is_untried done) ips ≡ true) (received-same x o p t sx sy) m.some }

starts_same : (x : Race) (o : List (Ip × Outcome)) (p : List (ℕ × ℕ)) → IsRace x → IsRace (but x o p) → (done : List Attempt) (t : ℕ) → (HaveFailed x done t → HaveFailed (but x o p) done t) → IsFree x t → IsFree (but x o p) t → MayStart x done t → MayStart (but x o p) done t
starts_same x o p rx ry done t failed fx fy m = (m.0, starts_by x o p t (SeesOwn-free x rx t fx) (SeesOwn-free (but x o p) ry t fy) fy done failed (last_of done) m.1)

starts_both : (x : Race) (o : List (Ip × Outcome)) (p : List (ℕ × ℕ)) → IsRace x → IsRace (but x o p) → (done : List Attempt) (t : ℕ) → HaveFailed x done t ↔ HaveFailed (but x o p) done t → IsFree x t → IsFree (but x o p) t → MayStart x done t ↔ MayStart (but x o p) done t
starts_both x o p rx ry done t failed fx fy = (starts_same x o p rx ry done t failed.0 fx fy, starts_same (but x o p) x.outcomes x.pauses ry rx done t failed.1 fy fx)

-- of two races that are alike, by the equation that says so
by_alike : (P : Race → Type 0) (x y : Race) → AreAlike x y → P (but x y.outcomes y.pauses) → P y
by_alike P x y e h = subst P (sym e) h

of_alike : (P : Race → Type 0) (x y : Race) → AreAlike x y → P y → P (but x y.outcomes y.pauses)
of_alike P x y e h = subst P e h

pub starts-shared : (x y : Race) → IsRace x → IsRace y → AreAlike x y → (done : List Attempt) (t : ℕ) → HaveFailed x done t ↔ HaveFailed y done t → IsFree x t → IsFree y t → MayStart x done t ↔ MayStart y done t
starts-shared x y rx ry e done t failed fx fy =
    by_alike (λ z. MayStart x done t ↔ MayStart z done t) x y e (starts_both x y.outcomes y.pauses rx (of_alike IsRace x y e ry) done t (of_alike (λ z. HaveFailed x done t ↔ HaveFailed z done t) x y e failed) fx fy)

pub order-shared : (x y : Race) → IsRace x → IsRace y → AreAlike x y → (t : ℕ) → IsFree x t → IsFree y t → order_at x t ≡ order_at y t
order-shared x y rx ry e t fx fy =
    by_alike (λ z. order_at x t ≡ order_at z t) x y e (order-same x y.outcomes y.pauses t (SeesOwn-free x rx t fx) (SeesOwn-free (but x y.outcomes y.pauses) (of_alike IsRace x y e ry) t fy))

-- what starts, starts at a free tick
start_free : (race : Race) → IsRace race → (done : List Attempt) (t : ℕ) → MayStart race done t → IsFree race t
start_free race r done t m = let s : StartsAt race done t = StartsAt-MayStart race r done t m in s.free

-- attempts that have failed below the tick in both races or in neither
alike_at : (tick : ℕ) (x y : Race) (done : List Attempt) → FailAlike tick x y done → (t : ℕ) → t < tick → list_all (has_failed x t) done ≡ list_all (has_failed y t) done
alike_at tick x y [] alike t below = refl
alike_at tick x y (z ∷ done) alike t below = rw (alike.0 t below, alike_at tick x y done alike.1 t below)

have_failed : (tick : ℕ) (x y : Race) (done : List Attempt) → FailAlike tick x y done → (t : ℕ) → t < tick → HaveFailed x done t ↔ HaveFailed y done t
have_failed tick x y done alike t below = let same : list_all (has_failed x t) done ≡ list_all (has_failed y t) done = alike_at tick x y done alike t below in (λ h. sym same ∙ h, λ h. same ∙ h)

alike_more : (tick : ℕ) (x y : Race) (done : List Attempt) (next : Attempt) → FailAlike tick x y done → ((t : ℕ) → t < tick → has_failed x t next ≡ has_failed y t next) → FailAlike tick x y (done ++ next ∷ [])
alike_more tick x y [] next alike one = (one, tt)
alike_more tick x y (z ∷ done) next alike one = (alike.0, alike_more tick x y done next alike.1 one)

pub starts-below : (tick : ℕ) (x y : Race) → IsRace x → IsRace y → AgreeBelow tick x y → (done : List Attempt) → FailAlike tick x y done → (t : ℕ) → t < tick → MayStart x done t ↔ MayStart y done t
starts-below tick x y rx ry a done alike t below = (
  λ m. let fx : IsFree x t = start_free x rx done t m in (starts-shared x y rx ry a.alike done t (have_failed tick x y done alike t below) fx ((a.free t below).0 fx)).0 m,
  λ m. let fy : IsFree y t = start_free y ry done t m in (starts-shared x y rx ry a.alike done t (have_failed tick x y done alike t below) ((a.free t below).1 fy) fy).1 m,
)

next_below : (tick : ℕ) (x y : Race) → IsRace x → IsRace y → AgreeBelow tick x y → (done : List Attempt) → FailAlike tick x y done → (next : Attempt) → next.tick < tick → IsNext x done next → IsNext y done next
next_below tick x y rx ry a done alike next below is =
    let fx : IsFree x next.tick = start_free x rx done next.tick is.tick.holds in
    record {
      place = is.place;
      tick = record {
        holds = (starts-below tick x y rx ry a done alike next.tick below).0 is.tick.holds;
        least = λ t m. elim (cases_lt t next.tick) [
          | inl sooner ↦ is.tick.least t ((starts-below tick x y rx ry a done alike t (omega arith)).1 m)
          | inr later ↦ omega arith
        ];
      };
      ip = subst (λ (ips : List Ip). find (is_untried done) ips ≡ Some next.ip) (order-shared x y rx ry a.alike next.tick fx ((a.free next.tick below).0 fx)) is.ip;
    }

follow_below : (tick : ℕ) (x y : Race) → IsRace x → IsRace y → AgreeBelow tick x y → (done xs : List Attempt) → FailAlike tick x y done → FailAlike tick x y xs → list_all (λ (z : Attempt). nat_lt z.tick tick) xs ≡ true → Follow x done xs → Follow y done xs
follow_below tick x y rx ry a done [] before alike below f = tt
follow_below tick x y rx ry a done (next ∷ xs) before alike below f =
    (next_below tick x y rx ry a done before next (lt_from _ _ (and_left _ _ below)) f.0, follow_below tick x y rx ry a (done ++ next ∷ []) xs (alike_more tick x y done next before alike.0) alike.1 (and_right _ _ below) f.1)

pub in_turn-below : (tick : ℕ) (x y : Race) → IsRace x → IsRace y → AgreeBelow tick x y → (xs : List Attempt) → FailAlike tick x y xs → list_all (λ (z : Attempt). nat_lt z.tick tick) xs ≡ true → AreNextInTurn x xs → AreNextInTurn y xs
in_turn-below tick x y rx ry a xs alike below f = follow-in_turn y xs (follow_below tick x y rx ry a [] xs tt alike below (in_turn-follow x xs f))

-- a tick that is seen below the tick is seen there in both
seen_below : (tick : ℕ) (x y : Race) → IsRace x → IsRace y → ((t : ℕ) → t < tick → IsFree x t ↔ IsFree y t) → (k : ℕ) → seen x k < tick → seen y k ≡ seen x k
seen_below tick x y rx ry free k below =
    let sx : IsSeen x k (seen x k) = IsSeen-seen x rx k in
    let sy : IsSeen y k (seen y k) = IsSeen-seen y ry k in
    let first : seen y k ≤ seen x k = sy.least (seen x k) (sx.holds.0, (free (seen x k) below).0 sx.holds.1) in
    let second : seen x k ≤ seen y k = sx.least (seen y k) (sy.holds.0, (free (seen y k) (omega arith)).1 sy.holds.1) in
    omega arith

pub seen-below : (tick : ℕ) (x y : Race) → IsRace x → IsRace y → AgreeBelow tick x y → (k : ℕ) → seen x k < tick → seen y k ≡ seen x k
seen-below tick x y rx ry a k below = seen_below tick x y rx ry a.free k below

-- an attempt whose address has the same outcome has failed in both races or in neither
failed_same : (x y : Race) (t start : ℕ) → ((k : ℕ) → nat_le (seen x k) t ≡ nat_le (seen y k) t) → (o : Option Outcome) → has_failed_by x t start o ≡ has_failed_by y t start o
failed_same x y t start same None = refl
failed_same x y t start same (Some (outcomes.Ok duration)) = refl
failed_same x y t start same (Some (outcomes.Fail duration)) = same (start + duration)

pub failed-shared : (x y : Race) (t : ℕ) → SeesOwn x t → SeesOwn y t → ((ip : Ip) → outcome_of y ip ≡ outcome_of x ip) → (done : List Attempt) → list_all (has_failed x t) done ≡ list_all (has_failed y t) done
failed-shared x y t sx sy same [] = refl
failed-shared x y t sx sy same (z ∷ done) =
    let here : has_failed x t z ≡ has_failed y t z = failed_same x y t z.tick (sees_same x y t sx sy) (outcome_of x z.ip) ∙ ap (has_failed_by y t z.tick) (sym (same z.ip)) in
    rw (here, failed-shared x y t sx sy same done)

pub alike-below : (tick : ℕ) (x y : Race) → IsRace x → IsRace y → AgreeBelow tick x y → (attempts : List Attempt) → All (λ (z : Attempt). outcome_of y z.ip ≡ outcome_of x z.ip) attempts → FailAlike tick x y attempts
alike-below tick x y rx ry a [] same = tt
alike-below tick x y rx ry a (z ∷ attempts) same = (
  λ t below. failed_same x y t z.tick (seen_both t below) (outcome_of x z.ip) ∙ ap (has_failed_by y t z.tick) (sym (All-head (λ (w : Attempt). outcome_of y w.ip ≡ outcome_of x w.ip) z attempts same)),
  alike-below tick x y rx ry a attempts (All-tail (λ (w : Attempt). outcome_of y w.ip ≡ outcome_of x w.ip) z attempts same),
)
  where
    turned : (s : ℕ) → s < tick → IsFree y s ↔ IsFree x s
    turned s lt = ((a.free s lt).1, (a.free s lt).0)

    seen_both : (t : ℕ) → t < tick → (k : ℕ) → nat_le (seen x k) t ≡ nat_le (seen y k) t
    seen_both t below k =
        same_test (seen x k) (seen y k) t (λ h. omega (arith, seen_below tick x y rx ry a.free k (omega arith))) (λ h. omega (arith, seen_below tick y x ry rx turned k (omega arith)))

-- an attempt that finishes after a tick still runs there
known_late : (result : ℕ → Fate) (t limit finish : ℕ) → ((b : Bool) → nat_le finish t ≡ b → known_by t (result finish) ≡ (if b then result finish else Running)) → t < finish → known_by t (if nat_le finish limit then result finish else Running) ≡ Running
known_late result t limit finish own late = by_limit (nat_le finish limit)
  where
    by_limit : (b : Bool) → known_by t (if b then result finish else Running) ≡ Running
    by_limit true = own false (not_le finish t late)
    by_limit false = refl

known_both : (result : ℕ → Fate) (t limit f g : ℕ) → ((finish : ℕ) (b : Bool) → nat_le finish t ≡ b → known_by t (result finish) ≡ (if b then result finish else Running)) → (f ≤ t → g ≡ f) → (g ≤ t → f ≡ g) → known_by t (if nat_le g limit then result g else Running) ≡ known_by t (if nat_le f limit then result f else Running)
known_both result t limit f g own to from = elim (cases_lt t f) [
  | inl late ↦ known_late result t limit g (own g) (elim (cases_lt t g) [ inl k ↦ k | inr k ↦ absurd (let e : f ≡ g = from (omega arith) in omega arith) ]) ∙ sym (known_late result t limit f (own f) late)
  | inr early ↦ ap (λ h. known_by t (if nat_le h limit then result h else Running)) (to (omega arith))
]

known_ok : (t finish : ℕ) (b : Bool) → nat_le finish t ≡ b → known_by t (Succeeded finish) ≡ (if b then Succeeded finish else Running)
known_ok t finish b e = rw e

known_fail : (t finish : ℕ) (b : Bool) → nat_le finish t ≡ b → known_by t (Failed finish) ≡ (if b then Failed finish else Running)
known_fail t finish b e = rw e

known_outcome : (x : Race) (o : List (Ip × Outcome)) (p : List (ℕ × ℕ)) (t start : ℕ) → ((k : ℕ) → seen x k ≤ t → seen (but x o p) k ≡ seen x k) → ((k : ℕ) → seen (but x o p) k ≤ t → seen x k ≡ seen (but x o p) k) → (outcome : Option Outcome) → known_by t (fate_by (but x o p) start outcome) ≡ known_by t (fate_by x start outcome)
known_outcome x o p t start to from None = refl
known_outcome x o p t start to from (Some (outcomes.Ok duration)) =
    known_both Succeeded t x.settings.limit (finish_of x start duration) (finish_of (but x o p) start duration) (known_ok t) (to (start + duration)) (from (start + duration))
known_outcome x o p t start to from (Some (outcomes.Fail duration)) =
    known_both Failed t x.settings.limit (finish_of x start duration) (finish_of (but x o p) start duration) (known_fail t) (to (start + duration)) (from (start + duration))

known_same : (tick : ℕ) (x : Race) (o : List (Ip × Outcome)) (p : List (ℕ × ℕ)) → IsRace x → IsRace (but x o p) → ((t : ℕ) → t < tick → IsFree x t ↔ IsFree (but x o p) t) → (a : Attempt) (t : ℕ) → t < tick → outcome_of (but x o p) a.ip ≡ outcome_of x a.ip → known_at (but x o p) t a ≡ known_at x t a
known_same tick x o p rx ry free a t below same =
    let turned : (s : ℕ) → s < tick → IsFree (but x o p) s ↔ IsFree x s = λ s lt. ((free s lt).1, (free s lt).0) in
    ap (λ outcome. known_by t (fate_by (but x o p) a.tick outcome)) same
    ∙ known_outcome x o p t a.tick (λ k h. seen_below tick x (but x o p) rx ry free k (omega arith)) (λ k h. seen_below tick (but x o p) x ry rx turned k (omega arith)) (outcome_of x a.ip)

pub known-below : (tick : ℕ) (x y : Race) → IsRace x → IsRace y → AgreeBelow tick x y → (a : Attempt) (t : ℕ) → t < tick → outcome_of y a.ip ≡ outcome_of x a.ip → known_at y t a ≡ known_at x t a
known-below tick x y rx ry agree a t below same =
    by_alike (λ z. known_at z t a ≡ known_at x t a) x y agree.alike
    (known_same tick x y.outcomes y.pauses rx (of_alike IsRace x y agree.alike ry) agree.free a t below same)

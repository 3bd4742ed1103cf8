-- A race that stops: its transcript is known from the attempts before the stop, and from what became of them by then.
use Rattle.std.proofs.Common.{◌≡◌, ℕ, zero, suc, ◌≤◌, ◌<◌, ◌++◌, ◌&&◌, ◌||◌, Bool, true, false, not, List, [], ◌∷◌, if◌then◌else◌, length, map, filter, Option, Some, None, nat_le, nat_lt, refl, sym, ◌∙◌, ap, subst, arith, inl, inr}
use Rattle.std.specs.Prelude.{All, IfNone}
use Rattle.std.specs.List.{list_all, list_any, slice_get}
use Rattle.std.proofs.lemmas.Bool.{cases_lt}
use Rattle.std.proofs.lemmas.List.{append-nil, length-map}
use Rattle.std.proofs.lemmas.List.Folds.{list_any-append}
use Rattle.he_addr.specs.declared.ip.Ip.{Ip}
use Rattle.he_addr.specs.Ip.{InRange, is_usable}
use Rattle.he_plan.specs.declared.attempts.Attempt.{Attempt}
use Rattle.he_plan.specs.declared.finish.Fate.{Fate}
use Rattle.he_plan.specs.declared.finish.Fate.TheVariants.{Succeeded, Failed, Running, Skipped}
use Rattle.he_plan.specs.declared.transcript.Line.{Line}
use Rattle.he_plan.specs.declared.transcript.Mark.{Mark}
use Rattle.he_plan.specs.declared.transcript.Mark.TheVariants as marks
use Rattle.he_plan.specs.Attempts.{AreAttempts, MayStart, is_tried, is_untried, received, received_of}
use Rattle.he_timeline.specs.Seen.{seen}
use Rattle.he_plan.specs.Finish.{fate_of, known_at, known_by, IsWinner}
use Rattle.he_timeline.specs.Race.{outcome_of, Race, Reply, addresses_of}
use Rattle.he_plan.specs.Planning.{told_line, told_lines}
use Rattle.he_timeline.specs.Timeline.{IsRace}
use Rattle.he_plan.specs.Transcript.{AreKnown, IsTranscript, failed_mark, is_tried_out, is_place, line_of, lines_of, mark_at, result_of, stop_of}
use Rattle.he_timeline.proofs.Bools.{and_left, and_right, clash, or_none, le_from, le_test, not_lt}
use Rattle.he_plan.proofs.Existing.{plan-some}
use Rattle.he_plan.proofs.Finishing.{success-in_range, failure-in_range, not_skipped}
use Rattle.he_plan.proofs.Lawful.{attempts-prefix}
use Rattle.he_plan.proofs.Planned.{starts_any}
use Rattle.he_plan.proofs.Starting.{any_filter}

-- a success that is known is one, by the stop
known_is : (stop finish : ℕ) (fate : Fate) → known_by stop fate ≡ Succeeded finish → fate ≡ Succeeded finish
known_is stop finish (Succeeded f) h = by_stop (nat_le f stop) h
  where
    by_stop : (b : Bool) → (if b then Succeeded f else Running) ≡ Succeeded finish → Succeeded f ≡ Succeeded finish
    by_stop true h = h
    by_stop false h = cc
known_is stop finish (Failed f) h = absurd (by_stop (nat_le f stop) h)
  where
    by_stop : (b : Bool) → (if b then Failed f else Running) ≡ Succeeded finish → ⊥
    by_stop true h = cc
    by_stop false h = cc
known_is stop finish Running h = cc
known_is stop finish Skipped h = cc

fate_is : (x y : Fate) → Some x ≡ Some y → x ≡ y
fate_is x y h = cc

success_is : (x y : ℕ) → Succeeded x ≡ Succeeded y → x ≡ y
success_is x y h = cc

known_success : (race : Race) (stop finish : ℕ) (xs later : List Attempt) (i : ℕ) → slice_get (map (known_at race stop) xs) i ≡ Some (Succeeded finish) → slice_get (map (fate_of race) (xs ++ later)) i ≡ Some (Succeeded finish)
known_success race stop finish [] later i h = cc
known_success race stop finish (x ∷ xs) later zero h = ap Some (known_is stop finish (fate_of race x) (fate_is _ _ h))
known_success race stop finish (x ∷ xs) later (suc i) h = known_success race stop finish xs later i h

-- what starts at the stop or later succeeds after it
pub late_success : (race : Race) → IsRace race → (stop finish : ℕ) (later : List Attempt) (i : ℕ) → list_all (λ (x : Attempt). nat_le stop x.tick) later ≡ true → slice_get (map (fate_of race) later) i ≡ Some (Succeeded finish) → stop < finish
late_success race r stop finish [] i late h = cc
late_success race r stop finish (x ∷ later) zero late h =
    let after : stop ≤ x.tick = le_from _ _ (and_left _ _ late) in
    omega (arith, (success-in_range race r x finish (fate_is _ _ h)).0)
late_success race r stop finish (x ∷ later) (suc i) late h = late_success race r stop finish later i (and_right _ _ late) h

success_known : (race : Race) → IsRace race → (stop finish : ℕ) (xs later : List Attempt) (i : ℕ) → list_all (λ (x : Attempt). nat_le stop x.tick) later ≡ true → finish ≤ stop → slice_get (map (fate_of race) (xs ++ later)) i ≡ Some (Succeeded finish) → slice_get (map (known_at race stop) xs) i ≡ Some (Succeeded finish)
success_known race r stop finish [] later i late by h = absurd (omega (arith, late_success race r stop finish later i late h))
success_known race r stop finish (x ∷ xs) later zero late by h =
    let own : fate_of race x ≡ Succeeded finish = fate_is _ _ h in
    let in_time : nat_le finish stop ≡ true = le_test _ _ by in
    rw (own, in_time)
success_known race r stop finish (x ∷ xs) later (suc i) late by h = success_known race r stop finish xs later i late by h

wins_at : (race : Race) → IsRace race → (xs later : List Attempt) (w : ℕ × ℕ) → list_all (λ (x : Attempt). nat_le w.0 x.tick) later ≡ true → IsWinner (map (known_at race w.0) xs) (Some w) → IsWinner (map (fate_of race) (xs ++ later)) (Some w)
wins_at race r xs later w late wins = (
  known_success race w.0 w.0 xs later w.1 wins.0,
  λ key h. elim (cases_lt w.0 key.0) [
    | inl after ↦ inl after
    | inr by ↦ wins.1 key (success_known race r w.0 key.0 xs later key.1 late (omega arith) h)
  ],
)

-- what is known at the stop has the mark of what becomes of the attempt
known_mark : (stop place : ℕ) (winner : Option (ℕ × ℕ)) (fate : Fate) → mark_at stop winner place (known_by stop fate) ≡ mark_at stop winner place fate
known_mark stop place winner fate = mark_by (is_place winner place) fate
  where
    mark_by : (b : Bool) (fate : Fate) → (if b then marks.Won stop else failed_mark stop (known_by stop fate)) ≡ (if b then marks.Won stop else failed_mark stop fate)
    mark_by true fate = refl
    mark_by false (Succeeded f) = by_stop (nat_le f stop)
      where
        by_stop : (b : Bool) → failed_mark stop (if b then Succeeded f else Running) ≡ marks.Cancelled stop
        by_stop true = refl
        by_stop false = refl
    mark_by false (Failed f) = by_stop (nat_le f stop) refl
      where
        by_stop : (b : Bool) → nat_le f stop ≡ b → failed_mark stop (if b then Failed f else Running) ≡ (if b then marks.Failed f else marks.Cancelled stop)
        by_stop true e = rw e
        by_stop false e = refl
    mark_by false Running = refl
    mark_by false Skipped = refl

pub none_before : (stop : ℕ) (later : List Attempt) → list_all (λ (x : Attempt). nat_le stop x.tick) later ≡ true → filter (λ (x : Attempt). nat_lt x.tick stop) later ≡ []
none_before stop [] late = refl
none_before stop (x ∷ later) late =
    let out : nat_lt x.tick stop ≡ false = not_lt _ _ (le_from _ _ (and_left _ _ late)) in
    rw out (none_before stop later (and_right _ _ late))

line_is : (stop : ℕ) (winner : Option (ℕ × ℕ)) (x : Attempt) (fate : Fate) → told_line stop winner x (known_by stop fate) ≡ told_line stop winner x fate
line_is stop winner x fate =
    let f : Mark → Line = λ m. record { place = x.place; tick = x.tick; ip = x.ip; mark = m } in
    ap f (known_mark stop x.place winner fate)

lines_known : (race : Race) (winner : Option (ℕ × ℕ)) (xs later : List Attempt) → list_all (λ (x : Attempt). nat_le (stop_of race winner) x.tick) later ≡ true → told_lines (stop_of race winner) winner xs (map (known_at race (stop_of race winner)) xs) ≡ lines_of race winner (xs ++ later)
lines_known race winner [] later late = sym (ap (map (line_of race winner)) (none_before (stop_of race winner) later late))
lines_known race winner (x ∷ xs) later late = lines_by (nat_lt x.tick (stop_of race winner)) (line_is (stop_of race winner) winner x (fate_of race x)) (lines_known race winner xs later late)
  where
    lines_by : (b : Bool) → told_line (stop_of race winner) winner x (known_at race (stop_of race winner) x) ≡ line_of race winner x → told_lines (stop_of race winner) winner xs (map (known_at race (stop_of race winner)) xs) ≡ lines_of race winner (xs ++ later) → (if b then told_line (stop_of race winner) winner x (known_at race (stop_of race winner) x) ∷ [] else []) ++ told_lines (stop_of race winner) winner xs (map (known_at race (stop_of race winner)) xs) ≡ map (line_of race winner) (if b then x ∷ filter (λ y. nat_lt y.tick (stop_of race winner)) (xs ++ later) else filter (λ y. nat_lt y.tick (stop_of race winner)) (xs ++ later))
    lines_by true e rest = rw (e, rest)
    lines_by false e rest = rest

-- at the limit what is known of an attempt is what becomes of it
limit_fate : (race : Race) → IsRace race → (x : Attempt) → known_at race race.settings.limit x ≡ fate_of race x
limit_fate race r x = by_fate (fate_of race x) refl
  where
    by_fate : (fate : Fate) → fate_of race x ≡ fate → known_by race.settings.limit fate ≡ fate
    by_fate (Succeeded f) e = rw (le_test _ _ (success-in_range race r x f e).1)
    by_fate (Failed f) e = rw (le_test _ _ (failure-in_range race r x f e).1)
    by_fate Running e = refl
    by_fate Skipped e = absurd (not_skipped race x.tick (outcome_of race x.ip) e)

limit_fates : (race : Race) → IsRace race → (xs : List Attempt) → map (known_at race race.settings.limit) xs ≡ map (fate_of race) xs
limit_fates race r [] = refl
limit_fates race r (x ∷ xs) = rw (limit_fate race r x, limit_fates race r xs)

-- at the limit the attempts that are known are all
known_all : (race : Race) (attempts : List Attempt) (known : List Fate) → AreKnown race attempts known None → AreAttempts race attempts
known_all race attempts known k = record { in_turn = k.in_turn; no_more = λ t m. let late : race.settings.limit ≤ t = k.stops t m in omega (arith, m.0) }

pub known-all : (race : Race) (attempts : List Attempt) (known : List Fate) (winner : Option (ℕ × ℕ)) → AreKnown race attempts known winner → IfNone winner (AreAttempts race attempts)
known-all race attempts known None k = known_all race attempts known k
known-all race attempts known (Some w) k = tt

pub length-known : (race : Race) (attempts : List Attempt) (known : List Fate) (winner : Option (ℕ × ℕ)) → AreKnown race attempts known winner → length attempts ≡ length known
length-known race attempts known winner k = sym (ap length k.fates ∙ length-map attempts (known_at race (stop_of race winner)))

at_limit : (race : Race) → IsRace race → (attempts : List Attempt) (known : List Fate) → AreKnown race attempts known None → IsTranscript race (record { lines = told_lines race.settings.limit None attempts known; result = result_of race attempts known None })
at_limit race r attempts known k =
    let own : known ≡ map (fate_of race) attempts = k.fates ∙ limit_fates race r attempts in
    record {
      attempts = attempts;
      winner = None;
      are = known_all race attempts known k;
      wins = subst (λ (fates : List Fate). IsWinner fates None) own k.wins;
      lines = ap (told_lines race.settings.limit None attempts) k.fates ∙ lines_known race None attempts [] refl ∙ ap (lines_of race None) (append-nil attempts);
      result = ap (λ fates. result_of race attempts fates None) own;
    }

at_win : (race : Race) → IsRace race → (plan : (attempts : List Attempt) × AreAttempts race attempts) (attempts : List Attempt) (known : List Fate) (w : ℕ × ℕ) → AreKnown race attempts known (Some w) → IsTranscript race (record { lines = told_lines w.0 (Some w) attempts known; result = result_of race attempts known (Some w) })
at_win race r plan attempts known w k =
    let rest : (later : List Attempt) × (plan.0 ≡ attempts ++ later) × (list_all (λ (x : Attempt). nat_le w.0 x.tick) later ≡ true) = attempts-prefix race w.0 attempts plan.0 k.in_turn k.stops plan.1 in
    record {
      attempts = attempts ++ rest.0;
      winner = Some w;
      are = subst (λ (xs : List Attempt). AreAttempts race xs) rest.1 plan.1;
      wins = wins_at race r attempts rest.0 w rest.2 (subst (λ (fates : List Fate). IsWinner fates (Some w)) k.fates k.wins);
      lines = ap (told_lines w.0 (Some w) attempts) k.fates ∙ lines_known race (Some w) attempts rest.0 rest.2;
      result = refl;
    }

pub stopped-is : (race : Race) → IsRace race → All InRange (addresses_of race.aaaa) → All InRange (addresses_of race.a) → (attempts : List Attempt) (known : List Fate) (winner : Option (ℕ × ℕ)) → AreKnown race attempts known winner → IsTranscript race (record { lines = told_lines (stop_of race winner) winner attempts known; result = result_of race attempts known winner })
stopped-is race r six four attempts known None k = at_limit race r attempts known k
stopped-is race r six four attempts known (Some w) k = at_win race r (plan-some race r six four) attempts known w k

-- an address that is tried is not left
none_waits : (done : List Attempt) (ips : List Ip) → list_all (λ ip. not (is_usable ip) || is_tried done ip) ips ≡ true → list_any (λ ip. is_usable ip && is_untried done ip) ips ≡ false
none_waits done [] h = refl
none_waits done (ip ∷ ips) h = or_none _ _ (tried (is_usable ip) (is_tried done ip) (and_left _ _ h)) (none_waits done ips (and_right _ _ h))
  where
    tried : (a b : Bool) → (not a || b) ≡ true → (a && not b) ≡ false
    tried true true h = refl
    tried true false h = cc
    tried false b h = refl

none_received : (race : Race) (done : List Attempt) (t : ℕ) (reply : Reply) → is_tried_out done reply ≡ true → list_any (is_untried done) (received_of race t (Some reply)) ≡ false
none_received race done t reply h = by_tick (nat_le (seen race reply.tick) t)
  where
    by_tick : (b : Bool) → list_any (is_untried done) (if b then filter is_usable reply.addresses else []) ≡ false
    by_tick true = any_filter (is_untried done) is_usable reply.addresses ∙ none_waits done reply.addresses h
    by_tick false = refl

-- where each usable address of both answers was tried, no attempt may start
pub none_left-ends : (race : Race) (done : List Attempt) (aaaa a : Reply) → race.aaaa ≡ Some aaaa → race.a ≡ Some a → is_tried_out done aaaa ≡ true → is_tried_out done a ≡ true → (t : ℕ) → ¬ MayStart race done t
none_left-ends race done aaaa a six four tried6 tried4 t m =
    let none6 : list_any (is_untried done) (received_of race t race.aaaa) ≡ false = subst (λ (reply : Option Reply). list_any (is_untried done) (received_of race t reply) ≡ false) (sym six) (none_received race done t aaaa tried6) in
    let none4 : list_any (is_untried done) (received_of race t race.a) ≡ false = subst (λ (reply : Option Reply). list_any (is_untried done) (received_of race t reply) ≡ false) (sym four) (none_received race done t a tried4) in
    let none : list_any (is_untried done) (received race t) ≡ false = list_any-append (is_untried done) (received_of race t race.aaaa) (received_of race t race.a) ∙ or_none _ _ none6 none4 in
    clash _ (starts_any race done t m) none

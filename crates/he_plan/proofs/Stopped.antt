-- A race under way, and up to its stop: one more attempt of it, and its transcript.
use Rattle.std.proofs.Common.{◌≡◌, ℕ, zero, suc, ◌-◌, ◌≤◌, ◌++◌, Bool, true, false, List, [], ◌∷◌, if◌then◌else◌, length, drop, take, map, filter, Option, Some, None, nat_le, nat_lt, refl, sym, ◌∙◌, ap, subst, arith, inl, inr, length-append}
use Rattle.std.specs.Prelude.{All, IfNone}
use Rattle.std.specs.List.{list_all, slice_get}
use Rattle.std.proofs.lemmas.Bool.{cases_lt}
use Rattle.std.proofs.lemmas.List.{append-nil}
use Rattle.he_addr.specs.Ip.{InRange}
use Rattle.he_addr.specs.declared.ip.Ip.{Ip}
use Rattle.he_plan.specs.declared.attempts.Attempt.{Attempt}
use Rattle.he_plan.specs.declared.finish.Fate.{Fate}
use Rattle.he_plan.specs.declared.finish.Fate.TheVariants.{Succeeded}
use Rattle.he_plan.specs.Attempts.{AreAttempts, MayStart}
use Rattle.he_timeline.specs.Seen.{IsLeast}
use Rattle.he_plan.specs.Finish.{fate_of, IsWinner}
use Rattle.he_plan.specs.Planning.{told_line, told_lines}
use Rattle.he_timeline.specs.Race.{Race, addresses_of}
use Rattle.he_timeline.specs.Timeline.{IsRace}
use Rattle.he_plan.specs.Transcript.{IsTranscript, line_of, lines_of, result_of, stop_of}
use Rattle.he_plan.specs.RaceState.{AreFates, AreSorted, IsAtNext, IsStopped, IsUnderway, MakesNext, Progress, UntriedValues, counted, not_begun, nothing_received}
use Rattle.he_plan.proofs.Ends.{fates_more, underway-started, with_start}
use Rattle.he_plan.proofs.Existing.{plan-some}
use Rattle.he_plan.proofs.InTurn.{in_turn-more, in_turn-none}
use Rattle.he_plan.proofs.Lawful.{attempts-prefix}
use Rattle.he_plan.proofs.Planned.{last_in_range, start_later}
use Rattle.he_plan.proofs.Queued.{IsQueue-more, IsQueue-new, IsQueue-sorted}
use Rattle.he_plan.proofs.Stopping.{late_success, none_before}

pub underway-new : (race : Race) → IsUnderway race not_begun
underway-new race = record { in_turn = in_turn-none race; in_range = tt; fates = refl; failed = refl; latest = refl; queue = IsQueue-new race }

-- the same where the addresses are in order before
pub underway-sorted : (race : Race) (sorted : List Ip) → AreSorted race sorted → IsUnderway race (record not_begun { queue = record nothing_received { sorted = sorted } })
underway-sorted race sorted are =
    record { in_turn = in_turn-none race; in_range = tt; fates = refl; failed = refl; latest = refl; queue = IsQueue-sorted race [] nothing_received sorted (IsQueue-new race) are }

-- one more attempt, the next one, at the first address of the queue
pub underway-more : (race : Race) → IsRace race → (u : Progress) (q : UntriedValues) (x : Attempt) → IsUnderway race u → IsLeast (MayStart race u.attempts) x.tick → IsAtNext race u.attempts x.tick q → x.place ≡ length u.attempts → slice_get q.ips 0 ≡ Some x.ip → IsUnderway race (counted (with_start u x (fate_of race x) (record q { ips = drop 1 q.ips })) (fate_of race x))
underway-more race r u q x under least next place first =
    underway-started race u x (record q { ips = drop 1 q.ips }) under
    (in_turn-more race u.attempts x under.in_turn (record { place = place; tick = least; ip = next.first ∙ first }))
    (last_in_range u.attempts x (start_later race r u.attempts x.tick least.holds))
    (IsQueue-more race r u.attempts x q next first)

-- the fates before the last start
pub fates_before : (race : Race) (old new : Progress) (tick : ℕ) → AreFates race old → AreFates race new → MakesNext race old.attempts new.attempts tick → take (length new.fates - 1) new.fates ≡ old.fates
fates_before race old new tick was are makes =
    let all : new.fates ≡ old.fates ++ fate_of race makes.next ∷ [] = are ∙ ap (map (fate_of race)) makes.more ∙ sym (fates_more race old.attempts makes.next) ∙ ap (λ fates. fates ++ fate_of race makes.next ∷ []) (sym was) in
    let before : length (old.fates ++ fate_of race makes.next ∷ []) - 1 ≡ length old.fates = omega (arith, length-append old.fates (fate_of race makes.next ∷ [])) in
    rw (all, before) (take_front old.fates (fate_of race makes.next ∷ []))
  where
    take_front : (xs ys : List Fate) → take (length xs) (xs ++ ys) ≡ xs
    take_front [] ys = refl
    take_front (x ∷ xs) ys = ap (λ zs. x ∷ zs) (take_front xs ys)

kept : (race : Race) (xs later : List Attempt) (i : ℕ) (fate : Fate) → slice_get (map (fate_of race) xs) i ≡ Some fate → slice_get (map (fate_of race) (xs ++ later)) i ≡ Some fate
kept race [] later i fate h = cc
kept race (x ∷ xs) later zero fate h = h
kept race (x ∷ xs) later (suc i) fate h = kept race xs later i fate h

-- a success by the stop is one of an attempt that starts before it
early_success : (race : Race) → IsRace race → (stop finish : ℕ) (xs later : List Attempt) (i : ℕ) → list_all (λ (x : Attempt). nat_le stop x.tick) later ≡ true → finish ≤ stop → slice_get (map (fate_of race) (xs ++ later)) i ≡ Some (Succeeded finish) → slice_get (map (fate_of race) xs) i ≡ Some (Succeeded finish)
early_success race r stop finish [] later i late by h = absurd (omega (arith, late_success race r stop finish later i late h))
early_success race r stop finish (x ∷ xs) later zero late by h = h
early_success race r stop finish (x ∷ xs) later (suc i) late by h = early_success race r stop finish xs later i late by h

wins_all : (race : Race) → IsRace race → (xs later : List Attempt) (w : ℕ × ℕ) → list_all (λ (x : Attempt). nat_le w.0 x.tick) later ≡ true → IsWinner (map (fate_of race) xs) (Some w) → IsWinner (map (fate_of race) (xs ++ later)) (Some w)
wins_all race r xs later w late wins = (
  kept race xs later w.1 (Succeeded w.0) wins.0,
  λ key h. elim (cases_lt w.0 key.0) [
    | inl after ↦ inl after
    | inr by ↦ wins.1 key (early_success race r w.0 key.0 xs later key.1 late (omega arith) h)
  ],
)

lines_all : (race : Race) (winner : Option (ℕ × ℕ)) (xs later : List Attempt) → list_all (λ (x : Attempt). nat_le (stop_of race winner) x.tick) later ≡ true → told_lines (stop_of race winner) winner xs (map (fate_of race) xs) ≡ lines_of race winner (xs ++ later)
lines_all race winner [] later late = sym (ap (map (line_of race winner)) (none_before (stop_of race winner) later late))
lines_all race winner (x ∷ xs) later late = lines_by (nat_lt x.tick (stop_of race winner)) (lines_all race winner xs later late)
  where
    lines_by : (b : Bool) → told_lines (stop_of race winner) winner xs (map (fate_of race) xs) ≡ lines_of race winner (xs ++ later) → (if b then told_line (stop_of race winner) winner x (fate_of race x) ∷ [] else []) ++ told_lines (stop_of race winner) winner xs (map (fate_of race) xs) ≡ map (line_of race winner) (if b then x ∷ filter (λ y. nat_lt y.tick (stop_of race winner)) (xs ++ later) else filter (λ y. nat_lt y.tick (stop_of race winner)) (xs ++ later))
    lines_by true rest = ap (λ lines. line_of race winner x ∷ lines) rest
    lines_by false rest = rest

to_limit_all : (race : Race) (u : Progress) → IsStopped race u None → AreAttempts race u.attempts
to_limit_all race u k = record { in_turn = k.kept.in_turn; no_more = λ t m. let late : race.settings.limit ≤ t = k.stops t m in omega (arith, m.0) }

pub stopped-all : (race : Race) (u : Progress) (winner : Option (ℕ × ℕ)) → IsStopped race u winner → IfNone winner (AreAttempts race u.attempts)
stopped-all race u None k = to_limit_all race u k
stopped-all race u (Some w) k = tt

to_limit : (race : Race) (u : Progress) → IsStopped race u None → IsTranscript race (record { lines = told_lines race.settings.limit None u.attempts u.fates; result = result_of race u.attempts u.fates None })
to_limit race u k = record {
  attempts = u.attempts;
  winner = None;
  are = to_limit_all race u k;
  wins = subst (λ (told : List Fate). IsWinner told None) k.kept.fates k.wins;
  lines = ap (told_lines race.settings.limit None u.attempts) k.kept.fates ∙ lines_all race None u.attempts [] refl ∙ ap (lines_of race None) (append-nil u.attempts);
  result = ap (λ told. result_of race u.attempts told None) k.kept.fates;
}

to_win : (race : Race) → IsRace race → (plan : (attempts : List Attempt) × AreAttempts race attempts) (u : Progress) (w : ℕ × ℕ) → IsStopped race u (Some w) → IsTranscript race (record { lines = told_lines w.0 (Some w) u.attempts u.fates; result = result_of race u.attempts u.fates (Some w) })
to_win race r plan u w k =
    let rest : (later : List Attempt) × (plan.0 ≡ u.attempts ++ later) × (list_all (λ (x : Attempt). nat_le w.0 x.tick) later ≡ true) = attempts-prefix race w.0 u.attempts plan.0 k.kept.in_turn k.stops plan.1 in
    record {
      attempts = u.attempts ++ rest.0;
      winner = Some w;
      are = subst (λ (xs : List Attempt). AreAttempts race xs) rest.1 plan.1;
      wins = wins_all race r u.attempts rest.0 w rest.2 (subst (λ (told : List Fate). IsWinner told (Some w)) k.kept.fates k.wins);
      lines = ap (told_lines w.0 (Some w) u.attempts) k.kept.fates ∙ lines_all race (Some w) u.attempts rest.0 rest.2;
      result = refl;
    }

pub stopped-is : (race : Race) → IsRace race → All InRange (addresses_of race.aaaa) → All InRange (addresses_of race.a) → (u : Progress) (winner : Option (ℕ × ℕ)) → IsStopped race u winner → IsTranscript race (record { lines = told_lines (stop_of race winner) winner u.attempts u.fates; result = result_of race u.attempts u.fates winner })
stopped-is race r six four u None k = to_limit race u k
stopped-is race r six four u (Some w) k = to_win race r (plan-some race r six four) u w k

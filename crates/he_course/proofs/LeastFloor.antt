-- A floor changes nothing in a race whose first attempt does not fail.
use Rattle.std.proofs.Common.{◌≡◌, ℕ, ◌+◌, ◌≤◌, ◌++◌, if◌then◌else◌, Bool, true, false, not, List, [], ◌∷◌, map, filter, min, Option, Some, None, nat_le, nat_lt, refl, sym, ◌∙◌, ap, subst, arith, inl, inr}
use Rattle.std.specs.Prelude.{IsSomeAnd, MatchOption}
use Rattle.std.specs.List.{list_all}
use Rattle.std.proofs.lemmas.Bool.{cases_lt}
use Rattle.he_addr.specs.declared.ip.Ip.{Ip}
use Rattle.he_plan.specs.declared.attempts.Attempt.{Attempt}
use Rattle.he_timeline.specs.declared.limits.TheConstants.{MIN_FLOOR}
use Rattle.he_timeline.specs.declared.outcome.Outcome.{Outcome}
use Rattle.he_timeline.specs.declared.outcome.Outcome.TheVariants as outcomes
use Rattle.he_plan.specs.declared.transcript.Line.{Line}
use Rattle.he_plan.specs.Attempts.{AreAttempts, HasWaited, HaveFailed, IsNext, MayBegin, MayFollow, MayStart, has_failed, has_failed_by, last_of}
use Rattle.he_timeline.specs.Race.{outcome_of, Race}
use Rattle.he_plan.specs.Continuing.{Continues}
use Rattle.he_plan.specs.Transcript.{IsTranscript, Report, line_of, lines_of, stop_of}
use Rattle.he_timeline.proofs.Bools.{and_left, and_right, clash, le_from, lt_test, not_lt}
use Rattle.he_plan.proofs.InTurn.{are-continues, continues-are, in_turn-none}
use Rattle.he_plan.proofs.Lawful.{attempts-prefix}
use Rattle.he_course.specs.Beginning.{begins_unfailing, is_failure}
use Rattle.he_course.specs.LeastFloor.{floored}

-- the race with another floor, or none
with_floor : Race → Option ℕ → Race
with_floor race floor = record race { settings = record race.settings { floor = floor } }

-- an attempt that never fails
abbrev NeverFails : Race → Attempt → Type 0
NeverFails race x = (t : ℕ) → has_failed race t x ≡ false

never_by : (race : Race) (start : ℕ) (outcome : Option Outcome) → is_failure outcome ≡ false → (t : ℕ) → has_failed_by race t start outcome ≡ false
never_by race start None h t = refl
never_by race start (Some (outcomes.Ok duration)) h t = refl
never_by race start (Some (outcomes.Fail duration)) h t = cc

not_failure : (b : Bool) → not b ≡ true → b ≡ false
not_failure false h = refl
not_failure true h = cc

failed_of : (floor : Option ℕ) (P : ℕ → Type 0) (Q : Type 0) → IsSomeAnd floor (λ n. P n × Q) → Q
failed_of None P Q h = absurd h
failed_of (Some n) P Q h = h.1

-- after it the floor is of no account
module _ (race : Race) (x : Attempt) (never : NeverFails race x) where
  waited : (f g : Option ℕ) (done : List Attempt) (t : ℕ) (last : Attempt) → HasWaited (with_floor race f) (x ∷ done) t last → HasWaited (with_floor race g) (x ∷ done) t last
  unfolding with_floor
  waited f g done t last (inl over) = inl over
  waited f g done t last (inr by) =
      absurd (clash (has_failed race t x) (and_left _ _ (failed_of f (λ n. last.tick + n ≤ t) (HaveFailed race (x ∷ done) t) by)) (never t))

  may_by : (f g : Option ℕ) (done : List Attempt) (t : ℕ) (o : Option Attempt) → MatchOption o (MayBegin (with_floor race f) t) (MayFollow (with_floor race f) (x ∷ done) t)
      → MatchOption o (MayBegin (with_floor race g) t) (MayFollow (with_floor race g) (x ∷ done) t)
  unfolding with_floor
  may_by f g done t None may = may
  may_by f g done t (Some last) may = record { free = may.free; waited = waited f g done t last may.waited; some = may.some }

  may_start : (f g : Option ℕ) (done : List Attempt) (t : ℕ) → MayStart (with_floor race f) (x ∷ done) t → MayStart (with_floor race g) (x ∷ done) t
  unfolding with_floor
  may_start f g done t may = (may.0, may_by f g done t (last_of (x ∷ done)) may.1)

  is_next : (f g : Option ℕ) (done : List Attempt) (next : Attempt) → IsNext (with_floor race f) (x ∷ done) next → IsNext (with_floor race g) (x ∷ done) next
  unfolding with_floor
  is_next f g done next is = record {
    place = is.place;
    tick = record { holds = may_start f g done next.tick is.tick.holds; least = λ t may. is.tick.least t (may_start g f done t may) };
    ip = is.ip;
  }

  continues : (f g : Option ℕ) (done xs : List Attempt) → Continues (with_floor race f) (x ∷ done) xs → Continues (with_floor race g) (x ∷ done) xs
  continues f g done [] none = λ t may. none t (may_start g f done t may)
  continues f g done (next ∷ more) c = (is_next f g done next c.0, continues f g (done ++ next ∷ []) more c.1)

first_is : (race : Race) (f g : Option ℕ) (next : Attempt) → IsNext (with_floor race f) [] next → IsNext (with_floor race g) [] next
unfolding with_floor
first_is race f g next is = record { place = is.place; tick = record { holds = is.tick.holds; least = is.tick.least }; ip = is.ip }

-- so the race has the same attempts
attempts_are : (race : Race) (f g : Option ℕ) (x : Attempt) (more : List Attempt) → NeverFails race x → AreAttempts (with_floor race f) (x ∷ more) → AreAttempts (with_floor race g) (x ∷ more)
attempts_are race f g x more never are =
    let c : Continues (with_floor race f) [] (x ∷ more) = are-continues (with_floor race f) (x ∷ more) are in
    continues-are (with_floor race g) (x ∷ more) (first_is race f g x c.0, continues race x never f g [] more c.1)

-- of attempts that start at the stop or later none is told
none_told : (stop from : ℕ) (xs : List Attempt) → stop ≤ from → list_all (λ (x : Attempt). nat_le from x.tick) xs ≡ true → filter (λ (x : Attempt). nat_lt x.tick stop) xs ≡ []
none_told stop from [] late all = refl
none_told stop from (x ∷ xs) late all =
    let after : from ≤ x.tick = le_from _ _ (and_left _ _ all) in
    let out : nat_lt x.tick stop ≡ false = not_lt x.tick stop (omega (arith, after, late)) in
    rw out (none_told stop from xs late (and_right _ _ all))

-- the first line is that of the first attempt
first_told : (race : Race) (winner : Option (ℕ × ℕ)) (stop : ℕ) (x : Attempt) (more : List Attempt) (line : Line) (lines : List Line) → list_all (λ (y : Attempt). nat_le x.tick y.tick) (x ∷ more) ≡ true
    → line ∷ lines ≡ map (line_of race winner) (filter (λ (y : Attempt). nat_lt y.tick stop) (x ∷ more)) → line.ip ≡ x.ip
first_told race winner stop x more line lines all is = elim (cases_lt x.tick stop) [
  | inl less ↦
      let told : line ∷ lines ≡ map (line_of race winner) (x ∷ filter (λ (y : Attempt). nat_lt y.tick stop) more) =
      is ∙ ap (λ (b : Bool). map (line_of race winner) (if b then x ∷ filter (λ (y : Attempt). nat_lt y.tick stop) more else filter (λ (y : Attempt). nat_lt y.tick stop) more)) (lt_test x.tick stop less)
      in
      cc
  | inr after ↦
      let nothing : line ∷ lines ≡ [] = is ∙ ap (map (line_of race winner)) (none_told stop x.tick (x ∷ more) after all) in
      cc
]

-- the attempts of a race whose lines begin with one that does not fail
attempts_told : (race : Race) (g : Option ℕ) (winner : Option (ℕ × ℕ)) (attempts : List Attempt) (lines : List Line) → AreAttempts race attempts → lines ≡ lines_of race winner attempts
    → begins_unfailing race lines ≡ true → AreAttempts (with_floor race g) attempts
unfolding with_floor
attempts_told race g winner [] lines are told h =
    let none : false ≡ true = subst (λ (l : List Line). begins_unfailing race l ≡ true) told h in
    cc
attempts_told race g winner (x ∷ more) [] are told h = cc
attempts_told race g winner (x ∷ more) (line ∷ lines) are told h =
    let c : Continues race [] (x ∷ more) = are-continues race (x ∷ more) are in
    let from = attempts-prefix race x.tick [] (x ∷ more) (in_turn-none race) c.0.tick.least are in
    let in_order : list_all (λ (y : Attempt). nat_le x.tick y.tick) (x ∷ more) ≡ true =
    subst (λ (ys : List Attempt). list_all (λ (y : Attempt). nat_le x.tick y.tick) ys ≡ true) (sym from.1) from.2
    in
    let ip : line.ip ≡ x.ip = first_told race winner (stop_of race winner) x more line lines in_order told in
    let never : NeverFails race x = never_by race x.tick (outcome_of race x.ip) (not_failure _ (subst (λ (i : Ip). not (is_failure (outcome_of race i)) ≡ true) ip h)) in
    attempts_are race race.settings.floor g x more never are

pub floor_free : (race : Race) (report : Report) → begins_unfailing race report.lines ≡ true → IsTranscript race report → IsTranscript (floored race) report
unfolding with_floor
floor_free race report h is =
    record {
      attempts = is.attempts;
      winner = is.winner;
      are = attempts_told race (Some (min race.settings.attempt MIN_FLOOR)) is.winner is.attempts report.lines is.are is.lines h;
      wins = is.wins;
      lines = is.lines;
      result = is.result;
    }

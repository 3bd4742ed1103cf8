-- The starts of a course are those of the race's attempts, one after the other.
use Rattle.std.proofs.Common.{◌≡◌, ℕ, ◌+◌, ◌≤◌, ◌++◌, Bool, true, false, cond, List, [], ◌∷◌, filter, map, refl, sym, subst, arith, inl, inr, nat_lt}
use Rattle.std.specs.Prelude.{Option, None, Some, IsSomeAnd, MatchOption}
use Rattle.he_plan.specs.declared.attempts.Attempt.{Attempt}
use Rattle.he_plan.specs.declared.transcript.Line.{Line}
use Rattle.he_plan.specs.Attempts.{HaveFailed, MayBegin, MayFollow, last_of}
use Rattle.he_plan.specs.Continuing.{Follow}
use Rattle.he_timeline.specs.Race.{Race}
use Rattle.he_plan.specs.Transcript.{line_of, stop_of}
use Rattle.he_timeline.proofs.Bools.{not_lt}
use Rattle.he_plan.proofs.InTurn.{in_turn-follow}
use Rattle.he_plan.proofs.Planned.{last_of-more}
use Rattle.he_course.specs.Events.{start_events}
use Rattle.he_course.specs.Laws.{AreStarts, StartsStand}
use Rattle.he_course.proofs.CauseLaws.{not_before}
use Rattle.he_course.proofs.FloorLaws.{last_failure_more}
use Rattle.he_course.specs.Causes.{last_failure}

past_floor : (o : Option ℕ) (n t : ℕ) (F : Type 0) → IsSomeAnd o (λ floor. (n + floor ≤ t) × F) → n ≤ t
past_floor None n t F h = absurd h
past_floor (Some floor) n t F h = omega (arith, h.0)

-- a later attempt starts no earlier
no_sooner : (race : Race) (done : List Attempt) (last : Attempt) (t : ℕ) → last_of done ≡ Some last → MatchOption (last_of done) (MayBegin race t) (MayFollow race done t) → last.tick ≤ t
no_sooner race done last t e may =
    let At : Option Attempt → Type 0 = λ o. MatchOption o (MayBegin race t) (MayFollow race done t) in
    let now : MayFollow race done t last = subst At e may in
    elim now.waited [
      | inl over ↦ omega (arith, over)
      | inr waited ↦ past_floor race.settings.floor last.tick t (HaveFailed race done t) waited
    ]

none_below : (race : Race) (stop : ℕ) (done : List Attempt) (last : Attempt) (xs : List Attempt) → last_of done ≡ Some last → stop ≤ last.tick → Follow race done xs
    → filter (λ (x : Attempt). nat_lt x.tick stop) xs ≡ []
none_below race stop done last [] e late f = refl
none_below race stop done last (x ∷ xs) e late f =
    let after : last.tick ≤ x.tick = no_sooner race done last x.tick e f.0.tick.holds.1 in
    let out : nat_lt x.tick stop ≡ false = not_lt x.tick stop (omega (arith, after, late)) in
    rw out (none_below race stop (done ++ x ∷ []) x xs (last_of-more done x) (omega (arith, after, late)) f.1)

-- those below a stop are the first ones
follow_below : (race : Race) (stop : ℕ) (done xs : List Attempt) → Follow race done xs → Follow race done (filter (λ (x : Attempt). nat_lt x.tick stop) xs)
follow_below race stop done [] f = tt
follow_below race stop done (x ∷ xs) f = at_head (nat_lt x.tick stop) refl (follow_below race stop (done ++ x ∷ []) xs f.1)
  where
    rest : List Attempt
    rest = filter (λ (y : Attempt). nat_lt y.tick stop) xs

    at_head : (b : Bool) → nat_lt x.tick stop ≡ b → Follow race (done ++ x ∷ []) rest → Follow race done (cond b (x ∷ rest) rest)
    at_head true e more = (f.0, more)
    at_head false e more =
        subst (λ ys. Follow race done ys)
        (sym (none_below race stop (done ++ x ∷ []) x xs (last_of-more done x) (not_before x.tick stop e) f.1)) tt

starts_follow : (race : Race) (winner : Option (ℕ × ℕ)) (done xs : List Attempt) → Follow race done xs
    → AreStarts race done (start_events race (last_of done) (last_failure race done) (map (line_of race winner) xs))
starts_follow race winner done [] f = tt
starts_follow race winner done (x ∷ xs) f =
    let rest : List Line = map (line_of race winner) xs in (
      x,
      f.0,
      refl,
      subst (λ n. AreStarts race (done ++ x ∷ []) (start_events race (Some x) n rest)) (last_failure_more race done x)
          (subst (λ o. AreStarts race (done ++ x ∷ []) (start_events race o (last_failure race (done ++ x ∷ [])) rest)) (last_of-more done x)
          (starts_follow race winner (done ++ x ∷ []) xs f.1)),
    )

pub starts_stand : StartsStand
starts_stand race report is =
    let stop : ℕ = stop_of race is.winner in
    subst (λ (lines : List Line). AreStarts race [] (start_events race None (Some 0) lines)) (sym is.lines)
    (starts_follow race is.winner [] (filter (λ (x : Attempt). nat_lt x.tick stop) is.attempts)
    (follow_below race stop [] is.attempts (in_turn-follow race is.attempts is.are.in_turn)))

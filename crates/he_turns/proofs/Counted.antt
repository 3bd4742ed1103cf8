-- A race that is being run has few attempts and pauses: each attempt is at an address that was untried before, and for
-- each pause an answer was taken or an attempt made.
use Rattle.std.proofs.Common.{◌≡◌, ℕ, ◌+◌, ◌≤◌, ◌<◌, ◌⊎◌, ◌++◌, Bool, true, false, List, [], ◌∷◌, if◌then◌else◌, length, filter, Option, Some, None, IfSome, nat_le, refl, arith, inl, inr, length-append}
use Rattle.std.proofs.lemmas.List.Sums.{count_by-le-length, length-filter}
use Rattle.he_addr.specs.Ip.{is_usable}
use Rattle.he_addr.specs.declared.ip.Family.{Family}
use Rattle.he_addr.specs.declared.ip.Family.TheVariants as families
use Rattle.he_plan.specs.declared.attempts.Attempt.{Attempt}
use Rattle.he_timeline.specs.declared.limits.TheConstants.{MAX_ADDRESSES, MAX_ATTEMPTS, MAX_PAUSES}
use Rattle.he_plan.specs.Attempts.{AreNextInTurn, is_untried}
use Rattle.he_plan.specs.Continuing.{Follow}
use Rattle.he_plan.specs.Due.{IsAnswerDue, IsTaken}
use Rattle.he_timeline.specs.Race.{Race, Reply, addresses_of}
use Rattle.he_timeline.specs.Timeline.{IsRace, is_answer}
use Rattle.he_timeline.proofs.Bools.{and_left, and_right, le_from, le_test}
use Rattle.he_plan.proofs.Few.{left_of, untried_fewer}
use Rattle.he_plan.proofs.InTurn.{in_turn-follow}
use Rattle.he_turns.specs.Answered.{is_taken}
use Rattle.he_turns.specs.Kept.{first_after, taken, taken_of}

no_longer : (race : Race) (done xs : List Attempt) → Follow race done xs → length xs ≤ left_of race done
no_longer race done [] f = omega arith
no_longer race done (x ∷ xs) f =
    let rest : length xs ≤ left_of race (done ++ x ∷ []) = no_longer race (done ++ x ∷ []) xs f.1 in
    let below : left_of race (done ++ x ∷ []) < left_of race done = untried_fewer race done x f.0 in
    omega arith

answer_few : (family : Family) (reply : Option Reply) → is_answer family reply ≡ true → length (addresses_of reply) ≤ MAX_ADDRESSES
answer_few family None h = omega arith
answer_few family (Some reply) h = le_from _ _ (and_right _ _ (and_left _ _ (and_left _ _ h)))

-- no more attempts are made than there are addresses
pub made-few : (race : Race) → IsRace race → (xs : List Attempt) → AreNextInTurn race xs → length xs ≤ MAX_ATTEMPTS
made-few race r xs turn =
    let six = filter is_usable (addresses_of race.aaaa) in
    let four = filter is_usable (addresses_of race.a) in
    omega (arith, no_longer race [] xs (in_turn-follow race xs turn), length-filter (is_untried []) (six ++ four), count_by-le-length (is_untried []) (six ++ four), length-append six four, length-filter is_usable (addresses_of race.aaaa), length-filter is_usable (addresses_of race.a), count_by-le-length is_usable (addresses_of race.aaaa), count_by-le-length is_usable (addresses_of race.a), answer_few families.V6 race.aaaa r.aaaa, answer_few families.V4 race.a r.a)

one_at_most : (b : Bool) → (if b then 1 else 0) ≤ 1
one_at_most true = omega arith
one_at_most false = omega arith

taken_most : (turn : Option ℕ) (reply : Option Reply) → taken_of turn reply ≤ 1
taken_most turn None = omega arith
taken_most turn (Some reply) = one_at_most (is_taken turn reply.tick)

-- there is room for one more pause
pub pauses-few : (race : Race) → IsRace race → (turn : Option ℕ) (xs : List Attempt) → AreNextInTurn race xs → length race.pauses ≤ taken turn race + length xs → length race.pauses < MAX_PAUSES
pauses-few race r turn xs made few = omega (arith, few, made-few race r xs made, taken_most turn race.aaaa, taken_most turn race.a)

-- what was taken stays so
taken_later : (turn : Option ℕ) (now : ℕ) → first_after turn ≤ now → (reply : Option Reply) → taken_of turn reply ≤ taken_of (Some now) reply
taken_later turn now up None = omega arith
taken_later None now up (Some r) = omega arith
taken_later (Some n) now up (Some r) = by_test (nat_le r.tick n) refl
  where
    by_test : (b : Bool) → nat_le r.tick n ≡ b → (if b then 1 else 0) ≤ (if nat_le r.tick now then 1 else 0)
    by_test false e = omega arith
    by_test true e = rw (le_test r.tick now (omega (arith, le_from r.tick n e))) (omega arith)

pub all_taken_later : (turn : Option ℕ) (now : ℕ) → first_after turn ≤ now → (race : Race) → taken turn race ≤ taken (Some now) race
all_taken_later turn now up race = omega (arith, taken_later turn now up race.aaaa, taken_later turn now up race.a)

-- an answer that is due is taken, and was not before
taken_now : (turn : Option ℕ) (now due : ℕ) → due ≤ now → (reply : Option Reply) → IsAnswerDue turn reply due → taken_of turn reply + 1 ≤ taken_of (Some now) reply
taken_now turn now due by None h = absurd h
taken_now turn now due by (Some r) h =
    rw (le_test r.tick now (omega (arith, h.1))) (by_test turn (is_taken turn r.tick) refl h.0)
  where
    by_test : (turn : Option ℕ) (b : Bool) → is_taken turn r.tick ≡ b → ¬ IsTaken turn r → (if b then 1 else 0) + 1 ≤ 1
    by_test turn false e not = omega arith
    by_test None true e not = cc
    by_test (Some n) true e not = absurd (not (le_from r.tick n e))

pub due_taken : (turn : Option ℕ) (now due : ℕ) → first_after turn ≤ now → due ≤ now → (race : Race) → IsAnswerDue turn race.aaaa due ⊎ IsAnswerDue turn race.a due → taken turn race + 1 ≤ taken (Some now) race
due_taken turn now due up by race (inl six) = omega (arith, taken_now turn now due by race.aaaa six, taken_later turn now up race.a)
due_taken turn now due up by race (inr four) = omega (arith, taken_now turn now due by race.a four, taken_later turn now up race.aaaa)

pub turn_by : (turn : Option ℕ) (t : ℕ) → first_after turn ≤ t → IfSome turn (λ n. n ≤ t)
turn_by None t h = tt
turn_by (Some n) t h = omega arith

-- Attempts one after the other are the next ones in turn of the whole list, and back.
use Rattle.std.proofs.Common.{◌≡◌, ℕ, zero, suc, ◌++◌, List, [], ◌∷◌, Some, take, refl, sym, subst, append_assoc}
use Rattle.std.specs.List.{slice_get}
use Rattle.std.proofs.lemmas.List.{append-nil}
use Rattle.he_plan.specs.declared.attempts.Attempt.{Attempt}
use Rattle.he_plan.specs.Attempts.{AreAttempts, AreNextInTurn, IsNext, MayStart}
use Rattle.he_plan.specs.Continuing.{Continues, Follow}
use Rattle.he_timeline.specs.Race.{Race}

some_is : (x y : Attempt) → Some x ≡ Some y → x ≡ y
some_is x y h = cc

next_in : (race : Race) (done xs : List Attempt) → Follow race done xs → (n : ℕ) (next : Attempt) → slice_get xs n ≡ Some next → IsNext race (done ++ take n xs) next
next_in race done [] f n next h = cc
next_in race done (x ∷ xs) f zero next h =
    subst (λ (d : List Attempt). IsNext race d next) (sym (append-nil done)) (subst (λ (z : Attempt). IsNext race done z) (some_is x next h) f.0)
next_in race done (x ∷ xs) f (suc n) next h =
    subst (λ (d : List Attempt). IsNext race d next) (append_assoc done (x ∷ []) (take n xs)) (next_in race (done ++ x ∷ []) xs f.1 n next h)

follow_in : (race : Race) (done xs : List Attempt) → ((n : ℕ) (next : Attempt) → slice_get xs n ≡ Some next → IsNext race (done ++ take n xs) next) → Follow race done xs
follow_in race done [] each = tt
follow_in race done (x ∷ xs) each = (
  subst (λ (d : List Attempt). IsNext race d x) (append-nil done) (each 0 x refl),
  follow_in race (done ++ x ∷ []) xs (λ n next h. subst (λ (d : List Attempt). IsNext race d next) (sym (append_assoc done (x ∷ []) (take n xs))) (each (suc n) next h)),
)

pub in_turn-follow : (race : Race) (xs : List Attempt) → AreNextInTurn race xs → Follow race [] xs
in_turn-follow race xs each = follow_in race [] xs each

pub follow-in_turn : (race : Race) (xs : List Attempt) → Follow race [] xs → AreNextInTurn race xs
follow-in_turn race xs f = next_in race [] xs f

follow_more : (race : Race) (done xs : List Attempt) (next : Attempt) → Follow race done xs → IsNext race (done ++ xs) next → Follow race done (xs ++ next ∷ [])
follow_more race done [] next f is = (subst (λ (d : List Attempt). IsNext race d next) (append-nil done) is, tt)
follow_more race done (x ∷ xs) next f is = (f.0, follow_more race (done ++ x ∷ []) xs next f.1 (subst (λ (d : List Attempt). IsNext race d next) (sym (append_assoc done (x ∷ []) xs)) is))

pub in_turn-none : (race : Race) → AreNextInTurn race []
in_turn-none race = follow-in_turn race [] tt

pub in_turn-more : (race : Race) (xs : List Attempt) (next : Attempt) → AreNextInTurn race xs → IsNext race xs next → AreNextInTurn race (xs ++ next ∷ [])
in_turn-more race xs next each is = follow-in_turn race (xs ++ next ∷ []) (follow_more race [] xs next (in_turn-follow race xs each) is)

-- attempts that follow one another, with none after the last, are all
continue_from : (race : Race) (done xs : List Attempt) → Follow race done xs → ((t : ℕ) → ¬ MayStart race (done ++ xs) t) → Continues race done xs
continue_from race done [] f none = λ t m. none t (subst (λ (d : List Attempt). MayStart race d t) (sym (append-nil done)) m)
continue_from race done (x ∷ xs) f none = (f.0, continue_from race (done ++ x ∷ []) xs f.1 (λ t m. none t (subst (λ (d : List Attempt). MayStart race d t) (append_assoc done (x ∷ []) xs) m)))

follow_from : (race : Race) (done xs : List Attempt) → Continues race done xs → Follow race done xs
follow_from race done [] c = tt
follow_from race done (x ∷ xs) c = (c.0, follow_from race (done ++ x ∷ []) xs c.1)

none_from : (race : Race) (done xs : List Attempt) → Continues race done xs → (t : ℕ) → ¬ MayStart race (done ++ xs) t
none_from race done [] c t = subst (λ (d : List Attempt). ¬ MayStart race d t) (sym (append-nil done)) (c t)
none_from race done (x ∷ xs) c t = subst (λ (d : List Attempt). ¬ MayStart race d t) (append_assoc done (x ∷ []) xs) (none_from race (done ++ x ∷ []) xs c.1 t)

pub are-continues : (race : Race) (xs : List Attempt) → AreAttempts race xs → Continues race [] xs
are-continues race xs are = continue_from race [] xs (in_turn-follow race xs are.in_turn) are.no_more

pub continues-are : (race : Race) (xs : List Attempt) → Continues race [] xs → AreAttempts race xs
continues-are race xs c = record { in_turn = follow-in_turn race xs (follow_from race [] xs c); no_more = none_from race [] xs c }

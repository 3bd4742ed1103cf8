-- One item more of a loop.
use Rattle.std.proofs.Common.{ℕ, zero, suc, ◌≡◌, List, [], ◌∷◌, ◌++◌, take, slice_get, Some, Result, Ok, Err, OnOk, ap}

-- the items up to one, and that one
pub taken_on : {X : Type 0} (xs : List X) (i : ℕ) (x : X) → slice_get xs i ≡ Some x → take (suc i) xs ≡ take i xs ++ x ∷ []
taken_on [] i x e = cc
taken_on (y ∷ xs) zero x e = cc
taken_on {X} (y ∷ xs) (suc i) x e = ap (λ (l : List X). y ∷ l) (taken_on xs i x e)

-- what holds for each where a call succeeds holds, where it succeeds, for each
pub for_each : {A E T : Type 0} (P Q : T → Type 0) (r : Result A E) → ((t : T) → P t → OnOk r (Q t)) → OnOk r ((t : T) → P t → Q t)
for_each P Q (Ok x) each = each
for_each P Q (Err e) each = tt

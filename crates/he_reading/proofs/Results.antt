-- Steps that may fail.
use Rattle.std.proofs.Common.{◌≡◌, Bool, true, false, cond, Option, Some, None, Result, Ok, Err, refl, sym, subst}
use Rattle.std.specs.Prelude.{IsErr, IsErrAnd, MatchResult}
use Rattle.std.specs.Option.{ok_or}
use Rattle.he_reading.specs.Forms.{◌>>=◌}

-- an error that is handed on
pub handed_on : {A E : Type 0} (r : Result A E) (e : E) (Right : A → Type 0) (Wrong : E → Type 0) → IsErr r × IsErrAnd r (λ k. k ≡ e) → Wrong e → MatchResult r Right Wrong
handed_on (Ok x) e Right Wrong told wrong = absurd told.1
handed_on (Err k) e Right Wrong told wrong = subst Wrong (sym told.1) wrong

-- a step and what follows it
pub bind_ok : {A B E : Type 0} (r : Result A E) (f : A → Result B E) (y : B) → (r >>= f) ≡ Ok y → (x : A) × (r ≡ Ok x) × (f x ≡ Ok y)
bind_ok (Err e) f y h = cc
bind_ok (Ok x) f y h = (x, refl, h)

pub ok_or_ok : {A E : Type 0} (o : Option A) (e : E) (x : A) → ok_or o e ≡ Ok x → o ≡ Some x
ok_or_ok None e x h = cc
ok_or_ok (Some y) e x h = cc

-- a test that lets a step through, and one that refuses it
pub let_through : {A E : Type 0} (b : Bool) (r : Result A E) (e : E) (y : A) → cond b r (Err e) ≡ Ok y → (b ≡ true) × (r ≡ Ok y)
let_through true r e y h = (refl, h)
let_through false r e y h = cc

pub not_stopped : {A E : Type 0} (b : Bool) (r : Result A E) (e : E) (y : A) → cond b (Err e) r ≡ Ok y → (b ≡ false) × (r ≡ Ok y)
not_stopped true r e y h = cc
not_stopped false r e y h = (refl, h)

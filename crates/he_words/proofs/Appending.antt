-- Texts that are written part by part.
use Rattle.std.proofs.Common.{◌≡◌, ℕ, zero, suc, ◌≤◌, List, [], ◌∷◌, ◌++◌, length, take, refl, sym, ◌∙◌, ap, subst, arith, append_assoc, length-append}
use Rattle.std.proofs.lemmas.List.{append-nil, take_at}
use Rattle.std.specs.Prelude.{Result, Ok, Err, OnOk, OnErr}
use Rattle.he_words.specs.Appending.{Grows, AppendsText}

pub grows_append : (a b : List ℕ) → Grows a (a ++ b)
grows_append a b = take_at a b (length a) refl

take_of_take : (m n : ℕ) (xs : List ℕ) → m ≤ n → take m (take n xs) ≡ take m xs
take_of_take zero n xs h = refl
take_of_take (suc m) zero xs h = absurd (omega arith)
take_of_take (suc m) (suc n) [] h = refl
take_of_take (suc m) (suc n) (x ∷ xs) h = ap (λ rest. x ∷ rest) (take_of_take m n xs (omega arith))

-- what was there is kept in front of what more there was
pub grows_more : (a b c : List ℕ) → Grows (a ++ b) c → Grows a c
grows_more a b c h =
    sym (take_of_take (length a) (length (a ++ b)) c (omega (arith, length-append a b)))
    ∙ ap (take (length a)) h ∙ grows_append a b

pub grows_after : (a b s c : List ℕ) → s ≡ a ++ b → Grows s c → Grows a c
grows_after a b s c is h = let P : List ℕ → Type 0 = λ t. Grows t c in grows_more a b c (subst P is h)

-- one text and then another
pub writes_then : {E : Type 0} (old one new a b : List ℕ) (result : Result (Unit {0}) E) → one ≡ old ++ a → AppendsText result one new b → AppendsText result old new (a ++ b)
writes_then old one new a b (Ok done) h w = w ∙ ap (λ t. t ++ b) h ∙ append_assoc old a b
writes_then old one new a b (Err fault) h w = grows_after old a one new h w

same_grows : (old new : List ℕ) → new ≡ old → Grows old new
same_grows old new e = let P : List ℕ → Type 0 = λ t. Grows old t in subst P (append-nil old ∙ sym e) (grows_append old [])

-- a text that is appended, or nothing
pub appends : {E : Type 0} (old new text : List ℕ) (result : Result (Unit {0}) E) → OnOk result (new ≡ old ++ text) → OnErr result (new ≡ old) → AppendsText result old new text
appends old new text (Ok done) ok err = ok
appends old new text (Err fault) ok err = same_grows old new err

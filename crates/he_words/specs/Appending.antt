-- The effect of a call that appends to a text.
use Rattle.std.specs.Prelude.{ℕ, ◌≡◌, ◌+◌, List, ◌++◌, take, length, Result, MatchResult}

-- the old text is kept as the beginning of the new one
abbrev pub Grows : List ℕ → List ℕ → Type 0
Grows old new = take (length old) new ≡ old

-- the call appended the text, or an allocation failed and it may have appended a part of it
abbrev pub AppendsText : {E : Type 0} → Result (Unit {0}) E → List ℕ → List ℕ → List ℕ → Type 0
AppendsText result old new text = MatchResult result (λ _. new ≡ old ++ text) (λ _. Grows old new)

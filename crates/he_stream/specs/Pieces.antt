-- One step of an input, into room made for it.
use Rattle.std.specs.Prelude.{◌≡◌, ℕ, List, Option, Result, Ok, Err}
use Rattle.he_stream.specs.declared.answer.Taken.{Taken}
use Rattle.he_stream.specs.Steps.{Takes}

-- one step, or an allocation that failed before it
abbrev pub TakesPiece : {S E : Type 0} → (S → Option (List ℕ)) → (S → Taken → S → Type 0) → S → S → List ℕ
    → Result Taken E → Type 0
TakesPiece remaining takes first last room (Ok taken) =
    Takes (remaining first) (remaining last) taken room × takes first taken last
TakesPiece remaining takes first last room (Err refused) = first ≡ last

-- Tests of texts behind references.
use Rattle.std.proofs.Common.{◌≡◌, ℕ, Bool, List, [], ◌∷◌, refl}
use Rattle.std.specs.Borrow.{Bor}
use Rattle.std.specs.List.{list_any}
use Rattle.he_names.specs.Fields.{texts}

pub list_any_texts : (p : List ℕ → Bool) (references : List (Bor (List ℕ))) → list_any p (texts references) ≡ list_any (λ reference. p reference.now) references
list_any_texts p [] = refl
list_any_texts p (reference ∷ references) = rw (list_any_texts p references) refl

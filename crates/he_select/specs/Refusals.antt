-- Mirrors the code: the first fault, and the first repeated member of a list.
use Rattle.std.specs.Prelude.{ℕ, ◌+◌, Bool, cond, List, [], ◌∷◌, ◌++◌, Option, None, Some}
use Rattle.std.specs.List.{list_any}
use Rattle.std.specs.Option.{option_or}

-- the first member, counted from `place`, that repeats one of those before it; `before` are the members before
-- `place`
abbrev pub repeat_from : {X : Type 0} → (X → X → Bool) → List X → ℕ → List X → Option ℕ
repeat_from same before place [] = None
repeat_from same before place (x ∷ xs) =
    cond (list_any (same x) before) (Some place) (repeat_from same (before ++ x ∷ []) (place + 1) xs)

-- the least place of a member that repeats an earlier one
abbrev pub first_repeat : {X : Type 0} → (X → X → Bool) → List X → Option ℕ
first_repeat same xs = repeat_from same [] 0 xs

-- the fault, if the test holds
abbrev pub cause_if : {F : Type 0} → Bool → F → Option F
cause_if holds cause = cond holds (Some cause) None

-- the first fault
abbrev pub first_cause : {F : Type 0} → List (Option F) → Option F
first_cause [] = None
first_cause (cause ∷ causes) = option_or cause (first_cause causes)

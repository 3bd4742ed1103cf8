-- Rules of preference between two things, the first rule that decides, and the best member of a list.
use Rattle.std.specs.Prelude.{ℕ, Bool, not, cond, ◌&&◌, List, [], ◌∷◌, Option, find}
use Rattle.std.specs.List.{list_any}
use Rattle.std.specs.declared.cmp.Ordering.{Ordering}
use Rattle.std.specs.declared.cmp.Ordering.TheVariants.{Equal}
use Rattle.std.specs.Ordering.{nat_cmp, bool_cmp, ordering_then}

-- a rule compares two things. Less: the first is preferred; Greater: the second; Equal: the rule doesn't decide
abbrev pub Rule : Type 0 → Type 0
Rule X = X → X → Ordering

-- prefers the one for which the test holds
abbrev pub yes_first : {X : Type 0} → (X → Bool) → Rule X
yes_first is a b = bool_cmp (is b) (is a)

-- prefers the one with the smaller number
abbrev pub lower_first : {X : Type 0} → (X → ℕ) → Rule X
lower_first number a b = nat_cmp (number a) (number b)

-- prefers the one with the greater number
abbrev pub higher_first : {X : Type 0} → (X → ℕ) → Rule X
higher_first number a b = nat_cmp (number b) (number a)

-- applies the rule if the test holds for both; else it doesn't decide
abbrev pub where_both : {X : Type 0} → (X → Bool) → Rule X → Rule X
where_both is rule a b = cond (is a && is b) (rule a b) Equal

-- the first rule that decides
abbrev pub first_of : {X : Type 0} → List (Rule X) → Rule X
first_of [] a b = Equal
first_of (rule ∷ rules) a b = ordering_then (rule a b) (first_of rules a b)

-- the first member of the list that no member is better than
abbrev pub best_by : {X : Type 0} → (X → X → Bool) → List X → Option X
best_by better xs = find (λ x. not (list_any (λ y. better y x) xs)) xs

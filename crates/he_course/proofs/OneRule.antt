-- Between two members at different places just one rule decides.
use Rattle.std.proofs.Common.{◌≡◌, ℕ, zero, suc, ◌<◌, Bool, true, false, cond, List, [], ◌∷◌, length, refl, sym, ◌∙◌, ap, arith, inl, inr, slice_get}
use Rattle.std.specs.Prelude.{Some, ◌⊎◌}
use Rattle.std.specs.List.{slice_index_or}
use Rattle.std.specs.declared.cmp.Ordering.{Ordering}
use Rattle.std.specs.declared.cmp.Ordering.TheVariants.{Less, Equal, Greater}
use Rattle.std.specs.Ordering.{nat_cmp, is_eq}
use Rattle.std.proofs.lemmas.Bool.{cases_lt}
use Rattle.he_select.specs.declared.deciding.DestinationRule.{DestinationRule}
use Rattle.he_select.specs.declared.deciding.DestinationRule.TheVariants as rules
use Rattle.he_select.specs.Deciding.{deciding_rule, first_deciding, rules_in_order}
use Rattle.he_select.specs.Places.{FailsFirst}
use Rattle.he_select.specs.Preference.{Member, destination_rules}
use Rattle.he_select.specs.Rules.{Rule}
use Rattle.he_select.specs.Selection.{SelectionInput}
use Rattle.he_select.proofs.Orders.{tied_numbers}
use Rattle.he_course.specs.Laws.{OneRuleDecides}

abbrev Ties : Member → Member → Rule Member → Type 0
Ties a b rule = rule a b ≡ Equal

-- the first rule that decides, or none does
record Found (a b : Member) (list : List (Rule Member)) (names : List DestinationRule) (place : ℕ) : Type 0 where
  decides : FailsFirst (Ties a b) list place
  named : slice_get names place ≡ Some (first_deciding list names a b)

abbrev AllTie : Member → Member → List (Rule Member) → Type 0
AllTie a b [] = Unit {0}
AllTie a b (rule ∷ more) = Ties a b rule × AllTie a b more

cases_of : (o : Ordering) → (o ≡ Equal) ⊎ ((o ≡ Equal → ⊥) × (is_eq o ≡ false))
cases_of Less = inr (λ e. cc, refl)
cases_of Equal = inl refl
cases_of Greater = inr (λ e. cc, refl)

here : (a b : Member) (rule : Rule Member) (more : List (Rule Member)) (name : DestinationRule) (names : List DestinationRule)
    → (rule a b ≡ Equal → ⊥) → is_eq (rule a b) ≡ false → Found a b (rule ∷ more) (name ∷ names) 0
here a b rule more name names decides uneven = record {
  decides = record { inside = omega arith; fails = λ d e. decides e; earlier = λ m d lt. absurd (omega (arith, lt)) };
  named = ap (λ is. Some (cond is (first_deciding more names a b) name)) (sym uneven);
}

earlier_later : (a b : Member) (rule : Rule Member) (more : List (Rule Member)) (n : ℕ) → Ties a b rule → FailsFirst (Ties a b) more n → FailsFirst (Ties a b) (rule ∷ more) (suc n)
earlier_later a b rule more n tied first = record { inside = omega (arith, first.inside); fails = λ d e. first.fails d e; earlier = before }
  where
    before : (m : ℕ) (d : Rule Member) → m < suc n → Ties a b (slice_index_or (rule ∷ more) m d)
    before zero d lt = tied
    before (suc m) d lt = first.earlier m d (omega (arith, lt))

find_first : (a b : Member) (list : List (Rule Member)) (names : List DestinationRule) → length names ≡ length list
    → AllTie a b list ⊎ ((place : ℕ) × Found a b list names place)
find_first a b [] names same = inl tt
find_first a b (rule ∷ more) [] same = absurd (omega (arith, same))
find_first a b (rule ∷ more) (name ∷ names) same =
    elim (cases_of (rule a b)) [
      | inr decides ↦ inr (0, here a b rule more name names decides.0 decides.1)
      | inl tied ↦ elim (find_first a b more names (omega (arith, same))) [
        | inl all ↦ inl (tied, all)
        | inr found ↦ inr (
          suc found.0,
          record {
            decides = earlier_later a b rule more found.0 tied found.1.decides;
            named = found.1.named ∙ ap (λ (o : Ordering). Some (cond (is_eq o) (first_deciding more names a b) name)) (sym tied);
          },
        )
      ]
    ]

only_one : (a b : Member) (list : List (Rule Member)) (m n : ℕ) → FailsFirst (Ties a b) list m → FailsFirst (Ties a b) list n → m ≡ n
only_one a b list m n first second =
    let d : Rule Member = λ x y. Equal in
    elim (cases_lt m n) [
      | inl less ↦ absurd (first.fails d (second.earlier m d less))
      | inr more ↦ elim (cases_lt n m) [
        | inl less ↦ absurd (second.fails d (first.earlier n d less))
        | inr same ↦ omega (arith, more, same)
      ]
    ]

unchanged : (even : Bool) → cond even rules.Unchanged rules.Unchanged ≡ rules.Unchanged
unchanged true = refl
unchanged false = refl

-- the places decide only where nothing else does, under the name that is answered then
same_name : (input : SelectionInput) (a b : Member) → first_deciding (destination_rules input) rules_in_order a b ≡ deciding_rule input a.ip b.ip
unfolding destination_rules deciding_rule
same_name input a b = rw (unchanged (is_eq (nat_cmp a.place b.place))) refl

not_all : (input : SelectionInput) (a b : Member) → AllTie a b (destination_rules input) → a.place ≡ b.place
unfolding destination_rules
not_all input a b tied = tied_numbers a.place b.place tied.1.1.1.1.1.1.1.1.1.1.0

rules_counted : (input : SelectionInput) → length rules_in_order ≡ length (destination_rules input)
unfolding destination_rules
rules_counted input = refl

pub one_rule : OneRuleDecides
one_rule input a b other =
    elim (find_first a b (destination_rules input) rules_in_order (rules_counted input)) [
      | inl all ↦ absurd (other (not_all input a b all))
      | inr found ↦ (
        found.0,
        record {
          decides = found.1.decides;
          only = λ n first. only_one a b (destination_rules input) n found.0 first found.1.decides;
          named = found.1.named ∙ ap Some (same_name input a b);
        },
      )
    ]

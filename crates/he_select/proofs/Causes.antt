-- What follows where there is no cause of refusal.
use Rattle.std.proofs.Common.{◌≡◌, ℕ, ◌+◌, Bool, true, false, not, List, [], ◌∷◌, refl, inl, inr, IsTrue}
use Rattle.std.specs.Prelude.{Option, None, Some, option_map, is_none}
use Rattle.std.specs.List.{list_all, position_from}
use Rattle.std.proofs.lemmas.Bool.{cases_Bool, false≢true}
use Rattle.he_select.specs.Refusals.{cause_if, first_cause}

abbrev pub NoneStands : {F : Type 0} → List (Option F) → Type 0
NoneStands [] = Unit {0}
NoneStands (cause ∷ causes) = IsTrue (is_none cause) × NoneStands causes

pub none_stands : {F : Type 0} (causes : List (Option F)) → IsTrue (is_none (first_cause causes)) → NoneStands causes
none_stands [] h = tt
none_stands (None ∷ causes) h = (refl, none_stands causes h)
none_stands (Some cause ∷ causes) h = absurd (false≢true h)

pub unmapped : {X Y : Type 0} (f : X → Y) (o : Option X) → IsTrue (is_none (option_map f o)) → IsTrue (is_none o)
unmapped f None h = refl
unmapped f (Some x) h = absurd (false≢true h)

pub not_caused : {F : Type 0} (holds : Bool) (cause : F) → IsTrue (is_none (cause_if holds cause)) → holds ≡ false
not_caused false cause h = refl
not_caused true cause h = absurd (false≢true h)

pub none_is : {X : Type 0} (o : Option X) → IsTrue (is_none o) → o ≡ None
none_is None h = refl
none_is (Some x) h = absurd (false≢true h)

pub cause_none : {F : Type 0} (holds : Bool) (cause : F) → cause_if holds cause ≡ None → holds ≡ false
cause_none false cause e = refl
cause_none true cause e = cc

pub cause_some : {F : Type 0} (holds : Bool) (cause other : F) → cause_if holds cause ≡ Some other → (holds ≡ true) × (cause ≡ other)
cause_some true cause other e = (refl, cc)
cause_some false cause other e = cc

pub map_none : {X Y : Type 0} (f : X → Y) (o : Option X) → option_map f o ≡ None → o ≡ None
map_none f None e = refl
map_none f (Some x) e = cc

pub map_some : {X Y : Type 0} (f : X → Y) (o : Option X) (y : Y) → option_map f o ≡ Some y → (x : X) × (o ≡ Some x) × (f x ≡ y)
map_some f None y e = cc
map_some f (Some x) y e = (x, refl, cc)

module _ {F : Type 0} where
  -- of five causes there is none ..
  pub none_of_five : (a b c d e : Option F) → a ≡ None → b ≡ None → c ≡ None → d ≡ None → e ≡ None → first_cause (a ∷ b ∷ c ∷ d ∷ e ∷ []) ≡ None
  none_of_five None None None None None p q r s t = refl
  none_of_five (Some x) b c d e p q r s t = cc
  none_of_five None (Some x) c d e p q r s t = cc
  none_of_five None None (Some x) d e p q r s t = cc
  none_of_five None None None (Some x) e p q r s t = cc
  none_of_five None None None None (Some x) p q r s t = cc

  -- .. or a first one, and none before it
  pub first_of_five : (a b c d e : Option F) (fault : F) (P : Type 0) → first_cause (a ∷ b ∷ c ∷ d ∷ e ∷ []) ≡ Some fault
      → (a ≡ Some fault → P)
      → (a ≡ None → b ≡ Some fault → P)
      → (a ≡ None → b ≡ None → c ≡ Some fault → P)
      → (a ≡ None → b ≡ None → c ≡ None → d ≡ Some fault → P)
      → (a ≡ None → b ≡ None → c ≡ None → d ≡ None → e ≡ Some fault → P) → P
  first_of_five (Some x) b c d e fault P h p q r s t = p h
  first_of_five None (Some x) c d e fault P h p q r s t = q refl h
  first_of_five None None (Some x) d e fault P h p q r s t = r refl refl h
  first_of_five None None None (Some x) e fault P h p q r s t = s refl refl refl h
  first_of_five None None None None (Some x) fault P h p q r s t = t refl refl refl refl h
  first_of_five None None None None None fault P h p q r s t = cc

pub all_from_none : {X : Type 0} (p : X → Bool) (xs : List X) (place : ℕ) → IsTrue (is_none (position_from (λ x. not (p x)) place xs)) → IsTrue (list_all p xs)
all_from_none p [] place h = refl
all_from_none p (x ∷ xs) place h =
    elim (cases_Bool (p x)) [
      | inl here ↦ rw here (all_from_none p xs (place + 1) (rw here at h))
      | inr gone ↦ absurd (false≢true (rw gone at h))
    ]

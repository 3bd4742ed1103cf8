use Rattle.std.specs.Prelude.{◌≡◌, ℕ, ◌<◌, zero, suc, Bool, true, Option, IfSome}

-- this number of steps, one after another, leads from the first state to the last
abbrev pub Leads : {S : Type 0} → (S → S → Type 0) → ℕ → S → S → Type 0
Leads step zero first last = first ≡ last
Leads step (suc times) first last = (state : _) × Leads step times first state × step state last

-- more than `least` steps were made, one after another, from the first state on
pub record RanMoreThan {S : Type 0} (step : S → S → Type 0) (least : ℕ) (first : S) : Type 0 where
  pub times : ℕ
  pub last : S
  pub more : least < times
  pub leads : Leads step times first last

-- a run that returned true, or nothing
abbrev pub RanWell : {S : Type 0} → (S → Option Bool → S → Type 0) → S → S → Type 0
RanWell step state next = (answer : Option Bool) × step state answer next × IfSome answer (λ is_right. is_right ≡ true)

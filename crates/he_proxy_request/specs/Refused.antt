-- Why words of the line are refused.
use Rattle.std.specs.Prelude.{◌≡◌, ◌⊎◌, List}
use Rattle.std.specs.List.{Any}
use Rattle.he_options.specs.declared.refusal.OptionFault.{OptionFault}
use Rattle.he_options.specs.declared.refusal.Refusal.{Refusal}
use Rattle.he_options.specs.declared.refusal.Refusal.TheVariants as refusals

-- for one of them that lacks what it has to name, by this fault; or for want of memory
abbrev pub IsRefusalOf : {X : Type 0} → (X → Type 0) → OptionFault → List X → Refusal → Type 0
IsRefusalOf lacks fault words refusal =
    (refusal ≡ refusals.Memory) ⊎ ((refusal ≡ refusals.Option fault) × Any lacks words)

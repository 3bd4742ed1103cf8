-- The race of a connection before its start.
use Rattle.std.specs.Prelude.{ℕ, ◌≡◌, ◌++◌, List, [], ◌∷◌, None, false, codes}
use Rattle.he_addr.specs.declared.ip.Family.TheVariants as families
use Rattle.he_timeline.specs.Building.{empty_race, with_answer}
use Rattle.he_timeline.specs.Race.{Race}
use Rattle.he_timeline.specs.Settings.{SettingValues}
use Rattle.he_inputs.specs.Inputs.{HasRaces}
use Rattle.he_setup.specs.declared.request.Families.{Families}
use Rattle.he_setup.specs.declared.request.Families.TheVariants as tried

-- a race with only these lines
abbrev pub lines_text : List ℕ → List ℕ
lines_text lines = codes "race 1\n" ++ lines ++ codes "end\n"

-- a family that isn't tried has an empty answer
abbrev pub with_families : Families → Race → Race
with_families tried.Both race = race
with_families (tried.Only families.V6) race = with_answer race families.V4 (record { tick = 0; addresses = [] })
with_families (tried.Only families.V4) race = with_answer race families.V6 (record { tick = 0; addresses = [] })

-- the race has the settings, and the lines' machine and policy
pub record Starts (lines : List ℕ) (settings : SettingValues) (families : Families) (race : Race) : Type 0 where
  pub base : Race
  pub read : HasRaces (lines_text lines) false (base ∷ []) None
  pub start : race ≡ with_families families (empty_race settings base.policy base.host)

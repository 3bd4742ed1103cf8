-- The result of a check of an input: its number of races and lines, or its first fault.
use Rattle.std.specs.Prelude.{ℕ, ◌≡◌, ◌++◌, ⊤, Bool, List, length, Some, None}
use Rattle.he_timeline.specs.Race.{Race}
use Rattle.he_inputs.specs.Inputs.{HasRaces, line_count}
use Rattle.he_inputs.specs.declared.input_fault.InputFault.TheVariants as inputs
use Rattle.he_inputs.specs.declared.stream_fault.StreamFault.{StreamFault}
use Rattle.he_inputs.specs.declared.stream_fault.StreamFault.TheVariants.{Text, Read, Write, Memory}
use Rattle.he_words.specs.declared.fault.TextFault.{TextFault}
use Rattle.he_check.specs.declared.input.Checked.{Checked}

-- the input has no fault, and these numbers of races and lines
abbrev pub IsRight : List ℕ → Bool → Checked → Type 0
IsRight input is_broken checked =
    (races : List Race) × HasRaces input is_broken races None × (checked.races ≡ length races)
    × (checked.lines ≡ line_count input)

-- the first fault of every input that begins with these bytes
abbrev pub IsSure : List ℕ → TextFault → Type 0
IsSure bytes fault =
    (more : List ℕ) (is_broken : Bool)
    → (races : List Race) × HasRaces (bytes ++ more) is_broken races (Some (inputs.Text fault))

-- the first fault of the input, or an allocation failed
abbrev pub IsWrong : List ℕ → Bool → StreamFault → Type 0
IsWrong input is_broken (Text fault) = (races : List Race) × HasRaces input is_broken races (Some (inputs.Text fault))
IsWrong input is_broken Read = (races : List Race) × HasRaces input is_broken races (Some inputs.Read)
IsWrong input is_broken Write = ⊥
IsWrong input is_broken Memory = ⊤

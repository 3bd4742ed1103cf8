-- How a fault of the text is known.
use Rattle.std.specs.Prelude.{ℕ, ◌≡◌, ◌⊎◌, ◌++◌, Bool, true, false, List, Some}
use Rattle.he_words.specs.declared.fault.TextFault.{TextFault}
use Rattle.he_inputs.specs.Beginnings.{IsGroupFaultAtEnd}
use Rattle.he_inputs.specs.declared.input_fault.InputFault.TheVariants.{Text}
use Rattle.he_inputs.specs.Inputs.{line_count}
use Rattle.he_streaming.specs.Output.{IsOutput, TextRelation}

-- each input that begins with these bytes has this output and this fault, however it ends
abbrev pub Stands : TextRelation → List ℕ → List ℕ → TextFault → Type 0
Stands IsText input text fault =
    (more : List ℕ) (is_broken : Bool) → IsOutput IsText (input ++ more) is_broken text (Some (Text fault))

-- the input broke off after the last line of a policy table or of the settings, which have the fault: one more line
-- of the group may mend it
pub record IsGroupBroken (input : List ℕ) (is_broken : Bool) (fault : TextFault) : Type 0 where
  pub broken : is_broken ≡ true
  pub before : List ℕ
  pub race : List ℕ
  pub parts : input ≡ before ++ race
  pub at_end : IsGroupFaultAtEnd race (line_count race) fault.kind
  pub last : fault.line ≡ line_count input

-- the input ended; or nothing that follows changes the fault; or the input broke off in a group of lines
abbrev pub IsKnown : TextRelation → List ℕ → Bool → List ℕ → TextFault → Type 0
IsKnown IsText input is_broken text fault =
    (is_broken ≡ false) ⊎ (Stands IsText input text fault ⊎ IsGroupBroken input is_broken fault)

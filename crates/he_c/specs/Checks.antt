-- The text for the check of an input.
use Rattle.std.specs.Prelude.{ℕ, ◌≡◌, false, List, Option, Some, None}
use Rattle.he_check.specs.Checked.{IsRight}
use Rattle.he_check.specs.Stream.{report_text}
use Rattle.he_check.specs.declared.input.Checked.{Checked}
use Rattle.he_timeline.specs.Race.{Race}
use Rattle.he_inputs.specs.declared.input_fault.InputFault.{InputFault}
use Rattle.he_inputs.specs.Inputs.{HasRaces}
use Rattle.he_c.specs.Answers.{Leaves}
use Rattle.he_c.specs.declared.answer.CallDetails.{CallDetails}

-- the number of races and lines of an input without a fault; else the fault is its first one, and the text explains
-- it
abbrev pub IsCheckOf : List ℕ → List ℕ → Option InputFault → Type 0
IsCheckOf input text None = (checked : Checked) × IsRight input false checked × (text ≡ report_text checked)
IsCheckOf input text (Some fault) = (races : List Race) × HasRaces input false races (Some fault)

-- the results of the check of the input
pub record LeavesCheck (input old new : List ℕ) (details : CallDetails) (answer : ℕ) : Type 0 where
  pub text : List ℕ
  pub fault : Option InputFault
  pub checked : IsCheckOf input text fault
  pub left : Leaves text fault old new details answer

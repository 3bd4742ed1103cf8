-- The text for an input: a text for each of its races up to the first fault, and the fault.
use Rattle.std.specs.Prelude.{ℕ, ◌≡◌, ◌+◌, ◌++◌, false, List, [], ◌∷◌, None, Option}
use Rattle.he_course.specs.Accounts.{race_times}
use Rattle.he_course.specs.Addresses.{preferred}
use Rattle.he_course.specs.Course.{events_in}
use Rattle.he_json.specs.Documents.{IsExplanationJson}
use Rattle.he_record.specs.Given.{untried_given}
use Rattle.he_record.specs.Said.{Said}
use Rattle.he_timeline.specs.Race.{Race}
use Rattle.he_plan.specs.Transcript.{IsTranscript, Report}
use Rattle.he_inputs.specs.declared.input_fault.InputFault.{InputFault}
use Rattle.he_inputs.specs.Inputs.{HasRaces, line_count}
use Rattle.he_inputs.specs.Recorded.{IsRecordedText}
use Rattle.he_write.specs.Orders.{order_text}
use Rattle.he_write.specs.Written.{transcript_text}
use Rattle.he_c.specs.Answers.{Leaves}
use Rattle.he_c.specs.declared.answer.CallDetails.{CallDetails}
use Rattle.he_c.specs.declared.telling.Content.{Content}
use Rattle.he_c.specs.declared.telling.Content.TheVariants as contents

-- whether a text is one of a race, by the race's number and its line, both counted from 1, and by its record
abbrev pub TextRelation : Type 1
TextRelation = ℕ → ℕ → List ℕ → List Said → Race → Type 0

-- the text of the race's transcript
abbrev pub IsTranscriptText : List ℕ → Race → Type 0
IsTranscriptText text race = (report : Report) × IsTranscript race report × (text ≡ transcript_text report)

-- the text of the race's order
abbrev pub IsOrderText : List ℕ → Race → Type 0
IsOrderText text race = text ≡ order_text race

-- a text that doesn't depend on the race's number and line, nor on its record
abbrev pub Anywhere : (List ℕ → Race → Type 0) → TextRelation
Anywhere IsText number line text said race = IsText text race

-- the object that explains the race with its record; the name of the text's file is null
abbrev pub IsExplanationText : TextRelation
IsExplanationText number line text said race =
    (report : Report) × IsTranscript race report
    × IsExplanationJson (record { file = None; number = number; line = line }) said
    (race_times race report (untried_given said)) (preferred race) (events_in race report) text

-- the text of this kind for the race
abbrev pub IsTextOf : Content → TextRelation
IsTextOf contents.Transcript = Anywhere IsTranscriptText
IsTextOf contents.Order = Anywhere IsOrderText
IsTextOf contents.Explanation = IsExplanationText

-- the bytes consist of a timeline text of each race, the first with this number and on this line; the text consists
-- of a text for each race, by its number and its line, and by the record that its timeline text begins with
abbrev pub AreTold : TextRelation → ℕ → ℕ → List Race → List ℕ → List ℕ → Type 0
AreTold IsText number line [] bytes text = (bytes ≡ []) × (text ≡ [])
AreTold IsText number line (race ∷ races) bytes text =
    (own : List ℕ) × (behind : List ℕ) × (bytes ≡ own ++ behind) × (is : IsRecordedText own race)
    × (told : List ℕ) × (more : List ℕ) × (text ≡ told ++ more) × IsText number line told is.0 race
    × AreTold IsText (number + 1) (line + line_count own) races behind more

-- the texts for the races of the input up to its first fault, in order, and that fault
pub record IsOutput (IsText : TextRelation) (input text : List ℕ) (fault : Option InputFault) : Type 0 where
  pub races : List Race
  pub has : HasRaces input false races fault
  pub before : List ℕ
  pub rest : List ℕ
  pub parts : input ≡ before ++ rest
  pub told : AreTold IsText 1 1 races before text

-- the results of the call for the input
pub record LeavesOutput (IsText : TextRelation) (input old new : List ℕ) (details : CallDetails)
    (answer : ℕ) : Type 0 where
  pub text : List ℕ
  pub fault : Option InputFault
  pub output : IsOutput IsText input text fault
  pub left : Leaves text fault old new details answer

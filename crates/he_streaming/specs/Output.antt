-- The text that is written for an input.
use Rattle.std.specs.Prelude.{ℕ, ◌≡◌, ◌≤◌, ◌+◌, ◌++◌, Bool, true, false, List, [], ◌∷◌, Option}
use Rattle.he_timeline.specs.Changes.{ChangeValues, changed}
use Rattle.he_timeline.specs.Race.{Race}
use Rattle.he_plan.specs.Transcript.{IsTranscript, Report}
use Rattle.he_inputs.specs.declared.input_fault.InputFault.{InputFault}
use Rattle.he_inputs.specs.Inputs.{HasRaces, line_count}
use Rattle.he_inputs.specs.Recorded.{IsRecordedText}
use Rattle.he_record.specs.Given.{untried_given}
use Rattle.he_record.specs.Said.{Said}
use Rattle.he_write.specs.Orders.{order_text}
use Rattle.he_write.specs.Written.{transcript_text}
use Rattle.he_course.specs.Addresses.{all_attributes_of}
use Rattle.he_course.specs.Course.{IsRecordedCourse, course_times}
use Rattle.he_course.specs.declared.course.Course.{Course}
use Rattle.he_print.specs.Parts.{States}
use Rattle.he_story.specs.Story.{story_facts}
use Rattle.he_draw.specs.Page.{IsSection}
use Rattle.he_draw.specs.Picture.{picture_facts}
use Rattle.he_draw.specs.Svg.{svg_facts}
use Rattle.he_draw.specs.declared.frame.TheConstants.{LEAST_COLUMNS}
use Rattle.he_json.specs.Documents.{IsExplanationJson, IsOrderJson, IsTranscriptJson, Spot}
use Rattle.he_streaming.specs.declared.race_texts.Content.{Content}
use Rattle.he_streaming.specs.declared.race_texts.Content.TheVariants as contents
use Rattle.he_streaming.specs.declared.race_texts.Printer.{Printer}
use Rattle.he_streaming.specs.declared.race_texts.Printer.TheVariants as printers

-- the text of the race's transcript
abbrev pub IsTranscriptText : List ℕ → Race → Type 0
IsTranscriptText text race = (report : Report) × IsTranscript race report × (text ≡ transcript_text report)

-- the text of the race's order
abbrev pub IsOrderText : List ℕ → Race → Type 0
IsOrderText text race = text ≡ order_text race

-- the object of the race's transcript, and that of its order
abbrev pub IsTranscriptObject : Spot → List ℕ → Race → Type 0
IsTranscriptObject spot text race = (report : Report) × IsTranscript race report × IsTranscriptJson spot report text

abbrev pub IsOrderObject : Spot → List ℕ → Race → Type 0
IsOrderObject spot text race = IsOrderJson spot (all_attributes_of race) text

-- the text of a printer for a course and the record of its race, whose timeline comes from a file of this name, if it
-- has one
abbrev pub IsPrinted : {A : Type 0} → Printer → Option (List ℕ) → List Said → Course A → List ℕ → Type 0
IsPrinted printers.Story file said course text = States (story_facts said file course) text
IsPrinted printers.Json file said course text =
    IsExplanationJson (record { file = file; number = course.number; line = course.line }) said (course_times course)
    course.addresses.items course.events.items text
IsPrinted (printers.Picture look width) file said course text =
    (columns : ℕ) × (LEAST_COLUMNS ≤ columns) × States (picture_facts columns said file course) text
IsPrinted printers.Image file said course text = States (svg_facts said course) text
IsPrinted (printers.Section place) file said course text = IsSection said course place file text

-- the text of the printer for the race's record and course
abbrev pub IsOfCourse : Printer → Spot → List ℕ → List Said → Race → Type 0
IsOfCourse printer spot text said race =
    (course : Course (Unit {0})) × IsRecordedCourse race (untried_given said) spot.number spot.line course
    × IsPrinted printer spot.file said course text

-- the text of this kind for the race at this spot, with this record; transcripts and orders are those of the race,
-- whatever its record
abbrev pub IsTextOf : Content → Spot → List ℕ → List Said → Race → Type 0
IsTextOf contents.Transcript spot text said race = IsTranscriptText text race
IsTextOf contents.TranscriptJson spot text said race = IsTranscriptObject spot text race
IsTextOf contents.Order spot text said race = IsOrderText text race
IsTextOf contents.OrderJson spot text said race = IsOrderObject spot text race
IsTextOf (contents.Course printer) spot text said race = IsOfCourse printer spot text said race

-- whether texts of this kind contain the race's place in the input
abbrev pub has_place : Content → Bool
has_place contents.Transcript = false
has_place contents.Order = false
has_place _ = true

-- whether a race has exactly one text of this kind, byte for byte; other kinds are defined by their contents
abbrev pub is_exact : Content → Bool
is_exact contents.Transcript = true
is_exact contents.Order = true
is_exact _ = false

-- the text of this kind for the race of this number in the file, which begins on this line, with its record and with
-- these changes of its settings
abbrev pub IsTextWith : Content → ChangeValues → Option (List ℕ) → ℕ → ℕ → List ℕ → List Said → Race → Type 0
IsTextWith content changes file number line text said race =
    IsTextOf content (record { file = file; number = number; line = line }) text said (changed changes race)

-- whether a text is one of a race, by the race's number and its line, and by its record
abbrev pub TextRelation : Type 1
TextRelation = ℕ → ℕ → List ℕ → List Said → Race → Type 0

-- the bytes consist of a timeline text of each race, the first with this number and on this line; the text consists
-- of a text for each race, by its number and its line, and by the record that its timeline text begins with
abbrev pub AreTold : TextRelation → ℕ → ℕ → List Race → List ℕ → List ℕ → Type 0
AreTold IsText number line [] bytes text = (bytes ≡ []) × (text ≡ [])
AreTold IsText number line (race ∷ races) bytes text =
    (own : List ℕ) × (behind : List ℕ) × (bytes ≡ own ++ behind) × (is : IsRecordedText own race)
    × (told : List ℕ) × (more : List ℕ) × (text ≡ told ++ more) × IsText number line told is.0 race
    × AreTold IsText (number + 1) (line + line_count own) races behind more

-- the text that is written for an input, a text for each of its races up to the first fault, and the fault of the
-- input
pub record IsOutput (IsText : TextRelation) (input : List ℕ) (is_broken : Bool) (text : List ℕ)
    (fault : Option InputFault) : Type 0 where
  pub races : List Race
  pub has : HasRaces input is_broken races fault
  pub told : AreTold IsText 1 1 races has.before text

-- The object of a race, and texts that are written if they are made.
use Rattle.std.specs.Global.{Global, Vec}
use Rattle.std.specs.Prelude.{◌≡◌, ◌⊎◌, ℕ, List, None, Result, Ok, Err}
use Rattle.he_course.specs.Course.{IsRecordedCourse, course_times}
use Rattle.he_course.specs.declared.course.Course.{Course}
use Rattle.he_inputs.specs.Recorded.{IsRecordedAs}
use Rattle.he_inputs.specs.declared.stream_fault.StreamFault.{StreamFault}
use Rattle.he_json.specs.Documents.{IsExplanationJson}
use Rattle.he_record.specs.Given.{untried_given}
use Rattle.he_record.specs.Said.{Said}
use Rattle.he_stream.specs.declared.stream.OutputStream as outputs
use Rattle.he_tasks.specs.Streams.{PutsText}
use Rattle.he_tasks.specs.declared.reports.TheConstants.{FAULT}
use Rattle.he_timeline.specs.Race.{Race}

-- the object of the text of a race with its record: the explanation of both. The client of the record did not try the
-- addresses that it calls untried
pub record IsRaceObject (text object : List ℕ) : Type 0 where
  pub race : Race
  pub said : List Said
  pub course : Course Global
  pub reads : IsRecordedAs text said race
  pub is_course : IsRecordedCourse race (untried_given said) 1 1 course
  pub is_object : IsExplanationJson (record { file = None; number = course.number; line = course.line }) said
      (course_times course) course.addresses.items course.events.items object

-- the text is written to the output if there is one, otherwise nothing
abbrev pub ShowsMade : {O : Type 0} → outputs.Ghosts O → Result (Vec ℕ) StreamFault → O → O → ℕ → Type 0
ShowsMade output (Ok text) before after status = PutsText output text.items before after status
ShowsMade output (Err fault) before after status = (status ≡ FAULT) × (after ≡ before)

-- such a text is written to the output, or nothing after a fault
abbrev pub ShowsSuch : {O : Type 0} → outputs.Ghosts O → (List ℕ → Type 0) → O → O → ℕ → Type 0
ShowsSuch output IsSuch before after status =
    ((text : List ℕ) × IsSuch text × PutsText output text before after status)
    ⊎ ((status ≡ FAULT) × (after ≡ before))

-- the object of the text's race is written to the output, or nothing after a fault
abbrev pub ShowsRace : {O : Type 0} → outputs.Ghosts O → List ℕ → O → O → ℕ → Type 0
ShowsRace output text before after status = ShowsSuch output (IsRaceObject text) before after status

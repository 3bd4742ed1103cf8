-- The result of a race on real sockets, and the text that is written for one.
use Rattle.std.specs.Prelude.{ℕ, ◌≡◌, ◌⊎◌, ⊤, ◌++◌, Bool, List, [], None, Result, Ok, Err}
use Rattle.he_plan.specs.Agreement.{AreAlike}
use Rattle.he_timeline.specs.Changes.{ChangeValues, changed}
use Rattle.he_timeline.specs.Race.{Race}
use Rattle.he_plan.specs.Transcript.{IsTranscript, Report}
use Rattle.he_plan.specs.declared.transcript.Outcome3.{Outcome3}
use Rattle.he_inputs.specs.Inputs.{GivesNone, GivesOne, StopsNone}
use Rattle.he_write.specs.Written.{transcript_text}
use Rattle.he_inputs.specs.declared.input_fault.InputFault.TheVariants as inputs
use Rattle.he_inputs.specs.declared.inputs.NotOneRace.{NotOneRace}
use Rattle.he_inputs.specs.declared.inputs.NotOneRace.TheVariants as ones
use Rattle.he_recording.specs.declared.facts.Facts.{Facts}
use Rattle.he_live.specs.Reasons.{AreFailed}
use Rattle.he_live.specs.Recorded.{IsRaceRecord}
use Rattle.he_live.specs.declared.recording.LiveReport.{LiveReport}
use Rattle.he_live.specs.declared.fault.LiveFault.{LiveFault}
use Rattle.he_live.specs.declared.fault.LiveFault.TheVariants as faults
use Rattle.he_live.specs.declared.reason.Reason.{Reason}
use Rattle.he_live.specs.declared.reason.Reason.TheVariants.{OutOfMemory, TooManyFiles, TooManyFilesInSystem}

-- the faults of a race itself: of its event loop, of descriptors, or of memory
abbrev pub IsRunFault : LiveFault → Type 0
IsRunFault fault = (fault ≡ faults.Runtime) ⊎ ((fault ≡ faults.Files) ⊎ (fault ≡ faults.Memory))

-- the fault for an event loop that can't be made or that fails, by the system's error
abbrev pub run_fault : Reason → LiveFault
run_fault TooManyFiles = faults.Files
run_fault TooManyFilesInSystem = faults.Files
run_fault OutOfMemory = faults.Memory
run_fault reason = faults.Runtime

-- the record has no other lines than the time and the attempts
pub record IsOwnRace (facts : Facts) : Type 0 where
  pub to : facts.to ≡ None
  pub from : facts.from ≡ None
  pub six : facts.six ≡ None
  pub four : facts.four ≡ None
  pub nat64 : facts.nat64.now ≡ []
  pub servers : facts.servers.now ≡ []
  pub end : facts.end ≡ None

-- the text of a race and its record, with the failed attempts of the transcript
abbrev pub IsOwnRecord : Race → Report → List ℕ → Type 0
IsOwnRecord recorded report text = (facts : Facts) × IsOwnRace facts × IsRaceRecord facts recorded report text

-- the text of a race, the report of it, and its result: the text is the transcript and then the record, which has the
-- race's settings, policy, host, answers and history, and which replays to this transcript
pub record IsLiveText (race : Race) (text : List ℕ) (told : LiveReport) (result : Outcome3) : Type 0 where
  pub recorded : Race
  pub report : Report
  pub alike : AreAlike race recorded
  pub transcript : IsTranscript recorded report
  pub written : text ≡ transcript_text report ++ told.record.items
  pub record_text : IsOwnRecord recorded report told.record.items
  pub failures : AreFailed report.lines told.failed.items
  pub ended : result ≡ report.result

-- the fault for an input that is not one race
abbrev pub fault_of_input : NotOneRace → LiveFault
fault_of_input (ones.Fault (inputs.Text fault)) = faults.Text fault
fault_of_input (ones.Fault inputs.Read) = faults.Read
fault_of_input ones.Count = faults.OneRace
fault_of_input ones.Memory = faults.Memory

-- the input is one race; the text, the report and the result are those of a run of it with the changed settings
pub record GivesText (Given : List ℕ → Bool → Type 0) (changes : ChangeValues) (text : List ℕ) (told : LiveReport)
    (result : Outcome3) : Type 0 where
  pub race : Race
  pub given : GivesOne Given race
  pub run : IsLiveText (changed changes race) text told result

-- Given: the bytes that the input gave, and whether it broke off after them. Taken: the bytes taken from an input
-- that was not read further. Whole: all of the text was written to the output and flushed. Part: a first part of it
-- was written until the output failed. Kept: nothing was written. told: the report of the run. A fault of the input,
-- of the event loop or of memory comes before the first byte is written.
abbrev pub Lives : (List ℕ → Bool → Type 0) → (List ℕ → Type 0) → (List ℕ → Type 0) → (List ℕ → Type 0) → Type 0 → ChangeValues
    → LiveReport → Result Outcome3 LiveFault → Type 0
Lives Given Taken Whole Part Kept changes told (Ok result) =
    (text : List ℕ) × GivesText Given changes text told result × Whole text
Lives Given Taken Whole Part Kept changes told (Err (faults.Text fault)) =
    (GivesNone Given (ones.Fault (inputs.Text fault)) ⊎ StopsNone Taken fault) × Kept
Lives Given Taken Whole Part Kept changes told (Err faults.OneRace) = GivesNone Given ones.Count × Kept
Lives Given Taken Whole Part Kept changes told (Err faults.Read) = GivesNone Given (ones.Fault inputs.Read) × Kept
Lives Given Taken Whole Part Kept changes told (Err faults.Write) =
    (text : List ℕ) × (result : Outcome3) × GivesText Given changes text told result × Part text
Lives Given Taken Whole Part Kept changes told (Err faults.Runtime) = (race : Race) × GivesOne Given race × Kept
Lives Given Taken Whole Part Kept changes told (Err faults.Files) = (race : Race) × GivesOne Given race × Kept
Lives Given Taken Whole Part Kept changes told (Err faults.Memory) = Kept

-- a fault before the end of the race leaves the report as it was
abbrev pub KeepsReport : LiveReport → LiveReport → Result Outcome3 LiveFault → Type 0
KeepsReport old new (Ok result) = ⊤
KeepsReport old new (Err faults.Write) = ⊤
KeepsReport old new (Err fault) = new ≡ old

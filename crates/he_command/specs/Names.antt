-- The effects of `he names`.
use Rattle.std.specs.Global.{Vec}
use Rattle.std.specs.Prelude.{◌≡◌, ◌⊎◌, ◌==◌, ℕ, Bool, true, false, List, [], IsSome, Option, Some, None, Result, Ok, Err}
use Rattle.std.specs.Borrow.{Bor}
use Rattle.he_addr.specs.declared.ip.Family.TheVariants as families
use Rattle.he_failures.specs.Recorded.{IsLookupRecord}
use Rattle.he_failures.specs.declared.recorded.HeardFaults.{HeardFaults}
use Rattle.he_json.specs.Names.{names_text}
use Rattle.he_names.specs.Answers.{Answers, IsFound, answer_of, answers_text}
use Rattle.he_record.specs.declared.moment.Moment.{Moment}
use Rattle.he_request.specs.declared.names.Names.{Names}
use Rattle.he_resolver.specs.declared.naming.LookupReport.{LookupReport}
use Rattle.he_stream.specs.declared.stream.OutputStream as outputs
use Rattle.he_tasks.specs.declared.reports.TheConstants.{DONE, FAULT}
use Rattle.he_command.specs.Files.{WasWritten}
use Rattle.he_command.specs.Objects.{ShowsSuch}
use Rattle.he_command.specs.declared.names.NamesEnd.{NamesEnd}

-- the object of the addresses of this host, or their lines
abbrev pub names_output : Bool → List ℕ → Answers → List ℕ
names_output true host found = names_text host (answer_of families.V6 found) (answer_of families.V4 found)
names_output false host found = answers_text found

-- The addresses are written: names are found if all of that is. The status is FAULT also if one family's look-up
-- failed and the other's addresses were written.
abbrev pub ShowsNames : {O : Type 0} → outputs.Ghosts O → Names → Answers → O → O → NamesEnd → Type 0
ShowsNames output names found before after end =
    (shown : ℕ) × ShowsSuch output (λ text. text ≡ names_output names.is_json names.host.now found) before after shown
    × (end.is_found ≡ (shown == DONE)) × ((end.status ≡ shown) ⊎ (end.status ≡ FAULT))

-- addresses are found and written, or neither
abbrev pub FindsNames : {O : Type 0} → outputs.Ghosts O → Names → O → O → NamesEnd → Type 0
FindsNames output names before after end =
    ((found : Answers) × IsFound found × ShowsNames output names found before after end)
    ⊎ ((end.is_found ≡ false) × (end.status ≡ FAULT) × (after ≡ before))

-- the faults and the events are those of the look-up's report
pub record IsHeardIn (lookup : LookupReport) (heard : HeardFaults) : Type 0 where
  pub six : heard.v6 ≡ lookup.v6
  pub four : heard.v4 ≡ lookup.v4
  pub events : heard.events.now ≡ lookup.events.items

-- the record lines of a look-up that found an address; without one nothing
abbrev pub IsLookupText : LookupReport → Bool → List ℕ → Type 0
IsLookupText lookup true text =
    (at : Option Moment) × (heard : HeardFaults) × IsHeardIn lookup heard × IsLookupRecord at heard text
IsLookupText lookup false text = text ≡ []

-- the text was made, and written
abbrev pub WasKept : {E : Type 0} → (List ℕ → Type 0) → Result (Vec ℕ) E → Type 0
WasKept IsWritten (Ok text) = IsWritten text.items
WasKept IsWritten (Err fault) = ⊥

-- these lines were written
abbrev pub KeepsLookup : (List ℕ → Type 0) → LookupReport → Bool → Type 0
KeepsLookup IsWritten lookup is_found = (text : List ℕ) × IsLookupText lookup is_found text × IsWritten text

-- with a path, the record lines are written to a new file for it, and then the status is that of the look-up; or
-- writing failed
abbrev pub EndsNames : (List ℕ → Type 0) → LookupReport → NamesEnd → Option (Bor (List ℕ)) → ℕ → Type 0
EndsNames IsWritten lookup end None status = status ≡ end.status
EndsNames IsWritten lookup end (Some path) status =
    ((status ≡ end.status) × KeepsLookup IsWritten lookup end.is_found) ⊎ (status ≡ FAULT)

-- the effects of a look-up with this report: so; or the file of its record lines could not be created, and nothing is
-- written
abbrev pub RunsLookup : {P O : Type 0} → outputs.Ghosts P → outputs.Ghosts O → Names → LookupReport → O → O → ℕ
    → Type 0
RunsLookup page output names lookup before after status =
    ((end : NamesEnd) × FindsNames output names before after end
    × EndsNames (WasWritten page) lookup end names.record status)
    ⊎ (IsSome names.record × (after ≡ before) × (status ≡ FAULT))

-- the effects of `he names`
abbrev pub RunsNames : {P O : Type 0} → outputs.Ghosts P → outputs.Ghosts O → Names → O → O → ℕ → Type 0
RunsNames page output names before after status =
    (lookup : LookupReport) × RunsLookup page output names lookup before after status

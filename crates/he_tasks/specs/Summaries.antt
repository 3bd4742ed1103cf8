-- The summary or the comparison of the texts that a line names.
use Rattle.std.specs.Prelude.{◌≡◌, ◌≢◌, ◌⊎◌, ℕ, Bool, true, false, List, [], ◌∷◌, codes, length, map, Option, Some, None, Result, Err, if◌then◌else◌}
use Rattle.he_timeline.specs.Changes.{ChangeValues}
use Rattle.he_stream.specs.declared.stream.InputStream as inputs
use Rattle.he_stream.specs.declared.stream.OutputStream as outputs
use Rattle.he_compare.specs.Groups.{IsGroupTable}
use Rattle.he_compare.specs.Lines.{AreLines}
use Rattle.he_compare.specs.Table.{IsTable}
use Rattle.he_compare.specs.Worst.{IsWorst}
use Rattle.he_compare.specs.declared.grouping.By.{By as Dividing}
use Rattle.he_compare.specs.declared.grouping.By.TheVariants as dividing
use Rattle.he_compare.specs.declared.verdict.Finish.TheVariants.{NotWon}
use Rattle.he_totals.specs.Hosts.{AreNamed, Named, at_hosts}
use Rattle.he_totals.specs.Kept.{Run, kept_of}
use Rattle.he_totals.specs.Summed.{Adds, HasSummed, Sums, host_of}
use Rattle.he_summary.specs.Written.{IsWritten}
use Rattle.he_summary.specs.declared.figures.Form.{Form}
use Rattle.he_summary.specs.declared.figures.Form.TheVariants as forms
use Rattle.he_totals.specs.declared.kept.Kept.{Kept}
use Rattle.he_inputs.specs.declared.stream_fault.StreamFault.{StreamFault}
use Rattle.he_inputs.specs.declared.stream_fault.StreamFault.TheVariants.{Memory}
use Rattle.he_options.specs.Shown.{shown}
use Rattle.he_options.specs.declared.texts.By.{By}
use Rattle.he_options.specs.declared.texts.By.TheVariants as by
use Rattle.he_options.specs.declared.texts.Task.{Task}
use Rattle.he_options.specs.declared.texts.Task.TheVariants.{Compare, Group, Summarize, Write}
use Rattle.he_options.specs.declared.texts.Content.TheVariants.{Section}
use Rattle.he_options.specs.declared.texts.Texts.{Texts}
use Rattle.he_tasks.specs.Pages.{PutsTail}
use Rattle.he_tasks.specs.Streams.{Gave, GaveSoFar, PutsText}
use Rattle.he_tasks.specs.declared.reports.TheConstants.{DONE, FAULT}

-- whether races are kept for the end of the output: a comparison, a summary, or the totals of a page
abbrev pub keeps : Task → Bool
keeps (Compare json races) = true
keeps (Summarize json metrics slowest) = true
keeps (Group json by) = true
keeps (Write Section workers) = true
keeps _ = false

-- the settings of each race, row by row: those of a comparison, or those of a summary
abbrev pub rows_by : Task → Texts → List ChangeValues
rows_by (Compare json races) texts = texts.rows.items
rows_by (Summarize json metrics slowest) texts = texts.changes ∷ []
rows_by (Group json by) texts = texts.changes ∷ []
rows_by (Write Section workers) texts = texts.changes ∷ []
rows_by _ texts = []

abbrev pub rows_of : Texts → List ChangeValues
rows_of texts = rows_by texts.task texts

-- the races of a text were added, as those of some place, up to its first fault; or there was no memory for them, and
-- there are no sums from then on
abbrev pub AddsSums : {I : Type 0} → inputs.Ghosts I → I → I → Option Sums → Option Sums
    → Result (Unit {0}) StreamFault → Type 0
AddsSums input first last (Some old) (Some new) result =
    (place : ℕ) × Adds place (Gave input first last) (GaveSoFar input first last) old new result
    × (result ≢ Err Memory)
AddsSums input first last None (Some new) result = ⊥
AddsSums input first last old None result = result ≡ Err Memory

abbrev pub form_of : Bool → Bool → Form
form_of json metrics = if metrics then forms.Metrics else if json then forms.Json else forms.Text

-- the lines of races, if they are asked for
abbrev pub AreLinesOf : Bool → Form → List Kept → List ℕ → List ℕ → Type 0
AreLinesOf true form kept old new = AreLines form NotWon kept old new
AreLinesOf false form kept old new = new ≡ old

-- a table of `rows` rows, after the lines
abbrev pub IsCompared : Bool → Form → List Kept → ℕ → List ℕ → List ℕ → Type 0
IsCompared races form kept rows old new =
    (between : List ℕ) × AreLinesOf races form kept old between × IsTable form kept 0 rows between new

-- the name of a file in a form: in JSON, which escapes it, as it is; otherwise as a terminal may show it
abbrev pub name_in : Form → List ℕ → List ℕ
name_in forms.Json name = name
name_in form name = shown name

-- the names of the files of a line
abbrev pub names_in : Form → Texts → List (List ℕ)
names_in form texts = map (λ file. name_in form file.now) texts.files.items

-- the table of these races by their files, by the hours in the names of these, or by the families that won
abbrev pub AreDivided : Form → Dividing → Texts → List Run → List ℕ → List ℕ → Type 0
AreDivided form by texts runs old new =
    IsGroupTable form (record { by = by; names = names_in form texts }) (map kept_of runs) old new

-- the table of these races by their hosts, each race with the place of its host
abbrev pub AreByHost : Form → List Run → List ℕ → List ℕ → Type 0
AreByHost form runs old new =
    (hosts : Named) × AreNamed (map host_of runs) hosts
    × IsGroupTable form (record { by = dividing.Host; names = hosts.names })
    (at_hosts hosts.places (map kept_of runs)) old new

-- the table of these races by what is asked for
abbrev pub AreGrouped : Form → By → Texts → List Run → List ℕ → List ℕ → Type 0
AreGrouped form by.File texts runs old new = AreDivided form dividing.File texts runs old new
AreGrouped form by.Hour texts runs old new = AreDivided form dividing.Hour texts runs old new
AreGrouped form by.Family texts runs old new = AreDivided form dividing.Family texts runs old new
AreGrouped form by.Host texts runs old new = AreByHost form runs old new

-- the line on the worst hour of these races, by the names of their files
abbrev pub IsWorstHour : Texts → List Run → List ℕ → List ℕ → Type 0
IsWorstHour texts runs old new =
    IsWorst (codes "worst hour: ") (record { by = dividing.Hour; names = names_in forms.Text texts })
    (map kept_of runs) old new

-- the line on their worst host
abbrev pub IsWorstHost : List Run → List ℕ → List ℕ → Type 0
IsWorstHost runs old new =
    (hosts : Named) × AreNamed (map host_of runs) hosts
    × IsWorst (codes "worst host: ") (record { by = dividing.Host; names = hosts.names })
    (at_hosts hosts.places (map kept_of runs)) old new

-- both lines
abbrev pub AreWorstGroups : Texts → List Run → List ℕ → List ℕ → Type 0
AreWorstGroups texts runs old new =
    (between : List ℕ) × IsWorstHour texts runs old between × IsWorstHost runs between new

-- both as text; no line in another form
abbrev pub AreWorst : Form → Texts → List Run → List ℕ → List ℕ → Type 0
AreWorst forms.Text texts runs old new = AreWorstGroups texts runs old new
AreWorst forms.Json texts runs old new = new ≡ old
AreWorst forms.Metrics texts runs old new = new ≡ old

-- a summary of these races with the worst of their groups
abbrev pub IsSummary : Form → Texts → List Run → ℕ → List ℕ → List ℕ → Type 0
IsSummary form texts runs slowest old new =
    (between : List ℕ) × IsWritten form runs slowest old between × AreWorst form texts runs between new

-- a summary of these races, of all or group by group, or a comparison
abbrev pub IsTold : Task → Texts → List Run → List ℕ → List ℕ → Type 0
IsTold (Summarize json metrics slowest) texts runs old new =
    IsSummary (form_of json metrics) texts runs slowest old new
IsTold (Group json by) texts runs old new = AreGrouped (form_of json false) by texts runs old new
IsTold (Compare json races) texts runs old new =
    IsCompared races (form_of json false) (map kept_of runs) (length texts.labels.items) old new
IsTold _ texts runs old new = Unit {0}

-- that text, or a first part of it, was put into the output; or there was no memory for it
abbrev pub PutsSums : {O : Type 0} → outputs.Ghosts O → Texts → Sums → O → O → ℕ → Type 0
PutsSums output texts sums before after status =
    ((status ≡ FAULT) × (after ≡ before))
    ⊎ ((text : List ℕ)
    × ((runs : List Run) → HasSummed sums runs → IsTold texts.task texts runs [] text)
    × PutsText output text before after status)

-- the end of the output of a task: the report on these sums, if it sums up; nothing, if there are none for want of
-- memory
abbrev pub EndsTask : {O : Type 0} → outputs.Ghosts O → Texts → Task → Option Sums → O → O → ℕ → Type 0
EndsTask output texts (Summarize json metrics slowest) (Some sums) before after status =
    PutsSums output texts sums before after status
EndsTask output texts (Group json by) (Some sums) before after status = PutsSums output texts sums before after status
EndsTask output texts (Compare json races) (Some sums) before after status =
    PutsSums output texts sums before after status
EndsTask output texts (Write Section workers) (Some sums) before after status =
    PutsTail output sums before after status
EndsTask output texts (Write Section workers) None before after status = (after ≡ before) × (status ≡ FAULT)
EndsTask output texts (Summarize json metrics slowest) None before after status = (after ≡ before) × (status ≡ FAULT)
EndsTask output texts (Group json by) None before after status = (after ≡ before) × (status ≡ FAULT)
EndsTask output texts (Compare json races) None before after status = (after ≡ before) × (status ≡ FAULT)
EndsTask output texts task sums before after status = (after ≡ before) × (status ≡ DONE)

abbrev pub EndsTexts : {O : Type 0} → outputs.Ghosts O → Texts → Option Sums → O → O → ℕ → Type 0
EndsTexts output texts = EndsTask output texts texts.task

-- Tasks on texts of races, of standard input or of files, and the status that reports how they ended.
use Rattle.std.specs.Prelude.{◌≡◌, ◌≢◌, ◌⊎◌, ◌++◌, ℕ, Bool, true, false, List, [], ◌∷◌, Option, Some, None, Result, Err, codes, if◌then◌else◌, option_map}
use Rattle.std.specs.Borrow.{Bor}
use Rattle.he_check.specs.Stream.{Checks, IsObject, PutsObject}
use Rattle.he_timeline.specs.Changes.{ChangeValues}
use Rattle.he_draw.specs.Page.{name_text}
use Rattle.he_draw.specs.declared.look.Look.TheVariants as looks
use Rattle.he_streaming.specs.Stream.{Replays}
use Rattle.he_streaming.specs.declared.race_texts.Content.{Content}
use Rattle.he_streaming.specs.declared.race_texts.Content.TheVariants as contents
use Rattle.he_streaming.specs.declared.race_texts.Printer.TheVariants as printers
use Rattle.he_stream.specs.declared.stream.InputStream as inputs
use Rattle.he_stream.specs.declared.stream.OutputStream as outputs
use Rattle.he_inputs.specs.declared.stream_fault.StreamFault.{StreamFault}
use Rattle.he_totals.specs.Summed.{Sums}
use Rattle.he_options.specs.Shown.{shown}
use Rattle.he_options.specs.declared.texts.Content.TheVariants as asked
use Rattle.he_options.specs.declared.texts.Content.{Content as Asked}
use Rattle.he_options.specs.declared.texts.Task.{Task}
use Rattle.he_options.specs.declared.texts.Task.TheVariants.{Write, Compare, Check, Group, Summarize}
use Rattle.he_options.specs.declared.texts.Texts.{Texts}
use Rattle.he_tasks.specs.Pages.{PutsSections}
use Rattle.he_tasks.specs.Status.{first_fault, status_of}
use Rattle.he_tasks.specs.Streams.{Gave, GaveSoFar, TookAll, TookPart, TookRounds, TookRoundsPart, TookToTheEnd}
use Rattle.he_tasks.specs.Summaries.{AddsSums}
use Rattle.he_tasks.specs.declared.name.Name.{Name}
use Rattle.he_tasks.specs.declared.reports.TheConstants.{DONE, FAULT}

-- the content that he_streaming writes for this request, for the text of this place
abbrev pub content_of : ℕ → Asked → Content
content_of place (asked.Transcript json) = if json then contents.TranscriptJson else contents.Transcript
content_of place (asked.Order json) = if json then contents.OrderJson else contents.Order
content_of place asked.ExplanationJson = contents.Course printers.Json
content_of place asked.Story = contents.Course printers.Story
content_of place (asked.Picture ascii width) =
    contents.Course (printers.Picture (if ascii then looks.Ascii else looks.Unicode) width)
content_of place asked.Image = contents.Course printers.Image
content_of place asked.Section = contents.Course (printers.Section place)

abbrev pub is_section : Asked → Bool
is_section asked.Section = true
is_section _ = false

-- the name of a text, for the system and for a terminal
pub record Naming : Type 0 where
  pub path : List ℕ
  pub shown : List ℕ

abbrev pub naming : Option Name → Option Naming
naming name = option_map (λ n. record { path = n.path.now; shown = n.shown.now }) name

abbrev pub file_of : Option Naming → Option (List ℕ)
file_of name = option_map (λ n. n.path) name

abbrev pub shown_of : Option Naming → Option (List ℕ)
shown_of name = option_map (λ n. n.shown) name

-- the name in content of this kind: as it is shown in stories, pictures and pages, as it is in JSON
abbrev pub named_for : Asked → Option Naming → Option (List ℕ)
named_for asked.Story name = shown_of name
named_for (asked.Picture ascii width) name = shown_of name
named_for asked.Section name = shown_of name
named_for _ name = file_of name

-- a text was checked, and the numbers of its races and lines were written, or the findings as JSON
abbrev pub ChecksText : Bool → {I O : Type 0} → inputs.Ghosts I → outputs.Ghosts O → Bool → Option (List ℕ) → I → I → O
    → O → Result (Unit {0}) StreamFault → Type 0
ChecksText false input output is_all file first last before after =
    Checks (Gave input first last) (GaveSoFar input first last) (TookAll output before after)
    (TookPart output before after) (after ≡ before)
ChecksText true input output is_all file first last before after =
    PutsObject (TookAll output before after) (TookPart output before after) (after ≡ before)
    (IsObject is_all file (Gave input first last) (GaveSoFar input first last))

-- The result of a task on a text from a file of this name, if it has one, each of whose races has these changes of
-- its settings: its input went from the first to the last state, and the output and the sums from before to after.
-- The faults that a check reports other than as JSON are no part of it.
abbrev pub RunsTask : {I O : Type 0} → inputs.Ghosts I → outputs.Ghosts O → Task → ChangeValues → Option Naming → I
    → I → O × Option Sums → O × Option Sums → Result (Unit {0}) StreamFault → Type 0
RunsTask input output (Write content workers) changes name first last before after =
    λ result. ((is_section content ≡ true)
    × PutsSections input output changes (named_for content name) first last before after result)
    ⊎ ((is_section content ≡ false) × (place : ℕ) × Replays (content_of place content) changes (named_for content name) (Gave input first last)
    (GaveSoFar input first last) (TookToTheEnd output before.0 after.0) (TookRoundsPart output before.0 after.0)
    (TookRounds output before.0 after.0) result)
RunsTask input output (Compare json races) changes name first last before after =
    λ result. (after.0 ≡ before.0) × AddsSums input first last before.1 after.1 result
RunsTask input output (Check is_all json) changes name first last before after =
    ChecksText json input output is_all (file_of name) first last before.0 after.0
RunsTask input output (Summarize json metrics slowest) changes name first last before after =
    λ result. (after.0 ≡ before.0) × AddsSums input first last before.1 after.1 result
RunsTask input output (Group json by) changes name first last before after =
    λ result. (after.0 ≡ before.0) × AddsSums input first last before.1 after.1 result

-- the line between the stories of two texts, or nothing before the first ones
abbrev pub IsGap : List ℕ → Type 0
IsGap text = (text ≡ []) ⊎ (text ≡ codes "\n")

-- the output for the races of a text begins with the text's name on a page, and with a gap for stories, whose first
-- lines have the name; other output has no heading
abbrev pub heading_of : List ℕ → Task → Option (List ℕ)
heading_of name (Write asked.Story workers) = Some name
heading_of name (Write asked.Section workers) = Some name
heading_of name _ = None

-- the form of the heading
abbrev pub IsHeading : Task → List ℕ → List ℕ → Type 0
IsHeading (Write asked.Section workers) name text = text ≡ name_text name
IsHeading task name text = IsGap text

-- whether there are several texts, which then have headings
abbrev pub has_headings : {N : Type 0} → List N → Bool
has_headings [] = false
has_headings (one ∷ []) = false
has_headings (one ∷ two ∷ more) = true

-- the name that heads a text of this name, if one does
abbrev pub heading : Task → Bool → Option Naming → Option (List ℕ)
heading task true (Some name) = heading_of name.shown task
heading task headed name = None

-- the heading, if there is one, was put
abbrev pub HasHeading : {O : Type 0} → outputs.Ghosts O → Task → Option (List ℕ) → O → O → Type 0
HasHeading output task None before after = after ≡ before
HasHeading output task (Some name) before after =
    (text : List ℕ) × IsHeading task name text × TookAll output before after text

-- a first part of the heading was put until that failed, or nothing for want of memory
abbrev pub LacksHeading : {O : Type 0} → outputs.Ghosts O → Task → Option (List ℕ) → O → O → Type 0
LacksHeading output task None before after = ⊥
LacksHeading output task (Some name) before after =
    ((text : List ℕ) × IsHeading task name text × TookPart output before after text) ⊎ (after ≡ before)

-- the task was done after the heading; or the heading had a fault, and nothing was read
abbrev pub RunsHeaded : {I O : Type 0} → inputs.Ghosts I → outputs.Ghosts O → Task → ChangeValues → Bool
    → Option Naming → I → I → O × Option Sums → O × Option Sums → Result (Unit {0}) StreamFault → Type 0
RunsHeaded {I} {O} input output task changes headed name first last before after result =
    ((between : O) × HasHeading output task (heading task headed name) before.0 between
    × RunsTask input output task changes name first last (between, before.1) after result)
    ⊎ ((fault : StreamFault) × (result ≡ Err fault) × (last ≡ first)
    × LacksHeading output task (heading task headed name) before.0 after.0)

-- the result for a text of this name, if it has one, by the states of its input and of the state that it changes, and
-- by the status
abbrev pub OfText : Type 0 → Type 1
OfText S = Option Naming → (I : Type 0) → inputs.Ghosts I → I → I → S → S → ℕ → Type 0

-- one of these texts: the task was done after its heading, and the status reports how that ended
abbrev pub RunsOne : {O : Type 0} → outputs.Ghosts O → Texts → OfText (O × Option Sums)
RunsOne output texts name I input first last before after status =
    (result : Result (Unit {0}) StreamFault)
    × RunsHeaded input output texts.task texts.changes (has_headings texts.files.items) name first last before after
    result
    × (status ≡ status_of result)

-- the result for a name: `-` is the input; another is a file, which gave a text, or which can't be opened
abbrev pub RunsFile : {I F S : Type 0} → OfText S → inputs.Ghosts I → inputs.Ghosts F → Bor (List ℕ) → I → I → S → S
    → ℕ → Type 0
RunsFile {I} {F} Runs input file name first last before after status =
    ((name.now ≡ codes "-") × Runs (Some (record { path = name.now; shown = name.now })) I input first last before after status)
    ⊎ ((name.now ≢ codes "-") × (last ≡ first)
    × (((opened : F) × (closed : F)
    × Runs (Some (record { path = name.now; shown = shown name.now })) F file opened closed before after status)
    ⊎ ((after ≡ before) × (status ≡ FAULT))))

-- The result for files, one after the other: those after one that has a fault are left out, or not. The status is
-- that of the first fault.
abbrev pub RunsFiles : {N I S : Type 0} → Bool → (N → I → I → S → S → ℕ → Type 0) → List N → I → I → S → S → ℕ
    → Type 0
RunsFiles goes_on Runs [] first last before after status = (last ≡ first) × (after ≡ before) × (status ≡ DONE)
RunsFiles {N} {I} {S} goes_on Runs (name ∷ more) first last before after status =
    ((goes_on ≡ false) × (status ≢ DONE) × Runs name first last before after status)
    ⊎ ((one : ℕ) × (rest : ℕ) × (next : I) × (between : S) × ((goes_on ≡ true) ⊎ (one ≡ DONE))
    × Runs name first next before between one × RunsFiles goes_on Runs more next last between after rest
    × (status ≡ first_fault one rest))

-- the result for the texts that a line names; for the input's if it names no file
abbrev pub RunsAll : {I F S : Type 0} → Bool → OfText S → inputs.Ghosts I → inputs.Ghosts F → List (Bor (List ℕ)) → I
    → I → S → S → ℕ → Type 0
RunsAll {I} goes_on Runs input file [] = Runs None I input
RunsAll goes_on Runs input file (name ∷ more) = RunsFiles goes_on (RunsFile Runs input file) (name ∷ more)

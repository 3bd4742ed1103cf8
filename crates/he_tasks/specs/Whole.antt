-- The output for all the texts that a line names, to the output or to a file.
use Rattle.std.specs.Prelude.{◌≡◌, ◌⊎◌, ℕ, Bool, true, false, [], List, Option, Some, MatchOption, map}
use Rattle.he_options.specs.declared.texts.Content.TheVariants.{Section}
use Rattle.he_options.specs.declared.texts.Task.{Task}
use Rattle.he_options.specs.declared.texts.Task.TheVariants.{Write}
use Rattle.he_options.specs.declared.texts.Texts.{Texts}
use Rattle.he_stream.specs.declared.stream.InputStream as inputs
use Rattle.he_stream.specs.declared.stream.OutputStream as outputs
use Rattle.he_totals.specs.Summed.{HasSummed, Sums}
use Rattle.he_tasks.specs.Directories.{HasFilesOf}
use Rattle.he_tasks.specs.Listed.{IsList, WasListed}
use Rattle.he_tasks.specs.Status.{first_fault}
use Rattle.he_tasks.specs.Streams.{TookAll, TookPart}
use Rattle.he_tasks.specs.Summaries.{EndsTexts, keeps, rows_of}
use Rattle.he_tasks.specs.Texts.{RunsAll, RunsOne}
use Rattle.he_tasks.specs.declared.reports.TheConstants.{DONE, FAULT}

-- a page begins with a head, whose words are free
abbrev pub is_page : Task → Bool
is_page (Write Section workers) = true
is_page _ = false

-- the head of a page was put
abbrev pub HasHead : {O : Type 0} → outputs.Ghosts O → Bool → O → O → Type 0
HasHead output false before after = after ≡ before
HasHead output true before after = (head : List ℕ) × TookAll output before after head

-- a first part of the head was put until that failed; or there was no memory for it, or for the races that are kept,
-- and nothing was put
abbrev pub LacksStart : {O : Type 0} → outputs.Ghosts O → Task → O → O → Type 0
LacksStart output task before after =
    ((is_page task ≡ true) × (head : List ℕ) × TookPart output before after head)
    ⊎ ((keeps task ≡ true) × (after ≡ before))

-- The head was put, then the output for the texts, one after the other, with the sums of no race at first, then the
-- end; or there was a fault before that, and nothing was read.
abbrev pub WritesTexts : {I F O : Type 0} → inputs.Ghosts I → inputs.Ghosts F → outputs.Ghosts O → Texts → I → I → O
    → O → ℕ → Type 0
WritesTexts {I} {F} {O} input file output texts first last before after status =
    ((none : Sums) × (headed told : O) × (sums : Option Sums) × (own end : ℕ) × HasSummed none []
    × (none.settings ≡ rows_of texts)
    × HasHead output (is_page texts.task) before headed
    × RunsAll texts.goes_on (RunsOne output texts) input file texts.files.items first last (headed, Some none)
    (told, sums) own
    × EndsTexts output texts sums told after end × (status ≡ first_fault own end))
    ⊎ ((status ≡ FAULT) × (last ≡ first) × LacksStart output texts.task before after)

-- the texts were written so into a new file
abbrev pub FillsFile : {I F P : Type 0} → inputs.Ghosts I → inputs.Ghosts F → outputs.Ghosts P → Texts → I → I → ℕ
    → Type 0
FillsFile {I} {F} {P} input file page texts first last status =
    (made written : P) × WritesTexts input file page texts first last made written status

-- and the file has its name; or that failed, or the file could not be made, and nothing was read
abbrev pub WritesFile : {I F P : Type 0} → inputs.Ghosts I → inputs.Ghosts F → outputs.Ghosts P → Texts → I → I → ℕ
    → Type 0
WritesFile input file page texts first last status =
    ((one : ℕ) × FillsFile input file page texts first last one
    × ((status ≡ one) ⊎ ((one ≡ DONE) × (status ≡ FAULT))))
    ⊎ ((status ≡ FAULT) × (last ≡ first))

-- the result for the texts that a line names, in the output or in the file that it names
abbrev pub DoesTexts : {I F P O : Type 0} → inputs.Ghosts I → inputs.Ghosts F → outputs.Ghosts P → outputs.Ghosts O
    → Texts → I → I → O → O → ℕ → Type 0
DoesTexts input file page output texts first last before after status =
    MatchOption texts.page
    (WritesTexts input file output texts first last before after status)
    (λ _. (after ≡ before) × WritesFile input file page texts first last status)

-- so for the files of these names; or there was no memory for them, and nothing was read
abbrev pub DoesFiles : {I F P O : Type 0} → inputs.Ghosts I → inputs.Ghosts F → outputs.Ghosts P → outputs.Ghosts O
    → Texts → List (List ℕ) → I → I → O → O → ℕ → Type 0
DoesFiles input file page output texts names first last before after status =
    ((named : Texts) × HasFilesOf names texts named
    × DoesTexts input file page output named first last before after status)
    ⊎ ((status ≡ FAULT) × (last ≡ first) × (after ≡ before))

-- so for the names in this list; or it has a fault, and nothing was read
abbrev pub RunsList : {I F P O : Type 0} → inputs.Ghosts I → inputs.Ghosts F → outputs.Ghosts P → outputs.Ghosts O
    → Texts → List ℕ → I → I → O → O → ℕ → Type 0
RunsList input file page output texts list first last before after status =
    ((names : List (List ℕ)) × IsList list names
    × DoesFiles input file page output texts names first last before after status)
    ⊎ ((status ≡ FAULT) × (last ≡ first) × (after ≡ before))

-- so for the names in the list at this path; or it could not be read
abbrev pub DoesListed : {I F P O : Type 0} → inputs.Ghosts I → inputs.Ghosts F → outputs.Ghosts P → outputs.Ghosts O
    → Texts → List ℕ → I → I → O → O → ℕ → Type 0
DoesListed {I} input file page output texts path first last before after status =
    ((list : List ℕ) × (next : I) × WasListed input file path first next list
    × RunsList input file page output texts list next last before after status)
    ⊎ ((status ≡ FAULT) × (after ≡ before))

-- so for the files of the line, or for those that its list names
abbrev pub DoesNamed : {I F P O : Type 0} → inputs.Ghosts I → inputs.Ghosts F → outputs.Ghosts P → outputs.Ghosts O
    → Texts → I → I → O → O → ℕ → Type 0
DoesNamed input file page output texts first last before after status =
    MatchOption texts.list
    (DoesFiles input file page output texts (map (λ name. name.now) texts.files.items) first last before after status)
    (λ path. DoesListed input file page output texts path.now first last before after status)

-- The effects of `he connect --check`.
use Rattle.std.specs.Global.{Global}
use Rattle.std.specs.Prelude.{◌≡◌, ◌⊎◌, ◌&&◌, ℕ, Bool, true, false, List, ◌∷◌, Option, Some, None, codes, if◌then◌else◌, nat_eq, nat_le}
use Rattle.std.specs.Cmp.Lexicographic.{pointwise}
use Rattle.std.specs.List.{list_any}
use Rattle.std.specs.Option.{unwrap_or}
use Rattle.std.specs.Borrow.{Bor}
use Rattle.he_connect.specs.Races.{IsRun}
use Rattle.he_course.specs.Course.{IsRecordedCourse}
use Rattle.he_course.specs.declared.course.Course.{Course}
use Rattle.he_inputs.specs.Recorded.{IsRecordedAs}
use Rattle.he_live.specs.declared.dialed.Dialed.{Dialed}
use Rattle.he_names.specs.declared.environment.Environment.{Environment}
use Rattle.he_plan.specs.declared.transcript.Line.{Line}
use Rattle.he_record.specs.Given.{untried_given}
use Rattle.he_record.specs.Said.{Said}
use Rattle.he_request.specs.declared.connect.Connection.{Connection}
use Rattle.he_stream.specs.declared.stream.InputStream as inputs
use Rattle.he_stream.specs.declared.stream.OutputStream as outputs
use Rattle.he_tasks.specs.Streams.{TookAll, TookPart}
use Rattle.he_timeline.specs.Race.{Race}
use Rattle.he_command.specs.Connection.{HasPort, MakesConnection, race_of}
use Rattle.he_command.specs.Files.{WasRead, WasWritten}
use Rattle.he_command.specs.declared.check.TheConstants.{BROKEN, DEFAULT_WARN, FINE, SLOW, UNKNOWN}

-- the most milliseconds that a check loses without a warning
abbrev pub warn_of : Connection → ℕ
warn_of connection = unwrap_or connection.warn DEFAULT_WARN

-- the status of a race with this winner, if any, that lost so many milliseconds
abbrev pub judged : ℕ → Option Line → ℕ → ℕ
judged warn None lost = BROKEN
judged warn (Some winner) lost = if nat_le lost warn then FINE else SLOW

-- that of the race with its record that the text has. The client of the record did not try the addresses that it calls
-- untried
pub record IsJudged (warn : ℕ) (text : List ℕ) (status : ℕ) : Type 0 where
  pub race : Race
  pub said : List Said
  pub course : Course Global
  pub reads : IsRecordedAs text said race
  pub is_course : IsRecordedCourse race (untried_given said) 1 1 course
  pub status_is : status ≡ judged warn course.ended.winner course.account.lost

-- the record was written to a new file for its path, if there is one; `-` is no file
abbrev pub KeptIn : (List ℕ → Type 0) → Option (Bor (List ℕ)) → List ℕ → Type 0
KeptIn IsWritten None text = Unit {0}
KeptIn IsWritten (Some path) text = (path.now ≡ codes "-") ⊎ IsWritten text

-- a race was run for the request, at the number of the line's port, and this text, which is its record, was kept
abbrev pub WasRaced : (List ℕ → Type 0) → (List ℕ → Type 0) → Environment → Connection → List ℕ → Type 0
WasRaced IsRead IsWritten environment connection text =
    (port : ℕ) × (story : List ℕ) × (won : Option Dialed) × HasPort IsRead connection.port port
    × IsRun (race_of connection port environment) text story won × KeptIn IsWritten connection.record text

-- UNKNOWN, or the status of that race
abbrev pub IsFound : (List ℕ → Type 0) → (List ℕ → Type 0) → Environment → Connection → ℕ → Type 0
IsFound IsRead IsWritten environment connection status =
    (status ≡ UNKNOWN)
    ⊎ ((text : List ℕ) × WasRaced IsRead IsWritten environment connection text
    × IsJudged (warn_of connection) text status)

-- a line was written, and the status is that of the check; or a part of one, and it is UNKNOWN
abbrev pub ShowsFinding : {O : Type 0} → outputs.Ghosts O → ℕ → O → O → ℕ → Type 0
ShowsFinding output own before after status =
    (line : List ℕ)
    × (((status ≡ own) × TookAll output before after line) ⊎ ((status ≡ UNKNOWN) × TookPart output before after line))

-- the effects of a check, by a resolver configuration with this environment's changes: a line is written, and the
-- status is that of the race that was run for the request, by its winner and by what it lost; or UNKNOWN
abbrev pub MakesCheck : {F P O : Type 0} → inputs.Ghosts F → outputs.Ghosts P → outputs.Ghosts O → Environment
    → Connection → O → O → ℕ → Type 0
MakesCheck file page output environment connection before after status =
    (own : ℕ) × IsFound (WasRead file) (WasWritten page) environment connection own
    × ShowsFinding output own before after status

-- the words are those of a check: `connect` with `--check`
abbrev pub is_check : List (Bor (List ℕ)) → Bool
is_check (program ∷ command ∷ options) =
    pointwise nat_eq command.now (codes "connect")
    && list_any (λ option. pointwise nat_eq option.now (codes "--check")) options
is_check words = false

-- the status of a line that is refused: of a check that of a plugin, otherwise this one
abbrev pub refused_status : Bool → ℕ → ℕ
refused_status checks own = if checks then UNKNOWN else own

-- the effects of a connection, which is only checked or is made
abbrev pub DoesConnection : {F P O : Type 0} → inputs.Ghosts F → outputs.Ghosts P → outputs.Ghosts O → Environment
    → Connection → Bool → O → O → ℕ → Type 0
DoesConnection file page output environment connection true before after status =
    MakesCheck file page output environment connection before after status
DoesConnection file page output environment connection false before after status =
    MakesConnection file page output environment connection before after status

-- The effects of `he live`.
use Rattle.std.specs.Prelude.{◌≡◌, ◌≢◌, ◌⊎◌, ℕ, Bool, true, List, IsSome, Option, Some, None, Result, Ok, Err, codes}
use Rattle.std.specs.Borrow.{Bor}
use Rattle.he_live.specs.Live.{Lives}
use Rattle.he_live.specs.declared.fault.LiveFault.{LiveFault}
use Rattle.he_live.specs.declared.recording.LiveReport.{LiveReport}
use Rattle.he_plan.specs.declared.transcript.Outcome3.{Outcome3}
use Rattle.he_plan.specs.declared.transcript.Outcome3.TheVariants as results
use Rattle.he_request.specs.declared.live.Live.{Live}
use Rattle.he_stream.specs.declared.stream.InputStream as inputs
use Rattle.he_stream.specs.declared.stream.OutputStream as outputs
use Rattle.he_tasks.specs.Streams.{Gave, GaveSoFar, TookAll, TookPart}
use Rattle.he_tasks.specs.declared.reports.TheConstants.{DONE, FAULT, NO_CONNECTION}
use Rattle.he_command.specs.Connection.{LacksPort}
use Rattle.he_command.specs.Files.{WasRead}

-- the status of a live race: NO_CONNECTION only if one was required
abbrev pub status_of_live : Bool → Result Outcome3 LiveFault → ℕ
status_of_live must (Err fault) = FAULT
status_of_live true (Ok (results.Exhausted tick)) = NO_CONNECTION
status_of_live true (Ok (results.Limit tick)) = NO_CONNECTION
status_of_live must (Ok result) = DONE

-- the race of an input was run, and the status reports how that ended
abbrev pub RunsRace : {I O : Type 0} → inputs.Ghosts I → outputs.Ghosts O → Live → I → I → O → O → ℕ → Type 0
RunsRace input output options first last before after status =
    (result : Result Outcome3 LiveFault) × (told : LiveReport)
    × Lives (Gave input first last) (GaveSoFar input first last) (TookAll output before after)
    (TookPart output before after) (after ≡ before) options.changes told result
    × (status ≡ status_of_live options.must_connect result)

-- that; or its record could not be written to the named file, before the race or after it
abbrev pub RunsRecorded : {I O : Type 0} → inputs.Ghosts I → outputs.Ghosts O → Live → I → I → O → O → ℕ → Type 0
RunsRecorded input output options first last before after status =
    ((one : ℕ) × RunsRace input output options first last before after one
    × ((status ≡ one) ⊎ (IsSome options.record × (status ≡ FAULT))))
    ⊎ (IsSome options.record × (last ≡ first) × (after ≡ before) × (status ≡ FAULT))

-- the race of an opened file; or the file could not be opened
abbrev pub RunsFile : {F O : Type 0} → inputs.Ghosts F → outputs.Ghosts O → Live → O → O → ℕ → Type 0
RunsFile {F} file output options before after status =
    ((opened closed : F) × RunsRecorded file output options opened closed before after status)
    ⊎ ((after ≡ before) × (status ≡ FAULT))

-- the race of the named file; of the input if there is no name or it is `-`
abbrev pub RunsNamed : {I F O : Type 0} → inputs.Ghosts I → inputs.Ghosts F → outputs.Ghosts O → Live
    → Option (Bor (List ℕ)) → I → I → O → O → ℕ → Type 0
RunsNamed input file output options None first last before after status =
    RunsRecorded input output options first last before after status
RunsNamed input file output options (Some name) first last before after status =
    ((name.now ≡ codes "-") × RunsRecorded input output options first last before after status)
    ⊎ ((name.now ≢ codes "-") × (last ≡ first) × RunsFile file output options before after status)

-- that; or it has no port, and nothing was read
abbrev pub RunsLive : {I F O : Type 0} → inputs.Ghosts I → inputs.Ghosts F → outputs.Ghosts O → Live → I → I → O → O
    → ℕ → Type 0
RunsLive input file output options first last before after status =
    RunsNamed input file output options options.file first last before after status
    ⊎ (LacksPort (WasRead file) options.port status × (last ≡ first) × (after ≡ before))

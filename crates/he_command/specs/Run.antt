-- The effects of a run of the program: by the relations of its streams, the input's first and last state, the
-- output's states before and after, and the exit status.
use Rattle.std.specs.Prelude.{◌≡◌, ℕ, Bool, List, Result, Ok, Err}
use Rattle.std.specs.Borrow.{Bor}
use Rattle.he_names.specs.declared.environment.Environment.{Environment}
use Rattle.he_options.specs.declared.refusal.Refusal.{Refusal}
use Rattle.he_options.specs.declared.refusal.Refusal.TheVariants as refusals
use Rattle.he_request.specs.declared.request.Request.{Request}
use Rattle.he_request.specs.declared.request.Request.TheVariants as requests
use Rattle.he_stream.specs.declared.stream.InputStream as inputs
use Rattle.he_stream.specs.declared.stream.OutputStream as outputs
use Rattle.he_tasks.specs.Streams.{Shows}
use Rattle.he_tasks.specs.Whole.{DoesNamed}
use Rattle.he_tasks.specs.declared.reports.TheConstants.{FAULT, USAGE}
use Rattle.he_command.specs.Checks.{DoesConnection, is_check, refused_status}
use Rattle.he_command.specs.Live.{RunsLive}
use Rattle.he_command.specs.Machines.{RunsHost}
use Rattle.he_command.specs.Names.{RunsNames}
use Rattle.he_command.specs.Probes.{RunsProbe}
use Rattle.he_command.specs.Proxies.{status_of_proxy}

-- the effects of a line without a command to run, which may be that of a check
abbrev pub Refuses : {O : Type 0} → outputs.Ghosts O → Bool → Refusal → O → O → ℕ → Type 0
Refuses output checks refusals.Memory before after status =
    (status ≡ refused_status checks FAULT) × (after ≡ before)
Refuses output checks (refusals.Help text) before after status = Shows output before after status
Refuses output checks refusal before after status = (status ≡ refused_status checks USAGE) × (after ≡ before)

-- The effects of a line of these words: its request was done, and the status reports how that ended; or there is no
-- request, and nothing is read. file, page: the relations of files that are read, and of one that is written.
-- environment: its changes of resolv.conf.
abbrev pub RunsLine : {I F P O : Type 0} → inputs.Ghosts I → inputs.Ghosts F → outputs.Ghosts P → outputs.Ghosts O
    → Environment → List (Bor (List ℕ)) → Result Request Refusal → I → I → O → O → ℕ → Type 0
RunsLine input file page output environment words (Ok (requests.Texts texts)) first last before after status =
    DoesNamed input file page output texts first last before after status
RunsLine input file page output environment words (Ok (requests.Live options)) first last before after status =
    RunsLive input file output options first last before after status
RunsLine input file page output environment words (Ok (requests.Host options)) first last before after status =
    (last ≡ first) × RunsHost output options before after status
RunsLine input file page output environment words (Ok (requests.Proxy proxy)) first last before after status =
    (last ≡ first) × (after ≡ before) × (status ≡ status_of_proxy proxy)
RunsLine input file page output environment words (Ok (requests.Probe probe)) first last before after status =
    (last ≡ first) × RunsProbe file output environment probe before after status
RunsLine input file page output environment words (Ok (requests.Names options)) first last before after status =
    (last ≡ first) × RunsNames page output options before after status
RunsLine input file page output environment words (Ok (requests.Connect connection)) first last before after status =
    DoesConnection file page output environment connection connection.checks before after status
RunsLine input file page output environment words (Err refusal) first last before after status =
    (last ≡ first) × Refuses output (is_check words) refusal before after status

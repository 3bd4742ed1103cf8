-- The effects of `he probe`.
use Rattle.std.specs.Prelude.{◌≡◌, ◌≤◌, ◌⊎◌, ⊤, ℕ, List, [], ◌∷◌, Bool, true, false, not, if◌then◌else◌, count_by, length, nat_eq, Option, Some, None}
use Rattle.he_addr.specs.declared.ip.Family.TheVariants as families
use Rattle.he_setup.specs.Recorded.{fault_of}
use Rattle.he_names.specs.declared.environment.Environment.{Environment}
use Rattle.he_options.specs.Shown.{shown}
use Rattle.he_probing.specs.Json.{object_text}
use Rattle.he_probing.specs.Rounds.{IsRound}
use Rattle.he_probing.specs.Rows.{has_connected}
use Rattle.he_probing.specs.Texts.{heading_text, verdict_line}
use Rattle.he_probing.specs.declared.request.RoundRequest.{RoundRequest}
use Rattle.he_probing.specs.declared.round.Round.{Round}
use Rattle.he_probing.specs.declared.rows.AddressRow.{AddressRow}
use Rattle.he_record.specs.declared.moment.Moment.{Moment}
use Rattle.he_request.specs.declared.probe.Probe.{Probe}
use Rattle.he_request.specs.declared.probe.ProbeForm.{ProbeForm}
use Rattle.he_request.specs.declared.probe.ProbeForm.TheVariants as forms
use Rattle.he_settings.specs.declared.fault.NamesFault.{NamesFault}
use Rattle.he_settings.specs.declared.fault.NamesFault.TheVariants as names
use Rattle.he_stream.specs.declared.stream.InputStream as inputs
use Rattle.he_stream.specs.declared.stream.OutputStream as outputs
use Rattle.he_tasks.specs.Streams.{Shows, TookAll, TookPart}
use Rattle.he_tasks.specs.declared.reports.TheConstants.{DONE, FAULT, NO_CONNECTION}
use Rattle.he_command.specs.Connection.{HasPort, LacksPort, choice_of, families_of, lines_of}
use Rattle.he_command.specs.Files.{WasRead}
use Rattle.he_command.specs.declared.probe.TheConstants.{NO_END, SOME_FAIL}

-- a round of the request, at the port of this number
abbrev pub request_of : Probe → ℕ → Environment → RoundRequest
request_of probe port environment = record {
  connect = record {
    host = probe.host;
    port = port;
    families = families_of probe.only;
    settings = probe.settings;
    lines = lines_of probe.lines;
    resolver = choice_of probe.resolver;
    environment = environment;
    explains = false;
    tells_steps = probe.tells_steps;
  };
  pace = probe.pace;
  timeout = probe.timeout;
}

-- ---- the status

-- that a name has no address of a family is an answer
abbrev pub is_answer : NamesFault → Bool
is_answer names.NoAddress = true
is_answer names.NoSuchName = true
is_answer names.NotAsked = true
is_answer fault = false

-- the status of the look-up of a family
abbrev pub family_status : Option NamesFault → ℕ
family_status None = DONE
family_status (Some fault) = if is_answer fault then DONE else FAULT

-- the status of a round with these rows, without a fault
abbrev pub status_of_rows : List AddressRow → ℕ
status_of_rows rows =
    if nat_eq (count_by has_connected rows) 0 then NO_CONNECTION
    else if nat_eq (count_by has_connected rows) (length rows) then DONE else SOME_FAIL

-- of two statuses the worse: a fault, then no connection, then some that fail
abbrev pub worse : ℕ → ℕ → ℕ
worse one other =
    if nat_eq one FAULT then one
    else if nat_eq other FAULT then other
    else if nat_eq one NO_CONNECTION then one
    else if nat_eq other NO_CONNECTION then other
    else if nat_eq one DONE then other else one

-- the status of a round: a fault if a look-up failed, otherwise that of its rows
abbrev pub status_by : Option NamesFault → Round → ℕ
status_by (Some fault) round = FAULT
status_by None round =
    worse (worse (family_status (fault_of round.why families.V6)) (family_status (fault_of round.why families.V4)))
    (status_of_rows round.rows.items)

abbrev pub status_of_round : Round → ℕ
status_of_round round = status_by round.nameless round

-- the worst of a status and those of rounds
abbrev pub worst : ℕ → List Round → ℕ
worst status [] = status
worst status (round ∷ rounds) = worst (worse status (status_of_round round)) rounds

-- ---- the texts

-- the time in a heading: there is one only if there are several rounds
abbrev pub time_of : Option ℕ → Option Moment → Option Moment
time_of None at = at
time_of (Some rounds) at = if nat_eq rounds 1 then None else at

-- the time, the host as a terminal may show it, and the port
abbrev pub heading_of : Probe → RoundRequest → Round → List ℕ
heading_of probe request round =
    heading_text (shown request.connect.host.now) request.connect.port (time_of probe.rounds round.at)

-- the text of a round in this form; the contracts say nothing of the text of a table and of metrics
abbrev pub IsTextIn : ProbeForm → Probe → RoundRequest → Round → List ℕ → Type 0
IsTextIn forms.Table probe request round text = ⊤
IsTextIn forms.Verdict probe request round text = text ≡ verdict_line (heading_of probe request round) round
IsTextIn forms.Json probe request round text = text ≡ object_text request round
IsTextIn forms.Metrics probe request round text = ⊤
IsTextIn forms.Record probe request round text = text ≡ round.text.items

abbrev pub IsRoundText : Probe → RoundRequest → Round → List ℕ → Type 0
IsRoundText probe request round text = IsTextIn probe.form probe request round text

-- the requested round was run, and this is its text
abbrev pub IsShown : Probe → RoundRequest → Round → List ℕ → Type 0
IsShown probe request round text = IsRound request round × IsRoundText probe request round text

-- the output took the texts of these rounds, one after the other
abbrev pub TookRounds : {O : Type 0} → outputs.Ghosts O → Probe → RoundRequest → List Round → O → O → Type 0
TookRounds output probe request [] before after = after ≡ before
TookRounds {O} output probe request (round ∷ rounds) before after =
    (text : List ℕ) × (between : O) × IsShown probe request round text × TookAll output before between text
    × TookRounds output probe request rounds between after

-- ---- the end

-- the number of rounds; without one they have no end
abbrev pub most_rounds : Option ℕ → ℕ
most_rounds None = NO_END
most_rounds (Some rounds) = rounds

-- whether a table by address follows the rounds; rounds without an end have none
abbrev pub has_closing : ProbeForm → Option ℕ → Bool
has_closing forms.Table (Some rounds) = not (nat_eq rounds 1)
has_closing form rounds = false

-- after the last round the table by address is written, if there is one; then the status is that of the rounds, or a
-- fault of this table
abbrev pub Closes : {O : Type 0} → outputs.Ghosts O → Bool → ℕ → O → O → ℕ → Type 0
Closes output false worst before after status = (status ≡ worst) × (after ≡ before)
Closes output true worst before after status =
    (put : ℕ) × Shows output before after put × (status ≡ worse put worst)

-- a fault ended the rounds: no text of a later round was written, or a first part of it
abbrev pub BreaksOff : {O : Type 0} → outputs.Ghosts O → Probe → RoundRequest → O → O → ℕ → Type 0
BreaksOff output probe request before after status =
    (status ≡ FAULT)
    × ((after ≡ before)
    ⊎ ((round : Round) × (text : List ℕ) × IsShown probe request round text × TookPart output before after text))

-- all requested rounds were done, or a fault ended them
abbrev pub EndsRounds : {O : Type 0} → outputs.Ghosts O → Probe → RoundRequest → List Round → O → O → ℕ → Type 0
EndsRounds output probe request rounds before after status =
    ((length rounds ≡ most_rounds probe.rounds)
    × Closes output (has_closing probe.form probe.rounds) (worst DONE rounds) before after status)
    ⊎ BreaksOff output probe request before after status

-- rounds were run for the request, no more than requested, and each has its text in the output
pub record RunsRounds {O : Type 0} (output : outputs.Ghosts O) (probe : Probe) (request : RoundRequest)
    (before after : O) (status : ℕ) : Type 0 where
  pub rounds : List Round
  pub few : length rounds ≤ most_rounds probe.rounds
  pub between : O
  pub took : TookRounds output probe request rounds before between
  pub ended : EndsRounds output probe request rounds between after status

-- the effects of probes, by a resolver configuration with this environment's changes: there is no port, or no place
-- for the record, and nothing is written; or rounds were run
abbrev pub RunsProbe : {F O : Type 0} → inputs.Ghosts F → outputs.Ghosts O → Environment → Probe → O → O → ℕ → Type 0
RunsProbe file output environment probe before after status =
    ((LacksPort (WasRead file) probe.port status ⊎ (status ≡ FAULT)) × (after ≡ before))
    ⊎ ((port : ℕ) × HasPort (WasRead file) probe.port port
    × RunsRounds output probe (request_of probe port environment) before after status)

-- The effects of `he connect`.
use Rattle.std.specs.Prelude.{◌≡◌, ◌≢◌, ◌⊎◌, ℕ, List, Bool, true, false, Option, Some, None, is_some, Result}
use Rattle.std.specs.Borrow.{Bor}
use Rattle.he_addr.specs.declared.ip.Family.{Family}
use Rattle.he_connect.specs.Races.{IsRun}
use Rattle.he_setup.specs.declared.request.ConnectRequest.{ConnectRequest}
use Rattle.he_setup.specs.declared.request.Families.{Families}
use Rattle.he_setup.specs.declared.request.Families.TheVariants as families
use Rattle.he_setup.specs.declared.request.Lines.{Lines}
use Rattle.he_setup.specs.declared.request.Lines.TheVariants as lines
use Rattle.he_live.specs.declared.dialed.Dialed.{Dialed}
use Rattle.he_names.specs.Ports.{IsNoPort, MeansPort}
use Rattle.he_names.specs.declared.environment.Environment.{Environment}
use Rattle.he_names.specs.declared.ports.PortFault.TheVariants.{Unknown}
use Rattle.he_relay.specs.Relays.{Relays}
use Rattle.he_relay.specs.declared.fault.RelayFault.{RelayFault}
use Rattle.he_request.specs.declared.connect.Connection.{Connection}
use Rattle.he_options.specs.declared.port.Port.{Port}
use Rattle.he_options.specs.declared.port.Port.TheVariants as ports
use Rattle.he_options.specs.declared.resolver.Resolver.{Resolver}
use Rattle.he_options.specs.declared.resolver.Resolver.TheVariants as resolvers
use Rattle.he_settings.specs.declared.choice.Choice.{Choice}
use Rattle.he_settings.specs.declared.choice.Choice.TheVariants as choices
use Rattle.he_stream.specs.declared.stream.InputStream as inputs
use Rattle.he_stream.specs.declared.stream.OutputStream as outputs
use Rattle.he_tasks.specs.Status.{status_of}
use Rattle.he_tasks.specs.Streams.{TookRounds, TookRoundsPart}
use Rattle.he_tasks.specs.declared.reports.TheConstants.{DONE, FAULT, NO_CONNECTION, USAGE}
use Rattle.he_command.specs.Files.{WasRead, WasWritten}
use Rattle.he_command.specs.Objects.{ShowsRace}
use Rattle.he_command.specs.Records.{KeepsRecord}

-- the number of a port; for a service, by the services file, which was read
abbrev pub HasPort : (List ℕ → Type 0) → Port → ℕ → Type 0
HasPort IsRead (ports.Number own) number = number ≡ own
HasPort IsRead (ports.Service name) number =
    (services : List ℕ) × IsRead services × MeansPort services name.now number

-- the status if there is no port: USAGE if the services file, which was read, doesn't have the service; otherwise
-- FAULT for the file or memory
abbrev pub LacksPort : (List ℕ → Type 0) → Port → ℕ → Type 0
LacksPort IsRead (ports.Number own) status = ⊥
LacksPort IsRead (ports.Service name) status =
    ((status ≡ USAGE) × (services : List ℕ) × IsRead services × IsNoPort services name.now Unknown)
    ⊎ (status ≡ FAULT)

abbrev pub families_of : Option Family → Families
families_of None = families.Both
families_of (Some family) = families.Only family

abbrev pub lines_of : Option (Bor (List ℕ)) → Lines
lines_of None = lines.Machine
lines_of (Some path) = lines.File path

abbrev pub choice_of : Resolver → Choice
choice_of resolvers.Configured = choices.Configured
choice_of (resolvers.Server server) = choices.Server server
choice_of (resolvers.OnLink server) = choices.OnLink server
choice_of resolvers.System = choices.System

-- the requested race, at the port of this number, by a resolver configuration with this environment's changes
abbrev pub race_of : Connection → ℕ → Environment → ConnectRequest
race_of connection port environment =
    record {
      host = connection.host;
      port = port;
      families = families_of connection.only;
      settings = connection.settings;
      lines = lines_of connection.lines;
      resolver = choice_of connection.resolver;
      environment = environment;
      explains = connection.explains;
      tells_steps = connection.tells_steps;
    }

-- a connection was relayed, and the status reports how that ended
abbrev pub RelaysTo : {O : Type 0} → outputs.Ghosts O → O → O → ℕ → Type 0
RelaysTo output before after status =
    (result : Result (Unit {0}) RelayFault)
    × Relays (TookRounds output before after) (TookRoundsPart output before after) (after ≡ before) result
    × (status ≡ status_of result)

-- the end of a race: a connection is closed with `only_tries`, otherwise relayed; without one, the status is
-- NO_CONNECTION, or FAULT if there was no address
abbrev pub EndsWon : {O : Type 0} → outputs.Ghosts O → Bool → Bool → O → O → ℕ → Type 0
EndsWon output only_tries false before after status =
    ((status ≡ NO_CONNECTION) ⊎ (status ≡ FAULT)) × (after ≡ before)
EndsWon output true true before after status = (status ≡ DONE) × (after ≡ before)
EndsWon output false true before after status = RelaysTo output before after status

-- that, after the object of the race with this text; if the object cannot be shown, nothing is relayed
abbrev pub EndsShown : {O : Type 0} → outputs.Ghosts O → Bool → List ℕ → Bool → O → O → ℕ → Type 0
EndsShown {O} output only_tries text won before after status =
    (between : O) × (shown : ℕ) × ShowsRace output text before between shown
    × (((shown ≡ DONE) × EndsWon output only_tries won between after status)
    ⊎ ((shown ≢ DONE) × (status ≡ FAULT) × (after ≡ between)))

-- with JSON or without
abbrev pub EndsKept : {O : Type 0} → outputs.Ghosts O → Bool → Bool → List ℕ → Bool → O → O → ℕ → Type 0
EndsKept output true only_tries text won before after status =
    EndsShown output only_tries text won before after status
EndsKept output false only_tries text won before after status = EndsWon output only_tries won before after status

-- that, if its record was kept; otherwise nothing is relayed
abbrev pub EndsRace : {O : Type 0} → outputs.Ghosts O → Connection → List ℕ → ℕ → Bool → O → O → ℕ → Type 0
EndsRace output connection text kept won before after status =
    ((kept ≡ DONE) × EndsKept output connection.is_json connection.only_tries text won before after status)
    ⊎ ((kept ≢ DONE) × (status ≡ FAULT) × (after ≡ before))

-- the effects of a connection, by a resolver configuration with this environment's changes: there is no port, no
-- place for the record, or no race was run, and nothing is written; or a race was run for the request, its record is
-- kept, and then its connection is relayed
abbrev pub MakesConnection : {F P O : Type 0} → inputs.Ghosts F → outputs.Ghosts P → outputs.Ghosts O → Environment
    → Connection → O → O → ℕ → Type 0
MakesConnection {F} {P} {O} file page output environment connection before after status =
    ((LacksPort (WasRead file) connection.port status ⊎ (status ≡ FAULT)) × (after ≡ before))
    ⊎ ((port : ℕ) × (text story : List ℕ) × (won : Option Dialed) × (between : O)
    × (kept : ℕ) × HasPort (WasRead file) connection.port port
    × IsRun (race_of connection port environment) text story won
    × KeepsRecord (WasWritten page) output connection.record text before between kept
    × EndsRace output connection text kept (is_some won) between after status)

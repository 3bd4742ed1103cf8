-- The words of record lines for what a look-up heard, and the name servers that gave no answer.
use Rattle.std.specs.Prelude.{ℕ, ◌≡◌, ◌++◌, Bool, true, false, List, [], ◌∷◌, Option, Some, None, if◌then◌else◌}
use Rattle.std.specs.List.{list_any}
use Rattle.std.specs.Net.Socket.{socket_ip}
use Rattle.std.specs.declared.net.socket_addr.SocketAddr.{SocketAddr}
use Rattle.he_addr.specs.declared.ip.Ip.{Ip}
use Rattle.he_addr.specs.Ip.{same_ip}
use Rattle.he_addr.specs.Text.{ip_of}
use Rattle.he_asking.specs.declared.log.LookupEvent.{LookupEvent}
use Rattle.he_asking.specs.declared.log.LookupEventKind.{LookupEventKind}
use Rattle.he_asking.specs.declared.log.LookupEventKind.TheVariants as events
use Rattle.he_record.specs.declared.reasons.LookupReason.{LookupReason}
use Rattle.he_record.specs.declared.reasons.LookupReason.TheVariants as lookups
use Rattle.he_record.specs.declared.reasons.ServerReason.{ServerReason}
use Rattle.he_record.specs.declared.reasons.ServerReason.TheVariants as servers
use Rattle.he_recording.specs.declared.facts.ServerFailure.{ServerFailure}
use Rattle.he_settings.specs.declared.failure.Failure.{Failure}
use Rattle.he_settings.specs.declared.failure.Failure.TheVariants as failures
use Rattle.he_settings.specs.declared.fault.NamesFault.{NamesFault}
use Rattle.he_settings.specs.declared.fault.NamesFault.TheVariants as faults

-- ---- words

abbrev pub lookup_reason_of_failure : Failure → LookupReason
lookup_reason_of_failure failures.Refused = lookups.Refused
lookup_reason_of_failure failures.Malformed = lookups.Malformed
lookup_reason_of_failure failures.Aliases = lookups.Malformed
lookup_reason_of_failure failures.Unreachable = lookups.NoAnswer
lookup_reason_of_failure failure = lookups.Failed

-- why a family has no address; no word for a fault of this machine
abbrev pub lookup_reason : NamesFault → Option LookupReason
lookup_reason faults.NoSuchName = Some lookups.NoSuchName
lookup_reason faults.NoAddress = Some lookups.NoAddress
lookup_reason faults.NoAnswer = Some lookups.NoAnswer
lookup_reason (faults.Server fault) = Some (lookup_reason_of_failure fault.failure)
lookup_reason faults.NotAsked = Some lookups.NotAsked
lookup_reason faults.System = Some lookups.Failed
lookup_reason fault = None

abbrev pub server_reason : Failure → ServerReason
server_reason failures.Refused = servers.Refused
server_reason failures.Unreachable = servers.Unreachable
server_reason failure = servers.Failed

-- ---- name servers

abbrev pub server_failure : SocketAddr → ServerReason → ℕ → ServerFailure
server_failure server reason tick = record { ip = ip_of (socket_ip server); reason = reason; ticks = tick }

-- the server failed, or did not answer in all its time
abbrev pub last_at : ℕ → LookupEventKind → Option ServerFailure
last_at tick (events.Silent server) = Some (server_failure server servers.Silent tick)
last_at tick (events.Failed fault) = Some (server_failure fault.server (server_reason fault.failure) tick)
last_at tick kind = None

abbrev pub last_failure : LookupEvent → Option ServerFailure
last_failure event = last_at event.tick event.kind

-- an answer of the server at this address
abbrev pub answers_from : LookupEventKind → Ip → Bool
answers_from (events.Addresses count server) ip = same_ip (ip_of (socket_ip server)) ip
answers_from (events.NoAddress server) ip = same_ip (ip_of (socket_ip server)) ip
answers_from (events.NoSuchName server) ip = same_ip (ip_of (socket_ip server)) ip
answers_from kind ip = false

abbrev pub is_answer_of : LookupEvent → Ip → Bool
is_answer_of event ip = answers_from event.kind ip

abbrev pub has_answered : List LookupEvent → Ip → Bool
has_answered all ip = list_any (λ event. is_answer_of event ip) all

-- the server had not answered when the next one was asked, and did not answer later
abbrev pub slow_at : List LookupEvent → ℕ → LookupEventKind → Option ServerFailure
slow_at all tick (events.Slow server next) =
    if has_answered all (ip_of (socket_ip server)) then None else Some (server_failure server servers.Silent tick)
slow_at all tick kind = None

abbrev pub slow_failure : List LookupEvent → LookupEvent → Option ServerFailure
slow_failure all event = slow_at all event.tick event.kind

-- the server, unless it is there
abbrev pub and_server : List ServerFailure → ServerFailure → List ServerFailure
and_server before failure =
    if list_any (λ other. same_ip other.ip failure.ip) before then before else before ++ failure ∷ []

abbrev pub all_noted : List ServerFailure → Option ServerFailure → List ServerFailure
all_noted before None = before
all_noted before (Some failure) = and_server before failure

-- the servers of the events, each at its first event
abbrev pub noted_all : (LookupEvent → Option ServerFailure) → List ServerFailure → List LookupEvent
    → List ServerFailure
noted_all failure_in before [] = before
noted_all failure_in before (event ∷ more) = noted_all failure_in (all_noted before (failure_in event)) more

-- the name servers that gave no answer, each once: those that failed, and then those that were too slow
abbrev pub failed_servers : List LookupEvent → List ServerFailure
failed_servers all = noted_all (slow_failure all) (noted_all last_failure [] all) all

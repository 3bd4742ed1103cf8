-- The log event for a server's answer.
use Rattle.std.specs.Prelude.{Option, Some, None, Ok, Err, length, map}
use Rattle.std.specs.declared.net.socket_addr.SocketAddr.{SocketAddr}
use Rattle.he_addr.specs.declared.ip.Family.{Family}
use Rattle.he_names.specs.Answers.{cleaned}
use Rattle.he_asking.specs.Said.{Heard}
use Rattle.he_settings.specs.Meant.{meant_by}
use Rattle.he_settings.specs.declared.fault.NamesFault.{NamesFault}
use Rattle.he_settings.specs.declared.fault.NamesFault.TheVariants as faults
use Rattle.he_asking.specs.declared.log.LookupEventKind.{LookupEventKind}
use Rattle.he_asking.specs.declared.log.LookupEventKind.TheVariants as events

-- a fault of this machine has no event
abbrev pub event_of_fault : SocketAddr → NamesFault → Option LookupEventKind
event_of_fault server faults.NoAddress = Some (events.NoAddress server)
event_of_fault server faults.NoSuchName = Some (events.NoSuchName server)
event_of_fault server faults.NoAnswer = Some (events.Silent server)
event_of_fault server (faults.Server fault) = Some (events.Failed fault)
event_of_fault server fault = None

-- the event of addresses has their number: each counts once with unspecified ones replaced, at most 256
abbrev pub event_of : Family → SocketAddr → Heard → Option LookupEventKind
event_of family server (Ok answer) =
    Some (events.Addresses (length (cleaned family (map meant_by answer.addresses.items))) server)
event_of family server (Err fault) = event_of_fault server fault

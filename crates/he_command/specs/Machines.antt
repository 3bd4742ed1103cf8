-- The effects of `he host`.
use Rattle.std.specs.Prelude.{◌≡◌, ◌⊎◌, ℕ, Bool, true, false, List, []}
use Rattle.he_addr.specs.declared.ip.Ip.{Ip}
use Rattle.he_json.specs.Machine.{IsMachineJson}
use Rattle.he_kernel.specs.Ways.{IsMachineTo}
use Rattle.he_kernel.specs.Written.{host_lines}
use Rattle.he_request.specs.declared.host.Host.{Host}
use Rattle.he_select.specs.Hosts.{HostLists}
use Rattle.he_stream.specs.declared.stream.OutputStream as outputs
use Rattle.he_tasks.specs.declared.reports.TheConstants.{FAULT}
use Rattle.he_command.specs.Objects.{ShowsSuch}

-- the machine is that for the destinations by the kernel's answers, if there are any
abbrev pub IsMachineFor : List Ip → HostLists → Type 0
IsMachineFor destinations machine = (destinations ≡ []) ⊎ IsMachineTo destinations machine

-- the object of the machine, or its lines
abbrev pub IsMachineText : Bool → HostLists → List ℕ → Type 0
IsMachineText true machine text = IsMachineJson machine.sources machine.routes text
IsMachineText false machine text = text ≡ host_lines machine

-- the addresses and routes of one machine are written, as an object or as lines; or nothing after a fault
abbrev pub RunsHost : {O : Type 0} → outputs.Ghosts O → Host → O → O → ℕ → Type 0
RunsHost output host before after status =
    ((machine : HostLists) × IsMachineFor host.destinations.items machine
    × ShowsSuch output (IsMachineText host.is_json machine) before after status)
    ⊎ ((status ≡ FAULT) × (after ≡ before))

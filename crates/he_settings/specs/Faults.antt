-- Which fault is reported where the families differ, and which faults concern one server only.
use Rattle.std.specs.Prelude.{◌≡◌, ◌⊎◌, ⊤, ℕ, Bool, true, false, nat_le, if◌then◌else◌}
use Rattle.he_names.specs.declared.target.HostFault.{HostFault}
use Rattle.he_names.specs.declared.target.HostFault.TheVariants as hosts
use Rattle.he_settings.specs.declared.failure.Failure.{Failure}
use Rattle.he_settings.specs.declared.failure.Failure.TheVariants as failures
use Rattle.he_settings.specs.declared.file_fault.SystemFile.{SystemFile}
use Rattle.he_settings.specs.declared.fault.NamesFault.{NamesFault}
use Rattle.he_settings.specs.declared.fault.NamesFault.TheVariants as faults

-- the fault of a text that is not a host
abbrev pub of_host : HostFault → NamesFault
of_host hosts.Memory = faults.Memory
of_host fault = faults.Host fault

-- the answers of a server that can't read an OPT record: FORMERR or NOTIMP (RFC 6891 section 7), or BADVERS (section
-- 6.1.3)
abbrev pub is_of_room : Failure → Bool
is_of_room failures.FormatError = true
is_of_room failures.NotImplemented = true
is_of_room failures.BadVersion = true
is_of_room failure = false

-- another server may have an answer
abbrev pub is_of_server : NamesFault → Bool
is_of_server faults.NoAnswer = true
is_of_server (faults.Server fault) = true
is_of_server fault = false

-- a name server answered that there is no such name or no address
abbrev pub is_absence : NamesFault → Bool
is_absence faults.NoSuchName = true
is_absence faults.NoAddress = true
is_absence fault = false

-- the fault concerns the host, not this machine
abbrev pub is_of_host : NamesFault → Bool
is_of_host (faults.Unreadable file) = false
is_of_host faults.Interface = false
is_of_host faults.Files = false
is_of_host faults.Runtime = false
is_of_host faults.Memory = false
is_of_host fault = true

-- a fault after which a server isn't asked again in another way: of this machine, or of the server
abbrev pub IsOfAsking : NamesFault → Type 0
IsOfAsking fault = (is_of_host fault ≡ false) ⊎ (is_of_server fault ≡ true)

-- the fault of reading this file: of the machine, or one that names the file
abbrev pub IsOfFile : SystemFile → NamesFault → Type 0
IsOfFile file (faults.Unreadable fault) = fault.file ≡ file
IsOfFile file faults.Files = ⊤
IsOfFile file faults.Memory = ⊤
IsOfFile file fault = ⊥

-- The order in which faults are reported: first those of the machine, then those of both families, then that no
-- server answered, then that one failed, and last a server's answer for one family.
abbrev pub rank_of : NamesFault → ℕ
rank_of faults.Memory = 0
rank_of (faults.Unreadable file) = 1
rank_of faults.Interface = 1
rank_of faults.Files = 1
rank_of faults.Runtime = 1
rank_of (faults.Host fault) = 2
rank_of (faults.Name fault) = 2
rank_of faults.System = 2
rank_of faults.NoAnswer = 3
rank_of (faults.Server fault) = 4
rank_of faults.NoSuchName = 5
rank_of faults.NoAddress = 6
rank_of faults.NotAsked = 7

-- the fault that comes first in that order
abbrev pub first_of : NamesFault → NamesFault → NamesFault
first_of v6 v4 = if nat_le (rank_of v6) (rank_of v4) then v6 else v4

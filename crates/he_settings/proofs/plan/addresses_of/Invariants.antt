use Rattle.std.proofs.Common.{◌++◌, List, drop, map}
use Rattle.std.specs.declared.net.socket_addr.SocketAddr.{SocketAddr}
use Rattle.he_names.specs.Literals.{zoned_of}
use Rattle.he_settings.specs.Plans.{IsAbsent, IsServer, StandFor}
use Rattle.he_settings.proofs.plan.addresses_of.Given as goal

-- the addresses found so far, with what stands for the servers from here, stand for all
abbrev pub invariant-loop-server : goal.invariant-loop-server
invariant-loop-server g l = (later : List SocketAddr) → StandFor IsServer IsAbsent (map zoned_of (drop l.server-index l.servers)) later
    → StandFor IsServer IsAbsent (map zoned_of l.servers) (l.addresses.items ++ later)

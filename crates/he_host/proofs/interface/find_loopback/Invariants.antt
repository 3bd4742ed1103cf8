use Rattle.std.proofs.Common.{◌≡◌, drop}
use Rattle.he_host.specs.Interfaces.{loopback_of}
use Rattle.he_host.proofs.interface.find_loopback.Given as goal

abbrev pub invariant-loop-interface : goal.invariant-loop-interface
invariant-loop-interface l = loopback_of (drop l.interface-index l.interfaces) ≡ loopback_of l.interfaces

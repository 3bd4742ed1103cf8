use Rattle.std.proofs.Common.{◌≡◌, drop}
use Rattle.he_host.specs.Interfaces.{link_of}
use Rattle.he_host.proofs.interface.find_link.Given as goal

abbrev pub invariant-loop-interface : goal.invariant-loop-interface
invariant-loop-interface l = link_of l.name (drop l.interface-index l.interfaces) ≡ link_of l.name l.interfaces

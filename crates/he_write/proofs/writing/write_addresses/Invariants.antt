use Rattle.std.proofs.Common.{◌≡◌, ◌++◌, map, take}
use Rattle.he_addr.specs.Printing.{printed}
use Rattle.he_write.specs.Writing.{spaced}
use Rattle.he_write.proofs.writing.write_addresses.Given as goal

abbrev pub invariant-loop-ip : goal.invariant-loop-ip
invariant-loop-ip g l = l.out.items ≡ l.fn.out.items ++ spaced (map printed (take l.ip-index l.ips))

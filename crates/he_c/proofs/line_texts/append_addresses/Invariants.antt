use Rattle.std.proofs.Common.{◌≡◌, ◌++◌, map, take}
use Rattle.he_addr.specs.Printing.{printed}
use Rattle.he_write.specs.Writing.{spaced}
use Rattle.he_c.proofs.line_texts.append_addresses.Given as goal

abbrev pub invariant-loop-ip : goal.invariant-loop-ip
invariant-loop-ip l = l.line.items ≡ l.fn.line.items ++ spaced (map printed (take l.ip-index l.ips))

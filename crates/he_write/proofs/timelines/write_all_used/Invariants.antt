use Rattle.std.proofs.Common.{◌≡◌, ◌++◌, take}
use Rattle.std.specs.List.{flat_map}
use Rattle.he_write.specs.Written.{used_text}
use Rattle.he_write.proofs.timelines.write_all_used.Given as goal

abbrev pub invariant-loop-ip : goal.invariant-loop-ip
invariant-loop-ip g l = l.out.items ≡ l.fn.out.items ++ flat_map used_text (take l.ip-index l.ips)

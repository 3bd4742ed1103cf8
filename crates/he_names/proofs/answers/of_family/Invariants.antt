use Rattle.std.proofs.Common.{◌≡◌, ◌++◌, drop, filter}
use Rattle.he_addr.specs.Ip.{is_of}
use Rattle.he_names.proofs.answers.of_family.Given as goal

-- the addresses kept so far and those of the others that are of the family are all
abbrev pub invariant-loop-ip : goal.invariant-loop-ip
invariant-loop-ip g l = l.own.items ++ filter (is_of l.family) (drop l.ip-index l.ips) ≡ filter (is_of l.family) l.ips

use Rattle.std.proofs.Common.{◌≡◌, drop, map}
use Rattle.std.specs.List.{list_any}
use Rattle.he_addr.specs.Ip.{same_ip}
use Rattle.he_kernel.specs.Ways.{ip_of}
use Rattle.he_kernel.proofs.taken.is_taken_already.Given as goal

abbrev pub invariant-loop-one : goal.invariant-loop-one
invariant-loop-one l =
    list_any (λ other. same_ip other l.ip) (map ip_of (drop l.one-index l.taken)) ≡ list_any (λ other. same_ip other l.ip) (map ip_of l.taken)

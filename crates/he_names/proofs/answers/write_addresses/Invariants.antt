use Rattle.std.proofs.Common.{◌≡◌, ◌++◌, ◌∷◌, take}
use Rattle.std.specs.List.{flat_map}
use Rattle.he_addr.specs.Printing.{printed}
use Rattle.he_names.proofs.answers.write_addresses.Given as goal

abbrev pub invariant-loop-ip : goal.invariant-loop-ip
invariant-loop-ip g l = l.out.items ≡ l.initial.out.items ++ flat_map (λ ip. 32 ∷ printed ip) (take l.ip-index l.ips)

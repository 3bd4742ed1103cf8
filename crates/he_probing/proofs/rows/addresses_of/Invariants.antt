use Rattle.std.proofs.Common.{◌≡◌, map, take}
use Rattle.he_probing.specs.Rows.{preferred_ip}
use Rattle.he_probing.proofs.rows.addresses_of.Given as goal

abbrev pub invariant-loop-one : goal.invariant-loop-one
invariant-loop-one l = record { ips : l.ips.items ≡ map preferred_ip (take l.one-index l.preferred) }

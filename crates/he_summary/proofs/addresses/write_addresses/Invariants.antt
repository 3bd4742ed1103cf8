use Rattle.std.proofs.Common.{List, ℕ, drop}
use Rattle.he_totals.specs.Hosts.{hosts_in}
use Rattle.he_summary.specs.Written.{TellsAddresses}
use Rattle.he_summary.proofs.addresses.write_addresses.Given as goal

abbrev pub invariant-loop-tallied : goal.invariant-loop-tallied
invariant-loop-tallied g l =
    (new : List ℕ) → TellsAddresses (hosts_in l.hosts) (drop l.tallied-index l.tallies) l.text.items new → TellsAddresses (hosts_in l.hosts) l.tallies l.fn.text.items new

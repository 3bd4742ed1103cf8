use Rattle.std.proofs.Common.{◌≡◌, ◌++◌, codes, drop}
use Rattle.std.specs.List.{flat_map}
use Rattle.he_totals.specs.Hosts.{hosts_in}
use Rattle.he_summary.specs.Json.{tally_json}
use Rattle.he_summary.proofs.json.write_tallies.Given as goal

abbrev pub invariant-loop-tallied : goal.invariant-loop-tallied
invariant-loop-tallied g l =
    l.text.items ++ flat_map (λ tallied. codes "," ++ tally_json l.rows (hosts_in l.hosts) tallied) (drop l.tallied-index l.more)
    ≡ l.initial.text.items ++ flat_map (λ tallied. codes "," ++ tally_json l.rows (hosts_in l.hosts) tallied) l.more

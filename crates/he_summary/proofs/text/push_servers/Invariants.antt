use Rattle.std.proofs.Common.{◌≡◌, ◌++◌, drop}
use Rattle.std.specs.List.{flat_map}
use Rattle.he_print.specs.Parts.{fact_of}
use Rattle.he_summary.specs.Figures.{server_facts}
use Rattle.he_summary.proofs.text.push_servers.Given as goal

abbrev pub invariant-loop-tallied : goal.invariant-loop-tallied
invariant-loop-tallied g l =
    flat_map fact_of l.text.items ++ flat_map server_facts (drop l.tallied-index l.servers)
    ≡ flat_map fact_of l.fn.text.items ++ flat_map server_facts l.servers

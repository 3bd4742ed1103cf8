use Rattle.std.proofs.Common.{◌≡◌, ◌++◌, drop}
use Rattle.std.specs.List.{flat_map}
use Rattle.he_print.specs.Parts.{fact_of}
use Rattle.he_summary.specs.Figures.{counted_facts}
use Rattle.he_summary.proofs.text.push_counts.Given as goal

abbrev pub invariant-loop-kind : goal.invariant-loop-kind
invariant-loop-kind g l =
    flat_map fact_of l.text.items ++ flat_map (counted_facts l.kept) (drop l.kind-index l.kinds)
    ≡ flat_map fact_of l.fn.text.items ++ flat_map (counted_facts l.kept) l.kinds

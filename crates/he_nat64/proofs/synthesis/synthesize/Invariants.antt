use Rattle.std.proofs.Common.{◌≡◌, ◌++◌, drop}
use Rattle.std.specs.List.{filter_map, flat_map}
use Rattle.he_nat64.specs.Synthesis.{synthesized, synthesized_one}
use Rattle.he_nat64.proofs.synthesis.synthesize.Given as goal

abbrev pub invariant-loop-prefix : goal.invariant-loop-prefix
invariant-loop-prefix l =
    l.addresses.items ++ flat_map (λ prefix. filter_map (synthesized_one prefix) l.hosts) (drop l.prefix-index l.prefixes)
    ≡ synthesized l.prefixes l.hosts

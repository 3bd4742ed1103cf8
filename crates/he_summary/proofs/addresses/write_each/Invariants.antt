use Rattle.std.proofs.Common.{◌≡◌, ◌++◌, drop, map}
use Rattle.std.specs.List.{flat_map}
use Rattle.he_summary.specs.Written.{after_comma}
use Rattle.he_summary.proofs.addresses.write_each.Given as goal

abbrev pub invariant-loop-name : goal.invariant-loop-name
invariant-loop-name g l =
    l.text.items ++ flat_map after_comma (map (λ name. name.now) (drop l.name-index l.names))
    ≡ l.fn.text.items ++ flat_map after_comma (map (λ name. name.now) l.names)

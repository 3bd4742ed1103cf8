use Rattle.std.proofs.Common.{◌≡◌, ◌++◌, drop, None}
use Rattle.he_course.specs.Addresses.{preferred_after}
use Rattle.he_course.proofs.addresses.prefer.Given as goal

abbrev pub invariant-loop-attributes : goal.invariant-loop-attributes
invariant-loop-attributes g l =
    l.addresses.items ++ preferred_after l.routes l.earlier (drop l.attributes-index l.sorted)
    ≡ preferred_after l.routes None l.sorted

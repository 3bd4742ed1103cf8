use Rattle.std.proofs.Common.{◌≡◌, ◌++◌, drop}
use Rattle.std.specs.Prelude.{filter}
use Rattle.he_kernel.specs.Ways.{is_unsaid}
use Rattle.he_kernel.proofs.ways.find_unsaid.Given as goal

-- what was found so far, and what is to be told of the other ways, is all
abbrev pub invariant-loop-way : goal.invariant-loop-way
invariant-loop-way g l =
    l.unsaid.items ++ filter (is_unsaid l.policy l.host) (drop l.way-index l.ways) ≡ filter (is_unsaid l.policy l.host) l.ways

use Rattle.he_text.specs.InRange.{SourceInRange}
use Rattle.he_text.proofs.ranges.sources_range.Given as goal
use Rattle.std.specs.List.{AllWithin}

abbrev pub invariant-loop-source : goal.invariant-loop-source
invariant-loop-source l = AllWithin SourceInRange l.sources 0 l.source-index

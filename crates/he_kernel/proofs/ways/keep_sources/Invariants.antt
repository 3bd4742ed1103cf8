use Rattle.std.proofs.Common.{◌≡◌, [], drop, map}
use Rattle.he_kernel.specs.Keeping.{sources_kept}
use Rattle.he_kernel.specs.Ways.{source_taken}
use Rattle.he_kernel.proofs.ways.keep_sources.Given as goal

-- what is kept so far, and what comes of the other sources, is all
abbrev pub invariant-loop-taken : goal.invariant-loop-taken
invariant-loop-taken g l =
    sources_kept l.kept.items (map source_taken (drop l.taken-index l.own)) ≡ sources_kept [] (map source_taken l.own)

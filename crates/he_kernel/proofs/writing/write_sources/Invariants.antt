use Rattle.std.proofs.Common.{◌≡◌, ◌++◌, drop}
use Rattle.he_kernel.specs.Written.{written_sources}
use Rattle.he_kernel.proofs.writing.write_sources.Given as goal

abbrev pub invariant-loop-source : goal.invariant-loop-source
invariant-loop-source g l = l.out.items ++ written_sources (drop l.source-index l.sources) ≡ l.fn.out.items ++ written_sources l.sources

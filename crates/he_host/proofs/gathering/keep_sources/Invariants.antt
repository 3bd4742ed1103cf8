use Rattle.std.proofs.Common.{◌≡◌, ◌++◌, drop, map}
use Rattle.he_host.specs.Gathering.{source_read, sources_left}
use Rattle.he_kernel.specs.Keeping.{sources_kept}
use Rattle.he_host.proofs.gathering.keep_sources.Given as goal

-- what is kept and left out so far, and what comes of the other lines, is all
abbrev pub invariant-loop-line : goal.invariant-loop-line
invariant-loop-line g l = record {
  kept : sources_kept l.kept.items (map source_read (drop l.line-index l.found)) ≡ sources_kept l.fn.kept.items (map source_read l.found);
  told : l.left_out.items ++ sources_left l.kept.items (drop l.line-index l.found) ≡ l.fn.left_out.items ++ sources_left l.fn.kept.items l.found;
}

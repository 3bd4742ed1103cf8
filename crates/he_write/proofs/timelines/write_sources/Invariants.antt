use Rattle.std.proofs.Common.{◌≡◌, ◌++◌, take}
use Rattle.std.specs.List.{flat_map}
use Rattle.he_write.specs.Written.{host_source_text}
use Rattle.he_write.proofs.timelines.write_sources.Given as goal

abbrev pub invariant-loop-source : goal.invariant-loop-source
invariant-loop-source g l = l.out.items ≡ l.fn.out.items ++ flat_map host_source_text (take l.source-index l.sources)

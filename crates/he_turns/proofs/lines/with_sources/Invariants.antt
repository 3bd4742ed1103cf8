use Rattle.std.proofs.Common.{◌≡◌, take}
use Rattle.he_turns.specs.Heard.{with_sources}
use Rattle.he_turns.proofs.lines.with_sources.Given as goal

abbrev pub invariant-loop-source : goal.invariant-loop-source
invariant-loop-source l = l.all.items ≡ with_sources l.family l.has (take l.source-index l.told)

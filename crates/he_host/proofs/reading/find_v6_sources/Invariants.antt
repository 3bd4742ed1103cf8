use Rattle.std.proofs.Common.{◌≡◌, ◌++◌, drop, map}
use Rattle.he_host.specs.Found.{found_v6_source}
use Rattle.he_kernel.specs.Lines.{plain}
use Rattle.he_host.proofs.reading.find_v6_sources.Given as goal

-- what was found so far, and what the other lines say, is all
abbrev pub invariant-loop-line : goal.invariant-loop-line
invariant-loop-line g l = l.found.items ++ map (found_v6_source l.interfaces) (map plain (drop l.line-index l.lines)) ≡ map (found_v6_source l.interfaces) (map plain l.lines)

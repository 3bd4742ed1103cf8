use Rattle.std.proofs.Common.{◌≡◌, ◌++◌, drop, map}
use Rattle.he_host.specs.Found.{found_v4_route}
use Rattle.he_kernel.specs.Lines.{plain}
use Rattle.he_host.proofs.reading.find_v4_routes.Given as goal

-- what was found so far, and what the other lines say, is all
abbrev pub invariant-loop-line : goal.invariant-loop-line
invariant-loop-line g l = l.found.items ++ map (found_v4_route l.interfaces) (map plain (drop l.line-index l.lines)) ≡ l.fn.found.items ++ map (found_v4_route l.interfaces) (map plain l.lines)

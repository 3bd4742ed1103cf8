use Rattle.std.proofs.Common.{◌≡◌, ◌++◌, drop, map}
use Rattle.he_host.specs.FibTrie.{nowhere, own_from}
use Rattle.he_kernel.specs.Lines.{plain}
use Rattle.he_host.proofs.fib_trie.read_own_addresses.Given as goal

-- the addresses found so far and those that the other lines tell from here are all
abbrev pub invariant-loop-line : goal.invariant-loop-line
invariant-loop-line g l = l.found.items ++ own_from l.walk (map plain (drop l.line-index l.lines)) ≡ own_from nowhere (map plain l.lines)

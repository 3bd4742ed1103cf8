use Rattle.he_addr.proofs.SideTexts.{IsBegun}
use Rattle.he_addr.proofs.groups.groups.Given as goal

abbrev pub invariant-loop-count : goal.invariant-loop-count
invariant-loop-count l = IsBegun l.text l.rest l.number l.count

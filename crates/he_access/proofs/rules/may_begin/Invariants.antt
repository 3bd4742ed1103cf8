use Rattle.std.proofs.Common.{take}
use Rattle.std.specs.List.{All}
use Rattle.he_access.specs.Rules.{MayFit}
use Rattle.he_access.proofs.rules.may_begin.Given as goal

abbrev pub invariant-loop-rule : goal.invariant-loop-rule
invariant-loop-rule l = All (λ rule. MayFit rule l.host l.port → ⊥) (take l.rule-index l.rules)

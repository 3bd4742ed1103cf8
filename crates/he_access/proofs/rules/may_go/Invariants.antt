use Rattle.std.proofs.Common.{take}
use Rattle.std.specs.List.{All}
use Rattle.he_access.specs.Rules.{Fits}
use Rattle.he_access.proofs.rules.may_go.Given as goal

abbrev pub invariant-loop-rule : goal.invariant-loop-rule
invariant-loop-rule l = All (λ rule. Fits rule l.host l.to l.embedded → ⊥) (take l.rule-index l.rules)

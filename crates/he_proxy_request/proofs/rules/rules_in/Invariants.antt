use Rattle.std.proofs.Common.{take}
use Rattle.std.specs.List.{AllZip}
use Rattle.he_proxy_request.specs.Rules.{IsRuleOf}
use Rattle.he_proxy_request.proofs.rules.rules_in.Given as goal

abbrev pub invariant-loop-word : goal.invariant-loop-word
invariant-loop-word l = AllZip IsRuleOf (take l.word-index l.words) l.rules.items

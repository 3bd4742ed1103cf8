use Rattle.std.proofs.Common.{◌≡◌, true, refl}
use Rattle.std.proofs.lemmas.List.Elements.{All-more}
use Rattle.he_access.specs.Rules.{MayFit}
use Rattle.he_access.specs.declared.rules.Rule.{Rule}
use Rattle.he_access.proofs.Ruled.{refused_whole, settled_at, settled_by_none}
use Rattle.he_access.proofs.rules.may_begin.Goals as goal

pub returns-then-may_fit-clause-settled : goal.returns-then-may_fit-clause-settled
returns-then-may_fit-clause-settled c =
    settled_at (λ (rule : Rule). MayFit rule c.args.host.now c.args.port) c.args.rules.now c.loop-rule.rule-index
    _ c.loop-rule-test.true c.loop-rule.invariant (c.may_fit.ensures.0 c.if-may_fit.true)

pub returns-then-may_fit-clause-refused : goal.returns-then-may_fit-clause-refused
returns-then-may_fit-clause-refused c = λ refused to embedded same.
    refused_whole c.args.host.now c.args.port to embedded same c.args.rules.now _
    (settled_at (λ (rule : Rule). MayFit rule c.args.host.now c.args.port) c.args.rules.now c.loop-rule.rule-index
    _ c.loop-rule-test.true c.loop-rule.invariant (c.may_fit.ensures.0 c.if-may_fit.true)) refused

pub loop-rule-preserved : goal.loop-rule-preserved
loop-rule-preserved c =
    All-more (λ (rule : Rule). MayFit rule c.args.host.now c.args.port → ⊥) c.args.rules.now c.loop-rule.rule-index
    _ c.loop-rule-test.true c.loop-rule.invariant
    (λ fits. let t : c.may_fit.result ≡ true = c.may_fit.ensures.1 fits in cc)

pub returns-clause-settled : goal.returns-clause-settled
returns-clause-settled c =
    settled_by_none (λ (rule : Rule). MayFit rule c.args.host.now c.args.port) c.args.rules.now c.loop-rule.rule-index
    c.allows_some.result _ c.loop-rule-test.false c.loop-rule.invariant c.allows_some.ensures refl

pub returns-clause-refused : goal.returns-clause-refused
returns-clause-refused c = λ refused to embedded same.
    refused_whole c.args.host.now c.args.port to embedded same c.args.rules.now _
    (settled_by_none (λ (rule : Rule). MayFit rule c.args.host.now c.args.port) c.args.rules.now c.loop-rule.rule-index
    c.allows_some.result _ c.loop-rule-test.false c.loop-rule.invariant c.allows_some.ensures refl) refused

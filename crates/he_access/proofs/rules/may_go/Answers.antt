use Rattle.std.proofs.Common.{◌≡◌, true, refl}
use Rattle.std.proofs.lemmas.List.Elements.{All-more}
use Rattle.he_access.specs.Rules.{Fits}
use Rattle.he_access.specs.declared.rules.Rule.{Rule}
use Rattle.he_access.proofs.Ruled.{settled_at, settled_by_none}
use Rattle.he_access.proofs.rules.may_go.Goals as goal

pub returns-then-fits : goal.returns-then-fits
returns-then-fits c =
    settled_at (λ (rule : Rule). Fits rule c.args.host.now c.args.to c.args.embedded) c.args.rules.now c.loop-rule.rule-index
    _ c.loop-rule-test.true c.loop-rule.invariant (c.fits.ensures.0 c.if-fits.true)

pub loop-rule-preserved : goal.loop-rule-preserved
loop-rule-preserved c =
    All-more (λ (rule : Rule). Fits rule c.args.host.now c.args.to c.args.embedded → ⊥) c.args.rules.now c.loop-rule.rule-index
    _ c.loop-rule-test.true c.loop-rule.invariant
    (λ fits. let t : c.fits.result ≡ true = c.fits.ensures.1 fits in cc)

pub returns : goal.returns
returns c =
    settled_by_none (λ (rule : Rule). Fits rule c.args.host.now c.args.to c.args.embedded) c.args.rules.now c.loop-rule.rule-index
    c.allows_some.result _ c.loop-rule-test.false c.loop-rule.invariant c.allows_some.ensures refl

use Rattle.std.proofs.Common.{◌∙◌, sym}
use Rattle.he_compare.proofs.Forms.{differs, ends}
use Rattle.he_compare.proofs.hours.fits.Goals as goal

pub returns-then-at-text : goal.returns-then-at-text
returns-then-at-text c = sym (ends c.args.form.now c.args.text.now c.loop-at.at 0 c.loop-at-test.true c.if-at-text.true) ∙ c.loop-at.invariant

pub returns-then-not-is_like : goal.returns-then-not-is_like
returns-then-not-is_like c =
    sym (differs c.args.form.now c.args.text.now c.loop-at.at _ _ c.loop-at-test.true c.if-at-text.false (sym c.is_like.ensures ∙ c.if-not-is_like.true)) ∙ c.loop-at.invariant

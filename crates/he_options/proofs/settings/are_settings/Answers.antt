use Rattle.std.proofs.Common.{rules}
use Rattle.he_options.proofs.Asked.{each, one_more}
use Rattle.he_options.proofs.settings.are_settings.Goals as goal

pub loop-text-preserved : goal.loop-text-preserved
loop-text-preserved c =
    one_more c.args.texts.now c.loop-text.text-index _ c.as_bytes.result.now c.is_setting.result c.loop-text-test.true c.loop-text.invariant c.as_bytes.ensures.value c.is_setting.ensures (search rules)

pub returns : goal.returns
returns c = λ _. each c.args.texts.now c.loop-text.text-index c.loop-text-test.false c.loop-text.invariant

use Rattle.he_recording.specs.Facts.{nat64_line}
use Rattle.he_recording.proofs.Adding.{one_more}
use Rattle.he_recording.proofs.making.add_nat64.Goals as goal

pub loop-prefix-preserved : goal.loop-prefix-preserved
loop-prefix-preserved c =
    one_more nat64_line c.args.prefixes.now c.loop-prefix.prefix-index _ c.args.told.now c.loop-prefix.told c.add.new.told
    c.loop-prefix-test.true c.loop-prefix.invariant c.in_ok-add.ensures

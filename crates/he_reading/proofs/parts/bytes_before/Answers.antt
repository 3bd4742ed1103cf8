use Rattle.he_reading.proofs.PartLaws.{lowest_is}
use Rattle.he_reading.proofs.parts.bytes_before.Goals as goal

pub returns : goal.returns
returns c = lowest_is c.args.mark c.lowest_bit.result c.args.text.now c.requires c.lowest_bit.ensures

use Rattle.std.proofs.Common.{take, arith}
use Rattle.he_reading.proofs.PartLaws.{first_byte, before_near, at_near}
use Rattle.he_reading.proofs.parts.find.Goals as goal

pub returns-then-len-near : goal.returns-then-len-near
returns-then-len-near c =
    before_near c.args.mark 32 c.args.len c.args.text.now c.if-text-ge-LANES.true c.requires (omega (arith, c.if-len-near.true, c.bytes_before-near.ensures))

pub returns-then-near-lt-LANES : goal.returns-then-near-lt-LANES
returns-then-near-lt-LANES c =
    at_near c.args.mark 32 c.args.len c.bytes_before-near.result c.args.text.now c.if-text-ge-LANES.true c.requires c.bytes_before-near.ensures c.if-len-near.false c.if-near-lt-LANES.true

pub returns : goal.returns
returns c = first_byte c.args.mark (take c.args.len c.args.text.now) c.memchr.result c.memchr.ensures

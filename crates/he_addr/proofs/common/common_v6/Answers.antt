use Rattle.he_addr.proofs.Common_bits.{is_common}
use Rattle.he_addr.proofs.common.common_v6.Goals as goal

pub returns : goal.returns
returns c = is_common 128 c.args.a c.args.b c.ranges.a.fits c.ranges.b.fits

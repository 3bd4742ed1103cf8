use Rattle.he_addr.proofs.Common_bits.{is_common}
use Rattle.he_addr.proofs.common.common_v4.Goals as goal

pub returns : goal.returns
returns c = is_common 32 c.args.a c.args.b c.ranges.a.fits c.ranges.b.fits

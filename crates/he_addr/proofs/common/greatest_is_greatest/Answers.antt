use Rattle.he_addr.proofs.Common_bits.{greatest_law}
use Rattle.he_addr.proofs.common.greatest_is_greatest.Goals as goal

pub returns : goal.returns
returns c = greatest_law

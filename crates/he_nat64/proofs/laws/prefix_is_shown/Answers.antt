use Rattle.std.proofs.Common.{◌+◌, eq-eqb, refl}
use Rattle.he_nat64.specs.Embedding.{placed}
use Rattle.he_nat64.proofs.Both.{both, both_is_embedded}
use Rattle.he_nat64.proofs.Showing.{only_one}
use Rattle.he_nat64.proofs.laws.prefix_is_shown.Goals as goal

pub returns : goal.returns
returns c = λ length bits v4 clear small once.
    let parts = both length bits v4 clear small in
    let found = only_one v4 (bits + placed length v4) length once (both_is_embedded length bits v4 parts) in
    rw (eq-eqb _ _ once) (rw found (rw parts.prefix refl))

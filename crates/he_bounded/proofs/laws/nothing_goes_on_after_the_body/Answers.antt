use Rattle.he_bounded.proofs.Within.{nothing_after}
use Rattle.he_bounded.proofs.laws.nothing_goes_on_after_the_body.Goals as goal

pub returns : goal.returns
returns c = nothing_after

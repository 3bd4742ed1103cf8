use Rattle.he_response.proofs.Coming.{nothing_after_it}
use Rattle.he_response.proofs.laws.nothing_goes_on_after_the_body.Goals as goal

pub returns : goal.returns
returns c = nothing_after_it

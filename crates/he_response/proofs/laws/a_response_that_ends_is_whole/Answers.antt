use Rattle.he_response.proofs.Coming.{ends_whole}
use Rattle.he_response.proofs.laws.a_response_that_ends_is_whole.Goals as goal

pub returns : goal.returns
returns c = ends_whole

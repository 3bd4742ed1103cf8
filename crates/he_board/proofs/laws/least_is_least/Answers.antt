use Rattle.he_board.proofs.Found.{least_of-contains, least_of-one_of}
use Rattle.he_board.proofs.laws.least_is_least.Goals as goal

pub returns : goal.returns
returns c = record { at_most = λ race value noted has. least_of-contains race value noted has; one_of = λ race noted. least_of-one_of race noted }

use Rattle.he_board.proofs.KeyOf.{winner_of-key_of}
use Rattle.he_board.proofs.laws.keys_read_back.Goals as goal

pub returns : goal.returns
returns c = λ tick place early near. winner_of-key_of tick place early near

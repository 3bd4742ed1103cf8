use Rattle.he_board.proofs.KeyOf.{key_of-below, key_of-above}
use Rattle.he_board.proofs.laws.keys_are_ordered.Goals as goal

pub returns : goal.returns
returns c = λ tick place tick' place' near near'. (key_of-below tick place tick' place' near near', key_of-above tick place tick' place' near near')

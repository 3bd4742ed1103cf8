use Rattle.he_board.proofs.Lawfulness.{balanced, lawful}
use Rattle.he_board.proofs.laws.board_is_lawful.Goals as goal

pub returns : goal.returns
returns c = λ jobs races words views. (lawful jobs races words views, balanced jobs races words views)

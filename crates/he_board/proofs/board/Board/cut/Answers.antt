use Rattle.std.proofs.Common.{rules}
use Rattle.he_board.proofs.Allowed.{may_fork}
use Rattle.he_board.proofs.board.Board.cut.Goals as goal

pub split_seat-other-requires : goal.split_seat-other-requires
split_seat-other-requires g c = (search rules, search rules, may_fork _ _ _ (search rules))

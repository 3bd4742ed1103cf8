use Rattle.he_board.proofs.board.Board.rejoin.Goals as goal

pub returns-clause-own : goal.returns-clause-own
returns-clause-own g c = c.merge.ensures.own

use Rattle.he_board.proofs.board.Board.offer.Goals as goal

pub returns-clause-own : goal.returns-clause-own
returns-clause-own g c = c.lower_winner.ensures.own

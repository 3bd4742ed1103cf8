use Rattle.he_board.proofs.board.Board.least.Goals as goal

pub returns-clause-noted : goal.returns-clause-noted
returns-clause-noted g c = c.load_winner.ensures.noted

pub returns-clause-below : goal.returns-clause-below
returns-clause-below g c = c.load_winner.ensures.below

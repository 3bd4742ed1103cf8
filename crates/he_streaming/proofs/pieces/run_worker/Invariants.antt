use Rattle.he_board.specs.Passes.{notes}
use Rattle.he_streaming.specs.Pieces.{HasWorked}
use Rattle.he_streaming.specs.Rounds.{IsAsked}
use Rattle.he_streaming.proofs.pieces.run_worker.Given as goal

abbrev pub invariant-loop-number : goal.invariant-loop-number
invariant-loop-number g l = HasWorked (IsAsked l.work.asked.now) l.work.board.now l.work.bytes.now l.work.count l.number (notes l.fn.pass).parts l.pass l.pieces.items

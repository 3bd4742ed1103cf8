use Rattle.he_board.specs.Passes.{notes}
use Rattle.he_streaming.specs.Rounds.{IsAsked}
use Rattle.he_streaming.proofs.Workers.{both_told}
use Rattle.he_streaming.proofs.pieces.join_halves.Goals as goal

pub returns : goal.returns
returns g c = both_told (IsAsked c.args.work.asked.now) c.args.work.board.now c.args.work.bytes.now c.args.work.count (notes c.args.left.pass).parts (notes c.args.right.pass).parts c.args.left.pass c.args.right.pass _ c.args.left.pieces.items c.args.right.pieces.items _ c.requires.left c.requires.right c.rejoin-pass.ensures.own c.rejoin-pass.ensures.noted c.in_ok-append.ensures.items

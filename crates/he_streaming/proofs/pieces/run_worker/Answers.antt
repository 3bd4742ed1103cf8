use Rattle.std.proofs.Common.{◌≡◌, ◌++◌, ◌∷◌, [], refl}
use Rattle.he_board.specs.Passes.{notes}
use Rattle.he_streaming.specs.Rounds.{IsAsked}
use Rattle.he_streaming.proofs.Workers.{one_known, one_told}
use Rattle.he_streaming.proofs.pieces.run_worker.Goals as goal
use Rattle.he_streaming.proofs.pieces.run_worker.Goals.{then-take+in_ok-tell_piece+in_ok-push, else-take}

pub loop-number-preserved : goal.loop-number-preserved
loop-number-preserved g c =
    let told = one_told (IsAsked c.args.work.asked.now) c.args.work.board.now c.args.work.bytes.now c.args.work.count (notes c.args.pass).parts c.loop-number.number _ c.loop-number.pass c.take.new.pass c.loop-number.pieces.items in
    let known = one_known (IsAsked c.args.work.asked.now) c.args.work.board.now c.args.work.bytes.now c.args.work.count (notes c.args.pass).parts c.loop-number.number _ c.loop-number.pass c.take.new.pass c.loop-number.pieces.items in
    elim c.if-take.branch [
      | then-take+in_ok-tell_piece+in_ok-push w ↦
          let taken : (notes c.take.new.pass).taken ≡ (notes c.loop-number.pass).taken ++ c.loop-number.number ∷ [] = rw w.if-take.true at c.take.ensures.taken in
          rw w.pieces-is (told _ _ c.loop-number.invariant c.take.ensures.own c.take.ensures.parts taken c.take.ensures.known w.in_ok-push.ensures.items refl w.in_ok-tell_piece.ensures.number w.in_ok-tell_piece.ensures.told w.in_ok-tell_piece.ensures.whole)
      | else-take w ↦
          let taken : (notes c.take.new.pass).taken ≡ (notes c.loop-number.pass).taken = rw w.if-take.false at c.take.ensures.taken in
          rw w.pieces-is (known c.loop-number.invariant c.take.ensures.own c.take.ensures.parts taken c.take.ensures.known refl)
    ]

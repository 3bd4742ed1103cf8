use Rattle.he_streaming.proofs.pieces.join_pieces.Goals as goal

pub loop-begun-init : goal.loop-begun-init
loop-begun-init g c = (c.requires.within, λ races lines told. told)

pub loop-begun-preserved : goal.loop-begun-preserved
loop-begun-preserved g c = (c.in_ok-begun.ensures.within, λ races lines told. c.in_ok-begun.ensures.told races lines (c.loop-begun.invariant.1 races lines told))

pub returns-then-begun-before-clause-told : goal.returns-then-begun-before-clause-told
returns-then-begun-before-clause-told g c = λ races lines told. c.in_ok-begun.ensures.told races lines (c.loop-begun.invariant.1 races lines told)

use Rattle.he_select.specs.LabelledRules.{admits, is_better_labelled, labelled_of}
use Rattle.he_select.specs.LookUps.{rows_of}
use Rattle.he_select.proofs.Walks.{walk_on, walk_over}
use Rattle.he_select.proofs.selection.best_source.Goals as goal

pub loop-source-preserved : goal.loop-source-preserved
loop-source-preserved c = (
  walk_on (admits c.args.destination.now) (is_better_labelled c.args.destination.now) (labelled_of (rows_of c.args.table)) c.args.sources.now c.loop-source.source-index _ c.loop-source.best _ _ _
      c.loop-source-test.true c.loop-source.invariant.0 c.new.ensures c.keep_copy-best.ensures.kept,
  c.keep_copy-best.ensures.sound,
)

pub returns : goal.returns
returns c =
    walk_over (admits c.args.destination.now) (is_better_labelled c.args.destination.now) (labelled_of (rows_of c.args.table)) c.args.sources.now c.loop-source.source-index c.loop-source.best _
    c.loop-source-test.false c.loop-source.invariant.0

use Rattle.std.proofs.Common.{◌≡◌, drop, map}
use Rattle.std.specs.Prelude.{None, IfSome, IsTrue}
use Rattle.he_select.specs.HostFaults.{is_sound_source}
use Rattle.he_select.specs.LabelledRules.{admits, is_better_labelled, labelled_of}
use Rattle.he_select.specs.Walking.{walk_fitting}
use Rattle.he_select.specs.LookUps.{rows_of}
use Rattle.he_select.proofs.selection.best_source.Given as goal

abbrev pub invariant-loop-source : goal.invariant-loop-source
invariant-loop-source l =
    (walk_fitting (admits l.destination) (is_better_labelled l.destination) l.best (map (labelled_of (rows_of l.table)) (drop l.source-index l.sources))
    ≡ walk_fitting (admits l.destination) (is_better_labelled l.destination) None (map (labelled_of (rows_of l.table)) l.sources))
    × IfSome l.best (λ kept. IsTrue (is_sound_source kept.source))

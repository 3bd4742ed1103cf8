use Rattle.std.proofs.Common.{◌≡◌, drop, option_map}
use Rattle.std.specs.Prelude.{None, IfSome, IsTrue}
use Rattle.he_select.specs.HostFaults.{is_sound_source}
use Rattle.he_select.specs.LabelledRules.{admits, is_better_labelled}
use Rattle.he_select.specs.Walking.{walk_fitting}
use Rattle.he_select.proofs.selection.Destination.best_of.Given as goal

abbrev pub invariant-loop-labelled : goal.invariant-loop-labelled
invariant-loop-labelled l =
    (walk_fitting (admits l.self) (is_better_labelled l.self) (option_map (λ kept. kept.now) l.best) (drop l.labelled-index l.sources)
    ≡ walk_fitting (admits l.self) (is_better_labelled l.self) None l.sources)
    × IfSome l.best (λ kept. IsTrue (is_sound_source kept.now.source))

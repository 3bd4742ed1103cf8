use Rattle.std.proofs.Common.{◌≡◌, ◌++◌, drop}
use Rattle.std.specs.List.{flat_map}
use Rattle.he_check.specs.Sentences.{warning_text}
use Rattle.he_check.proofs.telling.tell_warnings.Given as goal

abbrev pub invariant-loop-warning : goal.invariant-loop-warning
invariant-loop-warning g l = l.text.items ++ flat_map warning_text (drop l.warning-index l.warnings) ≡ flat_map warning_text l.warnings

use Rattle.std.proofs.Common.{◌≡◌, ◌++◌, drop}
use Rattle.std.specs.List.{flat_map}
use Rattle.he_check.specs.Objects.{warning_entry}
use Rattle.he_check.proofs.objects.warning_entries.Given as goal

abbrev pub invariant-loop-warning : goal.invariant-loop-warning
invariant-loop-warning g l = l.text.items ++ flat_map warning_entry (drop l.warning-index l.warnings) ≡ flat_map warning_entry l.warnings

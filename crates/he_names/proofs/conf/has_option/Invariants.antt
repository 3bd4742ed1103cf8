use Rattle.std.proofs.Common.{◌≡◌, map, take}
use Rattle.std.specs.List.{list_any}
use Rattle.he_names.specs.Conf.{entry_of, sets}
use Rattle.he_names.specs.Fields.{texts}
use Rattle.he_names.proofs.conf.has_option.Given as goal

abbrev pub invariant-loop-line : goal.invariant-loop-line
invariant-loop-line g l = l.has ≡ list_any (sets l.name) (map entry_of (texts (take l.line-index l.line-items)))

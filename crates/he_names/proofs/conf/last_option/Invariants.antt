use Rattle.std.proofs.Common.{◌≡◌, map, take}
use Rattle.std.specs.List.{flat_map}
use Rattle.he_names.specs.Conf.{entry_of, last_of, numbers_of}
use Rattle.he_names.specs.Fields.{texts}
use Rattle.he_names.proofs.conf.last_option.Given as goal

abbrev pub invariant-loop-line : goal.invariant-loop-line
invariant-loop-line g l = l.number ≡ last_of l.fn.default (flat_map (numbers_of l.name) (map entry_of (texts (take l.line-index l.line-items))))

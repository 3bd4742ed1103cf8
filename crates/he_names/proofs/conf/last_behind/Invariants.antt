use Rattle.std.proofs.Common.{◌≡◌, take}
use Rattle.he_names.specs.Conf.{last_of, numbers_behind}
use Rattle.he_names.specs.Fields.{texts}
use Rattle.he_names.proofs.conf.last_behind.Given as goal

abbrev pub invariant-loop-option : goal.invariant-loop-option
invariant-loop-option l = l.last ≡ last_of l.before (numbers_behind l.name (texts (take l.option-index l.options)))

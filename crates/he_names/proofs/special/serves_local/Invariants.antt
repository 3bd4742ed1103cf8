use Rattle.std.proofs.Common.{◌≡◌, take}
use Rattle.std.specs.List.{list_any}
use Rattle.he_names.specs.Fields.{texts}
use Rattle.he_names.specs.Special.{is_of_local}
use Rattle.he_names.proofs.special.serves_local.Given as goal

abbrev pub invariant-loop-domain : goal.invariant-loop-domain
invariant-loop-domain g l = l.serves ≡ list_any is_of_local (texts (take l.domain-index l.search))

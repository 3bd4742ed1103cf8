-- Faults of what is known of a host.
use Rattle.std.proofs.Common.{ℕ, List, Result, Ok, Err, inr}
use Rattle.std.specs.Prelude.{IfErr}
use Rattle.he_names.specs.Targets.{Means}
use Rattle.he_names.specs.declared.target.Target.{Target}
use Rattle.he_settings.specs.Known.{IsFaultOf, IsOfHosts}
use Rattle.he_settings.specs.declared.fault.NamesFault.{NamesFault}

-- a fault of finding what is known of the host that a text names
pub found_fault : {X : Type 0} (text : List ℕ) (result : Result X NamesFault) (target : Target) → Means text target
    → IfErr result (IsOfHosts target) → IfErr result (IsFaultOf text)
found_fault text (Ok x) target means of = tt
found_fault text (Err fault) target means of = inr (target, means, of)

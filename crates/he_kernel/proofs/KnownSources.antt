-- A source that is there already.
use Rattle.std.proofs.Common.{◌≡◌, Bool, true, List, ◌∷◌, [], ◌++◌, cond, ap, sym, ◌∙◌}
use Rattle.std.specs.Prelude.{Option, Some}
use Rattle.std.specs.List.{list_any}
use Rattle.he_addr.specs.declared.ip.Ip.{Ip}
use Rattle.he_addr.specs.Ip.{same_ip}
use Rattle.he_kernel.specs.Ways.{with_source}

pub there_already : (taken : List Ip) (from : Option Ip) (ip : Ip) → from ≡ Some ip → list_any (λ other. same_ip other ip) taken ≡ true → taken ≡ with_source taken from
there_already taken from ip is there =
    sym (ap (with_source taken) is ∙ ap (λ (b : Bool). cond b taken (taken ++ ip ∷ [])) there)

-- The machine that is written, and its text.
use Rattle.std.proofs.Common.{◌≡◌, ◌∙◌, ◌++◌, ℕ, Bool, true, false, List, [], ◌∷◌, ap, arith, eqb, inl, inr, length, refl, subst, sym}
use Rattle.std.specs.Prelude.{IfOk, Result, Ok, Err}
use Rattle.std.proofs.lemmas.Bool.{eqb-true}
use Rattle.he_addr.specs.declared.ip.Ip.{Ip}
use Rattle.he_json.specs.Documents.{Appends}
use Rattle.he_json.specs.Machine.{IsMachineJson}
use Rattle.he_kernel.specs.Ways.{IsMachineTo}
use Rattle.he_kernel.specs.Written.{host_lines}
use Rattle.he_select.specs.Hosts.{HostLists}
use Rattle.he_select.specs.declared.host.Route.{Route}
use Rattle.he_select.specs.declared.host.Source.{Source}
use Rattle.he_command.specs.Machines.{IsMachineFor, IsMachineText}
use Rattle.he_command.proofs.Written.{written_first}

none_left : (destinations : List Ip) → eqb (length destinations) 0 ≡ true → destinations ≡ []
none_left [] is = refl
none_left (ip ∷ more) is = absurd (omega (arith, eqb-true (length (ip ∷ more)) 0 is))

-- the whole machine
pub for_none : {E : Type 0} (destinations : List Ip) (result : Result HostLists E) → eqb (length destinations) 0 ≡ true
    → IfOk result (IsMachineFor destinations)
for_none destinations (Ok machine) is = inl (none_left destinations is)
for_none destinations (Err fault) is = tt

pub for_some : {E : Type 0} (destinations : List Ip) (result : Result HostLists E) → IfOk result (IsMachineTo destinations)
    → IfOk result (IsMachineFor destinations)
for_some destinations (Ok machine) is = inr is
for_some destinations (Err fault) is = tt

pub machine_object : (is_json : Bool) (machine : HostLists) (sources : List Source) (routes : List Route) (empty new : List ℕ)
    → is_json ≡ true → sources ≡ machine.sources → routes ≡ machine.routes → empty ≡ [] → Appends (IsMachineJson sources routes) empty new
    → IsMachineText is_json machine new
machine_object is_json machine sources routes empty new json same_sources same_routes none appends =
    subst (λ (b : Bool). IsMachineText b machine new) (sym json)
    (subst (λ (s : List Source). IsMachineJson s machine.routes new) same_sources
    (subst (λ (r : List Route). IsMachineJson sources r new) same_routes (written_first (IsMachineJson sources routes) empty new none appends)))

pub machine_lines : (is_json : Bool) (machine : HostLists) (empty new : List ℕ)
    → is_json ≡ false → empty ≡ [] → new ≡ empty ++ host_lines machine → IsMachineText is_json machine new
machine_lines is_json machine empty new plain none is =
    subst (λ (b : Bool). IsMachineText b machine new) (sym plain) (is ∙ ap (λ before. before ++ host_lines machine) none)

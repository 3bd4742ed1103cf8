-- Where a client's races may connect, they do.
use Rattle.std.proofs.Common.{◌≡◌, Bool, true, false, List, refl}
use Rattle.std.specs.Prelude.{Option}
use Rattle.he_addr.specs.declared.ip.Ip.{Ip}
use Rattle.he_access.specs.Reaching.{IsGlobal, IsHere, IsOwn, IsReached}
use Rattle.he_access.specs.declared.reach.Place.{Place}

pub reached_all : (is_wide : Bool) (places : List Place) (to : Place) (source : Option Ip) (answer : Bool)
    → IsReached is_wide places to source
    → (is_wide ≡ true → (IsOwn places to source → ⊥) → answer ≡ true)
    → (is_wide ≡ false → (IsOwn places to source → ⊥) → (IsHere to.ip source → ⊥) → IsGlobal to.ip → answer ≡ true)
    → answer ≡ true
reached_all true places to source answer reached wide others = wide refl reached.itself
reached_all false places to source answer reached wide others =
    others refl reached.itself (reached.here refl) (reached.global refl)

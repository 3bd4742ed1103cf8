-- Why the kernel's source is selected where each source has an interface of its own (RFC 6724 section 5).
use Rattle.std.specs.Prelude.{◌≡◌, ◌⊎◌, ◌==◌, false, List, [], ◌∷◌, Some}
use Rattle.std.specs.Ordering.{is_lt}
use Rattle.he_addr.specs.declared.ip.Ip.{Ip}
use Rattle.he_addr.specs.Ip.{is_v6}
use Rattle.he_select.specs.declared.host.Route.{Route}
use Rattle.he_select.specs.declared.host.Source.{Source}
use Rattle.he_select.specs.Rules.{Rule, first_of}
use Rattle.he_select.specs.Selection.{SelectionInput, avoids_deprecated, prefers_appropriate_scope, prefers_same_address, route_of, source_of}

-- a member of a list
abbrev pub Among : {X : Type 0} → X → List X → Type 0
Among x [] = ⊥
Among x (y ∷ ys) = (x ≡ y) ⊎ Among x ys

-- the source rules before rule 5, the outgoing interface: same address, appropriate scope, deprecated addresses
abbrev pub early_rules : Ip → List (Rule Source)
early_rules ip = prefers_same_address ip ∷ prefers_appropriate_scope ip ∷ avoids_deprecated ∷ []

-- the route to a destination leads over the interface of a source of its family, which no other source has, and none
-- of the early rules prefers another source to it
pub record IsAloneOnWay (input : SelectionInput) (ip : Ip) (route : Route) (source : Source) : Type 0 where
  pub routed : route_of input ip ≡ Some route
  pub listed : Among source input.sources
  pub family : is_v6 source.ip ≡ is_v6 ip
  pub way : source.interface ≡ route.interface
  pub alone : (other : Source) → Among other input.sources → (other ≡ source)
      ⊎ ((other.interface == route.interface) ≡ false)
  pub early : (other : Source) → Among other input.sources → is_lt (first_of (early_rules ip) other source) ≡ false

-- then it is the destination's source, whatever the later rules prefer
abbrev pub OwnInterfaceDecides : Type 0
OwnInterfaceDecides =
    (input : SelectionInput) (ip : Ip) (route : Route) (source : Source) → IsAloneOnWay input ip route source
    → source_of input ip ≡ Some source

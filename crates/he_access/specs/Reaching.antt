-- Which clients the proxy serves, and what it connects to.
use Rattle.std.specs.Prelude.{ℕ, ◌+◌, ◌*◌, ◌/◌, ◌^◌, ◌<◌, ◌≡◌, ◌⊎◌, Bool, List, [], ◌∷◌, Option, Some, true, false}
use Rattle.he_addr.specs.declared.ip.Ip.{Ip}
use Rattle.he_addr.specs.declared.ip.Ip.TheVariants.{V4, V6}
use Rattle.std.specs.List.{Any}
use Rattle.he_addr.specs.Prefix.{PrefixBits, contains}
use Rattle.he_access.specs.declared.reach.Place.{Place}
use Rattle.he_addr.specs.Ip.{mapped_of}
use Rattle.he_access.specs.Registries.{Says, judged, rows}

-- ---- addresses, by their first bits

-- 127.0.0.0/8, also in its mapped form, and ::1
abbrev pub IsLoopback : Ip → Type 0
IsLoopback (V4 n) = n / 2 ^ 24 ≡ 127
IsLoopback (V6 n) = (n ≡ 1) ⊎ (n / 2 ^ 24 ≡ 0xffff_7f)

-- 10.0.0.0/8, 172.16.0.0/12, 192.168.0.0/16, 169.254.0.0/16, 100.64.0.0/10; fc00::/7, fe80::/10, fec0::/10
abbrev pub IsPrivate : Ip → Type 0
IsPrivate (V4 n) =
    (n / 2 ^ 24 ≡ 10) ⊎ ((n / 2 ^ 20 ≡ 0xac1) ⊎ ((n / 2 ^ 16 ≡ 0xc0a8) ⊎ ((n / 2 ^ 16 ≡ 0xa9fe) ⊎ (n / 2 ^ 22 ≡ 0x191))))
IsPrivate (V6 n) = (n / 2 ^ 121 ≡ 0x7e) ⊎ ((n / 2 ^ 118 ≡ 0x3fa) ⊎ (n / 2 ^ 118 ≡ 0x3fb))

-- the IPv6 address embeds the IPv4 address: after ::, 64:ff9b:: or ::ffff:0:0, or between 2002 and the rest
abbrev pub Carries : ℕ → ℕ → Type 0
Carries n carried =
    (carried < 2 ^ 32)
    × ((n ≡ carried)
    ⊎ ((n ≡ 0x0064_ff9b * 2 ^ 96 + carried)
    ⊎ ((n ≡ 0xffff * 2 ^ 32 + carried)
    ⊎ ((rest : ℕ) × (rest < 2 ^ 80) × (n ≡ 0x2002 * 2 ^ 112 + carried * 2 ^ 80 + rest)))))

-- globally reachable, by the registries
abbrev pub IsGlobal : Ip → Type 0
IsGlobal ip = Says rows (judged (mapped_of ip)) true

-- ---- clients

-- a loopback client, or one in an allowed network
abbrev pub IsServed : Ip → List PrefixBits → Type 0
IsServed client allow = IsLoopback client ⊎ Any (λ network. contains network client ≡ true) allow

-- ---- this machine

abbrev pub IsUnspecified : Ip → Type 0
IsUnspecified ip = (mapped_of ip ≡ 0) ⊎ (mapped_of ip ≡ 0xffff_0000_0000)

-- an address of this machine: loopback, unspecified, or the one from which the kernel would connect to it
abbrev pub IsHere : Ip → Option Ip → Type 0
IsHere ip source =
    IsLoopback ip ⊎ (IsUnspecified ip ⊎ ((own : Ip) × (source ≡ Some own) × (mapped_of own ≡ mapped_of ip)))

-- a connection reaches the place: by its address and port; by any address of this machine if the place is
-- unspecified; by the unspecified address if the place is loopback
pub data ComesTo (place to : Place) (source : Option Ip) : Type 0 where
  Same : place.port ≡ to.port → mapped_of place.ip ≡ mapped_of to.ip → ComesTo place to source
  Wild : place.port ≡ to.port → IsUnspecified place.ip → IsHere to.ip source → ComesTo place to source
  Loop : place.port ≡ to.port → IsLoopback place.ip → IsUnspecified to.ip → ComesTo place to source

-- a connection reaches the proxy itself
abbrev pub IsOwn : List Place → Place → Option Ip → Type 0
IsOwn [] to source = ⊥
IsOwn (place ∷ others) to source = ComesTo place to source ⊎ IsOwn others to source

-- a client's races may connect to the place, to which the kernel connects from this source: never to the proxy
-- itself; and, unless `is_wide`, to no address of this machine, to no private one, and only to one that is globally
-- reachable, as is the IPv4 address embedded in it
pub record IsReached (is_wide : Bool) (places : List Place) (to : Place) (source : Option Ip) : Type 0 where
  pub itself : IsOwn places to source → ⊥
  pub here : is_wide ≡ false → IsHere to.ip source → ⊥
  pub private : is_wide ≡ false → IsPrivate to.ip → ⊥
  pub global : is_wide ≡ false → IsGlobal to.ip
  pub carried : is_wide ≡ false → (n : ℕ) → Carries (mapped_of to.ip) n → IsGlobal (V4 n)

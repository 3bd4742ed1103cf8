-- Mirrors the code: its tests of addresses.
use Rattle.std.specs.Prelude.{◌/◌, ◌^◌, ◌==◌, ◌&&◌, ◌||◌, Bool, false, Option, Some, None}
use Rattle.he_addr.specs.declared.ip.Ip.{Ip}
use Rattle.he_addr.specs.declared.ip.Ip.TheVariants.{V4, V6}
use Rattle.he_access.specs.declared.reach.Place.{Place}
use Rattle.he_addr.specs.Ip.{mapped_of}

abbrev pub is_loopback : Ip → Bool
is_loopback (V4 n) = n / 2 ^ 24 == 127
is_loopback (V6 n) = n == 1 || n / 2 ^ 24 == 0xffff_7f

abbrev pub is_unspecified : Ip → Bool
is_unspecified ip = mapped_of ip == 0 || mapped_of ip == 0xffff_0000_0000

abbrev pub is_same : Option Ip → Ip → Bool
is_same None ip = false
is_same (Some own) ip = mapped_of own == mapped_of ip

abbrev pub is_here : Ip → Option Ip → Bool
is_here ip source = is_loopback ip || (is_unspecified ip || is_same source ip)

abbrev pub comes_to : Place → Place → Option Ip → Bool
comes_to place to source =
    place.port == to.port
    && (mapped_of place.ip == mapped_of to.ip
    || ((is_unspecified place.ip && is_here to.ip source) || (is_loopback place.ip && is_unspecified to.ip)))

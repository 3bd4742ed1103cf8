-- The targets that one client's races may connect to.
use Rattle.std.specs.Prelude.{ℕ, ◌≡◌, ◌||◌, Bool, true, false, IfSome, List, None, is_some}
use Rattle.he_access.specs.Reaching.{IsReached}
use Rattle.he_access.specs.Rules.{Fits, Settles}
use Rattle.he_access.specs.Tests.{is_here}
use Rattle.he_addr.specs.declared.ip.Ip.TheVariants.{V4}
use Rattle.he_loop.specs.declared.access.Destination.{Destination}
use Rattle.he_loop.specs.declared.access.Reach.{Reach}

-- the client reaches everything but the proxy itself: it is a program of this machine, or private addresses are
-- allowed
abbrev pub is_wide : Reach → Bool
is_wide reach = reach.allows_private || is_here reach.client.ip reach.client.source

-- the client's races may connect to the IPv4 host at the port, as to one of another machine
abbrev pub ReachesHost : Reach → ℕ → ℕ → Type 0
ReachesHost reach port host =
    IsReached (is_wide reach) reach.own.now (record { ip = V4 host; port = port }) None

-- the client's races for the host that is asked for may connect to a destination at the port, by the kernel's source
-- address for it; a client without full reach only if there is one; and to the IPv4 host that the destination embeds,
-- if it is known; and the rules allow both
pub record Reaches (reach : Reach) (asked : List ℕ) (to : Destination) (port : ℕ) : Type 0 where
  pub reached : IsReached (is_wide reach) reach.own.now (record { ip = to.way.to; port = port }) to.way.from
  pub way_is : is_wide reach ≡ false → is_some to.way.from ≡ true
  pub host : IfSome to.host (ReachesHost reach port)
  pub ruled : Settles (λ rule. Fits rule asked (record { ip = to.way.to; port = port }) to.host) reach.rules.now true

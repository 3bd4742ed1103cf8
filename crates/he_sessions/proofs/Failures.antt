-- Every end but a connection is a failure.
use Rattle.std.proofs.Common.{◌≡◌, refl}
use Rattle.he_front.specs.declared.replies.Ended.{Ended}
use Rattle.he_front.specs.declared.replies.Ended.TheVariants as ends
use Rattle.he_handshake.specs.Asks.{IsFailure}

pub not_connected : (ended : Ended) → (ended ≡ ends.Connected → ⊥) → IsFailure ended
not_connected ends.Connected other = other refl
not_connected ends.Failed other = tt
not_connected ends.Forbidden other = tt
not_connected ends.NoUser other = tt
not_connected ends.NoNetwork other = tt
not_connected ends.NoHost other = tt
not_connected ends.Refused other = tt
not_connected ends.TimedOut other = tt
not_connected ends.Command other = tt
not_connected ends.Kind other = tt
not_connected ends.Coding other = tt

-- The connection that a session's race gave.
use Rattle.std.specs.Prelude.{◌≡◌, Option, Some, Result, Ok}
use Rattle.he_front.specs.declared.replies.Ended.{Ended}
use Rattle.he_sessions.specs.declared.racer.Winner.{Winner}
use Rattle.he_sessions.specs.declared.racer.Won.{Won}

-- a race that may end with this gave this connection, and its winner is recorded
pub record IsWon {S : Type 0} (MayEnd : Result (Won S) Ended → Type 0) (result : Option (Result Winner Ended)) (won : Won S) : Type 0 where
  pub given : MayEnd (Ok won)
  pub noted : result ≡ Some (Ok won.winner)

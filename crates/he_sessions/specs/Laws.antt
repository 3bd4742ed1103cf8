-- A law of the replies to clients.
use Rattle.std.specs.Prelude.{◌≢◌, ℕ, List, ◌++◌}
use Rattle.std.specs.declared.alloc.Global.{Global}
use Rattle.he_front.specs.declared.asked.Asked.{Asked}
use Rattle.he_front.specs.declared.replies.Ended.{Ended}
use Rattle.he_users.specs.declared.users.Users.{Users}
use Rattle.he_sessions.specs.Talks.{IsOpened, IsTurnedAway}

-- a reply that refuses a client does not begin with one that reports an open tunnel
abbrev pub NoRefusalSucceeds : Type 0
NoRefusalSucceeds =
    (users : Users) (ended : Ended) (refused : List ℕ) (asked : Asked Global) (asks told more : List ℕ)
    → IsTurnedAway users ended refused → IsOpened users asked asks told
    → refused ≢ told ++ more

-- The order of a session's states.
use Rattle.std.specs.Prelude.{ℕ, ◌≤◌}
use Rattle.he_sessions.specs.declared.states.State.{State}
use Rattle.he_sessions.specs.declared.states.State.TheVariants as states

-- the progress of a session: whether its client has made a request; whether its race is over, its tunnel is being
-- announced, is open or has broken off, or its response is written; whether the last reply to the client is its final
-- one; whether it has no tunnel any more, or gets a response in place of one
abbrev pub come_to : {F S : Type 0} → State F S → ℕ × ℕ × ℕ × ℕ
come_to (states.Asking asking) = (0, 0, 0, 0)
come_to (states.Racing racing) = (1, 0, 0, 0)
come_to (states.Answering answering) = (1, 2, 0, 0)
come_to (states.Relaying relaying) = (1, 3, 0, 0)
come_to (states.Forwarding forwarding) = (1, 1, 0, 1)
come_to (states.Parting parting) = (1, 4, 0, 1)
come_to (states.Cutting cutting) = (1, 4, 0, 1)
come_to (states.Closing closing) = (1, 1, 1, 1)
come_to states.Over = (1, 4, 1, 1)

-- progress is never undone: a session doesn't race after it has answered or forwards, doesn't answer after it relays,
-- and sends a final reply only if it has not answered
abbrev pub Follows : {F S : Type 0} → State F S → State F S → Type 0
Follows old new =
    ((come_to old).0 ≤ (come_to new).0) × ((come_to old).1 ≤ (come_to new).1) × ((come_to old).2 ≤ (come_to new).2)
    × ((come_to old).3 ≤ (come_to new).3)

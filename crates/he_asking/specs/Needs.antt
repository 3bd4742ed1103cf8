-- The sources of events that a query waits for: its socket and its timer.
use Rattle.std.specs.Prelude.{ℕ, ◌≡◌, ◌⊎◌, ⊤, IsSomeAnd}
use Rattle.futures.specs.Task.{Covers}
use Rattle.futures.specs.declared.task.context.Context.{Context}
use Rattle.tokio.specs.Net.{ConnectNeeds, connect_state, stream_readable, stream_writable}
use Rattle.tokio.specs.Timers.{sleep_source}
use Rattle.he_asking.specs.declared.query.Query.{Query}
use Rattle.he_asking.specs.declared.query.Transport.{Transport}
use Rattle.he_asking.specs.declared.query.Transport.TheVariants as transports
use Rattle.he_asking.specs.declared.streams.Stage.{Stage}
use Rattle.he_asking.specs.declared.streams.Stage.TheVariants.{Connecting, Sending, Length, Message, Over}
use Rattle.he_asking.specs.declared.streams.StageOutcome.{StageOutcome}
use Rattle.he_asking.specs.declared.streams.StageOutcome.TheVariants as steps

-- over TCP: the connection, room to send, or bytes to read
abbrev pub stage_needs : Stage → ℕ → Type 0
stage_needs (Connecting connecting request) s = ConnectNeeds (connect_state connecting) s
stage_needs (Sending sending) s = IsSomeAnd sending.state (λ w. s ≡ stream_writable w.0)
stage_needs (Length reading) s = IsSomeAnd reading.state (λ r. s ≡ stream_readable r.reader)
stage_needs (Message reading) s = IsSomeAnd reading.state (λ r. s ≡ stream_readable r.reader)
stage_needs Over s = ⊥

-- a waiting step has registered for all that its stage waits for
abbrev pub CoversWait : Context → StageOutcome → Type 0
CoversWait cx (steps.Waits stage) = Covers cx (stage_needs stage)
CoversWait cx other = ⊤

-- over UDP: a datagram to read
abbrev pub transport_needs : Transport → ℕ → Type 0
transport_needs (transports.Datagrams query) s = s ≡ stream_readable query.socket
transport_needs (transports.Stream query) s = stage_needs query.stage s

-- and the time of the next send
unfoldable pub query_needs : Query → ℕ → Type 0
query_needs query s = transport_needs query.transport s ⊎ (s ≡ sleep_source query.timer)

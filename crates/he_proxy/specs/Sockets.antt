-- The sockets that accept clients.
use Rattle.std.specs.Prelude.{⊤, ◌∷◌, IsSomeAnd}
use Rattle.futures.specs.Queued.{AllPollable, set_places}
use Rattle.futures.specs.declared.stream.ext.into_future.StreamFuture.{StreamFuture}
use Rattle.futures.specs.declared.stream.made.select_all.SelectAll.{SelectAll}
use Rattle.tokio.specs.declared.net.listener.Incoming.{Incoming}

-- the socket is there
abbrev pub IsThere : StreamFuture Incoming → Type 0
IsThere m = IsSomeAnd m.stream (λ _. ⊤)

-- each may be polled for a client
abbrev pub MayAccept : SelectAll Incoming → Type 0
MayAccept m = AllPollable IsThere (m.held ∷ set_places m.inner)

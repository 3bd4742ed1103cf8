-- Both ways of a tunnel.
use Rattle.std.specs.Prelude.{◌≡◌, ◌⊎◌, ℕ, List, [], None}
use Rattle.std.specs.declared.io.Error.{Error}
use Rattle.tokio.specs.Io.Moved.{Passes}
use Rattle.he_relay.specs.declared.tunnel.Broke.{Broke}
use Rattle.he_relay.specs.declared.tunnel.Broke.TheVariants as brokes
use Rattle.he_relay.specs.declared.tunnel.Tunnel.{Tunnel}
use Rattle.he_relay.specs.declared.way.Way.{Way}
use Rattle.he_relay.specs.declared.way.WayFault.{WayFault}
use Rattle.he_relay.specs.Ways.{Begins, Breaks, IsOver, Moves}

-- the tunnel is between these two, and holds the client's early data for the server
abbrev pub IsBegun : {A B : Type 0} → A → B → List ℕ → Tunnel A B → Type 0
IsBegun client server early tunnel =
    (tunnel.client ≡ client) × (tunnel.server ≡ server) × Begins early tunnel.there × Begins [] tunnel.back
    × (tunnel.broke ≡ None)

abbrev pub AreOver : {A B : Type 0} → Tunnel A B → Type 0
AreOver tunnel = IsOver tunnel.there × IsOver tunnel.back

-- each way moved, first the one to the server and then the one to the client
pub record MovesBoth {A B : Type 0} (client_reads client_writes : Passes A) (client_ends : A → Type 0) (server_reads server_writes : Passes B) (server_ends : B → Type 0) (old new : Tunnel A B) : Type 0 where
  pub client : A
  pub server : B
  pub there : Moves client_reads server_writes client_ends old.there old.client old.server new.there client server
  pub back : Moves server_reads client_writes server_ends old.back server client new.back new.server new.client

-- a way goes no further: it is over, or its reader or its writer broke
abbrev pub HasEnded : {R W : Type 0} → (R → Error → Type 0) → (W → Error → Type 0) → (W → Type 0) → Way → R → W → Type 0
HasEnded read write is_full way reader writer =
    IsOver way ⊎ ((fault : WayFault) × Breaks read write is_full reader writer fault)

-- all bytes that the broken connection gave were passed on, except those that the other one does not take
abbrev pub HasGivenAll : {A B : Type 0} → (A → Error → Type 0) → (A → Error → Type 0) → (A → Type 0) → (B → Error → Type 0) → (B → Error → Type 0) → (B → Type 0) → Tunnel A B → Broke → Type 0
HasGivenAll client_read client_write client_full server_read server_write server_full tunnel brokes.Client =
    HasEnded client_read server_write server_full tunnel.there tunnel.client tunnel.server
HasGivenAll client_read client_write client_full server_read server_write server_full tunnel brokes.Server =
    HasEnded server_read client_write client_full tunnel.back tunnel.server tunnel.client

-- The bytes that a relay took and put, both ways, and the end that it reports.
use Rattle.std.specs.Prelude.{ℕ, ⊤, ◌≡◌, ◌⊎◌, List, Bool, true, false, Result, Ok, Err}
use Rattle.he_relay.specs.declared.fault.Breakage.{Breakage}
use Rattle.he_relay.specs.declared.fault.PumpFault.{PumpFault}
use Rattle.he_relay.specs.declared.fault.PumpFault.TheVariants as pumps
use Rattle.he_relay.specs.declared.fault.RelayFault.{RelayFault}
use Rattle.he_relay.specs.declared.fault.RelayFault.TheVariants as faults
use Rattle.he_relay.specs.declared.fault.Traffic.{Traffic}
use Rattle.he_relay.specs.declared.fault.Unsent.{Unsent}
use Rattle.he_relay.specs.declared.relaying.Ends.{Ends}
use Rattle.he_relay.specs.Pumps.{Pumps}

-- each way is a pump that ended as reported; if an allocation failed, nothing was taken and nothing put
abbrev pub RelaysBoth : {E : Type 0} → (Result (Unit {0}) PumpFault → Type 0) → (Result (Unit {0}) PumpFault → Type 0)
    → Type 0 → Result Ends E → Type 0
RelaysBoth Sends Receives Kept (Ok ends) = Sends ends.sent × Receives ends.received
RelaysBoth Sends Receives Kept (Err refused) = Kept

-- the connection broke; the result has how it did and the number of bytes that passed over it
abbrev pub IsBroken : Result (Unit {0}) RelayFault → Type 0
IsBroken result = (how : Breakage) × (traffic : Traffic) × (result ≡ Err (faults.Broken how traffic))

-- the connection did not take all bytes of the input, since it broke or the remote had closed it
abbrev pub IsNotSent : Result (Unit {0}) RelayFault → Type 0
IsNotSent result = IsBroken result ⊎ ((unsent : Unsent) × (result ≡ Err (faults.Unsent unsent)))

-- the reported end, from the ends of the way to the connection and of the way from it: a failed way is reported, the
-- way to the output first. A cut input is a fault if it then had more data; and if both ways ended, the connection
-- may break after them, before all sent bytes have reached the remote
abbrev pub IsEnd : Bool → Result (Unit {0}) PumpFault → Result (Unit {0}) PumpFault → Result (Unit {0}) RelayFault
    → Type 0
IsEnd has_more sent (Err pumps.Output) result = result ≡ Err faults.Output
IsEnd has_more sent (Err pumps.Input) result = IsBroken result
IsEnd has_more sent (Err pumps.Cut) result = IsBroken result
IsEnd has_more (Err pumps.Output) (Ok done) result = IsNotSent result
IsEnd has_more (Err pumps.Input) (Ok done) result = result ≡ Err faults.Input
IsEnd true (Err pumps.Cut) (Ok done) result = result ≡ Err faults.Unread
IsEnd false (Err pumps.Cut) (Ok done) result = (result ≡ Ok tt) ⊎ IsBroken result
IsEnd has_more (Ok sent) (Ok done) result = (result ≡ Ok tt) ⊎ IsBroken result

-- some bytes were taken, or put: for a socket no contract can state which
abbrev pub Some : List ℕ → Type 0
Some bytes = ⊤

abbrev pub SomeGiven : List ℕ → Bool → Type 0
SomeGiven bytes is_broken = ⊤

-- the bytes taken from the input, those put into the output, and that the reported end is that of both ways.
-- has_more: the input had data after the end of its way
unfoldable pub RelaysStandard : (List ℕ → Bool → Type 0) → (List ℕ → Type 0) → (List ℕ → Type 0) → (List ℕ → Type 0)
    → Type 0 → Bool → Result (Unit {0}) RelayFault → Type 0
RelaysStandard Gives GivesSoFar Put PutPart Kept has_more result =
    ((result ≡ Err faults.Memory) × Kept)
    ⊎ ((sent : Result (Unit {0}) PumpFault) × (received : Result (Unit {0}) PumpFault)
    × Pumps Gives GivesSoFar Some Some sent × Pumps SomeGiven Some Put PutPart received
    × IsEnd has_more sent received result)

-- the bytes put into the output, by the reported end. Kept: nothing was put
abbrev pub Relays : (List ℕ → Type 0) → (List ℕ → Type 0) → Type 0 → Result (Unit {0}) RelayFault → Type 0
Relays Put PutPart Kept (Ok done) = (bytes : List ℕ) × Put bytes
Relays Put PutPart Kept (Err faults.Input) = (bytes : List ℕ) × Put bytes
Relays Put PutPart Kept (Err (faults.Unsent unsent)) = (bytes : List ℕ) × Put bytes
Relays Put PutPart Kept (Err faults.Unread) = (bytes : List ℕ) × Put bytes
Relays Put PutPart Kept (Err (faults.Broken how traffic)) = (bytes : List ℕ) × Put bytes
Relays Put PutPart Kept (Err faults.Output) = (bytes : List ℕ) × PutPart bytes
Relays Put PutPart Kept (Err faults.Memory) = Kept

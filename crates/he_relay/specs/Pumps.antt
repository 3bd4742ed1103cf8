-- The bytes that a pump took from its input and put into its output.
use Rattle.std.specs.Prelude.{ℕ, Bool, true, false, List, Result, Ok, Err}
use Rattle.he_relay.specs.declared.fault.PumpFault.{PumpFault}
use Rattle.he_relay.specs.declared.fault.PumpFault.TheVariants as faults

-- on `Ok` the input gave some bytes and ended, and the output took these; on `Input` likewise, but the input broke
-- off; on `Cut` it neither ended nor broke off after them; on `Output` the output took a beginning of the bytes that
-- the input gave so far
abbrev pub Pumps : (List ℕ → Bool → Type 0) → (List ℕ → Type 0) → (List ℕ → Type 0) → (List ℕ → Type 0)
    → Result (Unit {0}) PumpFault → Type 0
Pumps Gives GivesSoFar Puts PutsPart (Ok done) = (bytes : List ℕ) × Gives bytes false × Puts bytes
Pumps Gives GivesSoFar Puts PutsPart (Err faults.Input) = (bytes : List ℕ) × Gives bytes true × Puts bytes
Pumps Gives GivesSoFar Puts PutsPart (Err faults.Cut) = (bytes : List ℕ) × GivesSoFar bytes × Puts bytes
Pumps Gives GivesSoFar Puts PutsPart (Err faults.Output) = (bytes : List ℕ) × GivesSoFar bytes × PutsPart bytes

-- Texts that are written if they are made.
use Rattle.std.proofs.Common.{ℕ, List, inl, inr}
use Rattle.std.specs.Prelude.{IfOk, Result, Ok, Err}
use Rattle.std.specs.Global.{Vec}
use Rattle.he_inputs.specs.declared.stream_fault.StreamFault.{StreamFault}
use Rattle.he_stream.specs.declared.stream.OutputStream as outputs
use Rattle.he_command.specs.Objects.{ShowsMade, ShowsSuch}

pub shows_such : {O : Type 0} (output : outputs.Ghosts O) (IsSuch : List ℕ → Type 0) (made : Result (Vec ℕ) StreamFault) (before after : O) (status : ℕ)
    → IfOk made (λ text. IsSuch text.items) → ShowsMade output made before after status
    → ShowsSuch output IsSuch before after status
shows_such output IsSuch (Ok text) before after status is shown = inl (text.items, is, shown)
shows_such output IsSuch (Err fault) before after status is shown = inr shown

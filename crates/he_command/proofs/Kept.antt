-- A record that is kept.
use Rattle.std.proofs.Common.{◌≡◌, ℕ, List, Option, subst}
use Rattle.std.specs.Borrow.{Bor}
use Rattle.he_stream.specs.declared.stream.OutputStream as outputs
use Rattle.he_command.specs.Records.{KeepsRecord}

pub kept_after : {O : Type 0} (IsWritten : List ℕ → Type 0) (output : outputs.Ghosts O) (path : Option (Bor (List ℕ))) (own text : List ℕ) (between before after : O) (status : ℕ)
    → between ≡ before → own ≡ text → KeepsRecord IsWritten output path own between after status
    → KeepsRecord IsWritten output path text before after status
kept_after {O} IsWritten output path own text between before after status kept same keeps =
    subst (λ (o : O). KeepsRecord IsWritten output path text o after status) kept
    (subst (λ (t : List ℕ). KeepsRecord IsWritten output path t between after status) same keeps)

-- A file that was read whole.
use Rattle.std.proofs.Common.{◌≡◌, ℕ, List, Bool, false, subst}
use Rattle.he_stream.specs.declared.stream.InputStream as inputs
use Rattle.he_tasks.specs.Streams.{Gave}
use Rattle.he_command.specs.Files.{WasRead}

pub was_read : {F : Type 0} (file : inputs.Ghosts F) (opened closed : F) (bytes : List ℕ) (is_broken : Bool)
    → is_broken ≡ false → Gave file opened closed bytes is_broken → WasRead file bytes
was_read file opened closed bytes is_broken is gave = record {
  opened = opened;
  closed = closed;
  gave = subst (λ (broken : Bool). Gave file opened closed bytes broken) is gave;
}

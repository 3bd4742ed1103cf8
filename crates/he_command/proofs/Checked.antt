-- The finding of a check, and its line.
use Rattle.std.proofs.Common.{◌≡◌, ◌⊎◌, ℕ, List, inl, inr, refl, subst}
use Rattle.he_names.specs.declared.environment.Environment.{Environment}
use Rattle.he_request.specs.declared.connect.Connection.{Connection}
use Rattle.he_stream.specs.declared.stream.OutputStream as outputs
use Rattle.he_tasks.specs.Streams.{PutsText}
use Rattle.he_tasks.specs.declared.reports.TheConstants.{DONE}
use Rattle.he_command.specs.Checks.{IsFound, IsJudged, ShowsFinding, WasRaced, warn_of}
use Rattle.he_command.specs.declared.check.TheConstants.{UNKNOWN}

pub found : (IsRead IsWritten : List ℕ → Type 0) (environment : Environment) (connection : Connection) (text given : List ℕ) (warn status : ℕ)
    → warn ≡ warn_of connection → given ≡ text → WasRaced IsRead IsWritten environment connection text
    → IsJudged warn given status ⊎ (status ≡ UNKNOWN) → IsFound IsRead IsWritten environment connection status
found IsRead IsWritten environment connection text given warn status limit same raced (inl judged) =
    inr (text, raced, subst (λ (t : List ℕ). IsJudged (warn_of connection) t status) same (subst (λ (w : ℕ). IsJudged w given status) limit judged))
found IsRead IsWritten environment connection text given warn status limit same raced (inr unknown) = inl unknown

-- the output took the whole line
pub shown : {O : Type 0} (output : outputs.Ghosts O) (line : List ℕ) (own put : ℕ) (before after : O) → PutsText output line before after put → put ≡ DONE
    → ShowsFinding output own before after own
shown output line own put before after (inl (done, took)) is = (line, inl (refl, took))
shown output line own put before after (inr (fault, took)) is = cc

use Rattle.std.proofs.Common.{◌∙◌, subst}
use Rattle.std.specs.Prelude.{IfOk, MatchResult}
use Rattle.he_c.specs.Records.{IsNoLine, IsWritten}
use Rattle.he_c.proofs.record_line.record_line.Goals as goal

pub returns : goal.returns
returns c =
    subst (λ text. IfOk c.line_in.result (λ made. MatchResult made (λ line. IsWritten text line.items) (λ _. IsNoLine text)))
    (c.as_slice.ensures.value ∙ c.in_ok-text.ensures) c.line_in.ensures

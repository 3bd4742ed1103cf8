use Rattle.std.proofs.Common.{inl, inr}
use Rattle.he_inputs.proofs.changes.may_change.Goals as goal

pub returns-in_default : goal.returns-in_default
returns-in_default c = (
  λ t. inr (c.may_be_mended.ensures.0 t),
  λ may. elim may [
    | inl unfinished ↦ absurd (c.in_default.not-Unfinished unfinished)
    | inr fault ↦ c.may_be_mended.ensures.1 fault
  ],
)

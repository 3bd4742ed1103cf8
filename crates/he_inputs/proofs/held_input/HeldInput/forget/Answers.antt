use Rattle.std.proofs.Common.{◌≡◌, ◌-◌, ◌≤◌, ◌∙◌, ℕ, List, ap, arith, drop, length, length-take, take}
use Rattle.he_inputs.specs.HeldInputs.{HeldBytes}
use Rattle.he_inputs.proofs.HeldInputLaws.{moved}
use Rattle.he_inputs.proofs.held_input.HeldInput.forget.Goals as goal

pub returns : goal.returns
returns g c =
    let fields = c.self.inside in
    let count : ℕ = c.args.count in
    let same = ap (λ (h : HeldBytes). length h.bytes) c.self.view_is in
    let place : count ≤ fields.filled = let most = c.requires in omega (arith, same, most, length-take {A = ℕ}) in
    let kept : take (fields.filled - count) c.copy_within.new.self.items ≡ drop count (take fields.filled fields.bytes.items) =
    ap (take (fields.filled - count)) c.copy_within.ensures.items ∙ moved fields.bytes.items count fields.filled place c.self.invariant.0 in
    let held : HeldBytes → HeldBytes = λ h. record { bytes = drop count h.bytes; steps = h.steps } in
    let left : HeldBytes = record { bytes = drop count (take fields.filled fields.bytes.items); steps = fields.steps } in
    let here : record { bytes = take (fields.filled - count) c.copy_within.new.self.items; steps = fields.steps } ≡ left = ap (λ (b : List ℕ). record { bytes = b; steps = fields.steps }) kept in
    ◌∙◌ {b = left} here (ap held c.self.view_is)

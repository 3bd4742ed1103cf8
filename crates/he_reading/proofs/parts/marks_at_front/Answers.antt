use Rattle.std.proofs.Common.{ap, ◌∙◌, arith, eqb, take, w8}
use Rattle.std.proofs.lemmas.List.{length-take-le}
use Rattle.std.proofs.lemmas.Simd.{bitmask_splat, ones-mask_l}
use lib.Count.{ones}
use Rattle.he_reading.proofs.parts.marks_at_front.Goals as goal

pub returns : goal.returns
returns c =
    let mark = c.args.mark in
    let front = take 32 c.args.text.now in
    ap ones (bitmask_splat w8 eqb front 32 mark (length-take-le 32 c.args.text.now c.requires) (omega arith)) ∙ ones-mask_l (λ b. eqb b mark) front

use Rattle.std.proofs.Common.{◌≡◌, ◌-◌, drop, get_or, subst, arith, ℕ, suc}
use Rattle.std.proofs.lemmas.Grind.{common_steps}
use Rattle.he_addr.specs.Prepending.{Prepends}
use Rattle.he_addr.specs.Printed.{joined}
use Rattle.he_addr.proofs.HexDigits.{length-hex}
use Rattle.he_addr.proofs.JoinedTexts.{last_group, group_before}
use Rattle.he_addr.proofs.printing.prepend_groups.Goals as goal
use Rattle.he_addr.proofs.printing.prepend_groups.Goals.{then-place-groups, else-place-groups}

pub prepend_group-start-requires : goal.prepend_group-start-requires
prepend_group-start-requires c =
    let place = c.loop-place.place - 1 in
    let four = length-hex (get_or c.args.groups.now place 0) (omega (arith, c.type_inv.groups place)) in
    elim c.if-place-groups.branch [
      | then-place-groups w ↦ grind (arith, common_steps)
      | else-place-groups w ↦ grind (arith, common_steps)
    ]

pub loop-place-preserved : goal.loop-place-preserved
loop-place-preserved c =
    let place = c.loop-place.place - 1 in
    let next : c.loop-place.place ≡ suc (c.loop-place.place - 1) = omega arith in
    let four = length-hex (get_or c.args.groups.now place 0) (omega (arith, c.type_inv.groups place)) in
    let behind : Prepends c.args.buffer.now c.args.end c.loop-place.buffer c.loop-place.start (joined (drop (suc (c.loop-place.place - 1)) c.args.groups.now)) =
    subst (λ (p : ℕ). Prepends c.args.buffer.now c.args.end c.loop-place.buffer c.loop-place.start (joined (drop p c.args.groups.now))) next c.loop-place.invariant.written in
    elim c.if-place-groups.branch [
      | then-place-groups w ↦ record {
        written = group_before c.args.groups.now (c.loop-place.place - 1) (omega arith) behind w.prepend_byte-start.ensures (rw (w.buffer-is, w.start-is) at c.prepend_group-start.ensures);
        near = grind (arith, common_steps);
      }
      | else-place-groups w ↦ record {
        written = last_group c.args.groups.now (c.loop-place.place - 1) (omega arith) behind (rw (w.buffer-is, w.start-is) at c.prepend_group-start.ensures);
        near = grind (arith, common_steps);
      }
    ]

use Rattle.std.proofs.Common.{◌≡◌, ◌+◌, [], ◌∷◌, Some, subst, sym, ◌∙◌, ap, arith}
use Rattle.he_addr.specs.Sides.{IsSide}
use Rattle.he_addr.proofs.SideTexts.{nothing_left, whole_read, short_read, moved_up, both_fit}
use Rattle.he_addr.proofs.groups.read_groups.Goals as goal

pub returns-then-is_empty : goal.returns-then-is_empty
returns-then-is_empty c =
    let side = c.in_ok-front.ensures in
    let empty = nothing_left c.in_ok-front.rest.now (sym c.if-is_empty.ensures) in
    let all : c.in_ok-front.front.count ≡ 8 = omega arith in
    whole_read c.args.text.now c.in_ok-front.front.number
    (subst (λ k. IsSide c.args.text.now [] c.in_ok-front.front.number k) all (subst (λ t. IsSide c.args.text.now t c.in_ok-front.front.number c.in_ok-front.front.count) empty side))

pub overflow_add-front : goal.overflow_add-front
overflow_add-front c = omega (arith, c.in_ok-front.ensures.few, c.in_ok-back.ensures.few)

pub overflow_add-result : goal.overflow_add-result
overflow_add-result c =
    let moved = moved_up c.in_ok-front.front.number c.in_ok-front.front.count c.in_ok-front.ensures.small (omega arith) in
    let fits = both_fit c.in_ok-front.front.number c.in_ok-front.front.count c.in_ok-back.back.number c.in_ok-back.back.count c.in_ok-front.ensures.small c.in_ok-back.ensures.small (omega arith) in
    rw moved (omega (arith, fits))

pub returns : goal.returns
returns c =
    let empty = nothing_left c.in_ok-back.rest.now (sym c.if-not-is_empty.ensures) in
    let back : IsSide c.in_ok-behind_colon-2.field-0.now [] c.in_ok-back.back.number c.in_ok-back.back.count =
    subst (λ t. IsSide c.in_ok-behind_colon-2.field-0.now t c.in_ok-back.back.number c.in_ok-back.back.count) empty c.in_ok-back.ensures in
    let moved = moved_up c.in_ok-front.front.number c.in_ok-front.front.count c.in_ok-front.ensures.small (omega arith) in
    short_read c.args.text.now c.in_ok-front.rest.now c.in_ok-behind_colon-2.field-0.now c.in_ok-front.front.number c.in_ok-front.front.count c.in_ok-back.back.number c.in_ok-back.back.count c.in_ok-front.ensures (c.in_ok-behind_colon.ensures ∙ ap (λ t. 58 ∷ t) c.in_ok-behind_colon-2.ensures) back (omega arith)
    ∙ ap (λ n. Some (n + c.in_ok-back.back.number)) (sym moved)

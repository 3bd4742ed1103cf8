use Rattle.std.proofs.Common.{◌≡◌, ◌%◌, ◌/◌, ◌<◌, ◌++◌, ◌∷◌, [], false, sym, ◌∙◌, ap, arith}
use Rattle.std.specs.Fmt.{digit_glyph}
use Rattle.std.proofs.lemmas.Fmt.{hex_one_digit}
use Rattle.he_addr.specs.Printed.{hex}
use Rattle.he_addr.proofs.HexDigits.{hex_step, length-hex, length-hex_step}
use Rattle.he_addr.proofs.Prepended.{prepends_as, prepends_then}
use Rattle.he_addr.proofs.printing.+prepend_group.Goals as goal

pub prepend_byte-start-requires : goal.prepend_byte-start-requires
prepend_byte-start-requires t c = let some = (length-hex c.args.group (omega arith)).0 in (omega (arith, some), c.requires.1)

pub returns-then-group-lt16 : goal.returns-then-group-lt16
returns-then-group-lt16 t c =
    let one : c.args.group % 16 ≡ c.args.group = omega arith in
    prepends_as (ap (λ b. b ∷ []) (c.digit.ensures ∙ ap (digit_glyph false) one) ∙ sym (hex_one_digit false c.args.group (omega arith))) c.prepend_byte-start.ensures

pub prepend_group-requires : goal.prepend_group-requires
prepend_group-requires t c =
    let shorter = length-hex_step c.args.group (omega arith) (omega arith) in
    (grind arith, (omega (arith, shorter, c.prepend_byte-start.ensures.place), omega (arith, c.prepend_byte-start.ensures.place)))

pub returns : goal.returns
returns t c =
    let small : c.args.group < 65536 = omega arith in
    prepends_as (ap (λ b. hex (c.args.group / 16) ++ b ∷ []) c.digit.ensures ∙ sym (hex_step c.args.group (omega arith) small))
    (prepends_then c.prepend_byte-start.ensures c.prepend_group.ensures)

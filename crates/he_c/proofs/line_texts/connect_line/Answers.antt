use Rattle.std.proofs.Common.{◌++◌, ◌∙◌, ap, decimal}
use Rattle.he_addr.specs.Printing.{printed}
use Rattle.he_c.specs.Addresses.{address_of}
use Rattle.he_c.proofs.LineLaws.{connect_is, five_joined}
use Rattle.he_c.proofs.line_texts.connect_line.Goals as goal

pub returns : goal.returns
returns c =
    five_joined _ _ _ _ _ _ _ _ _ _ _ c.new-line.ensures.items c.in_ok-append.ensures
    (c.in_ok-write_ip.ensures.ok ∙ ap (λ ip. c.append.new.line.items ++ printed ip) c.address_of.ensures)
    (c.in_ok-append-2.ensures ∙ ap (λ mark. c.write_ip.new.out.items ++ mark) c.mark_of.ensures)
    (c.in_ok-write_number.ensures.ok ∙ ap (λ ticks. c.append-2.new.line.items ++ decimal ticks) c.ticks_between.ensures)
    c.in_ok-append-3.ensures
    ∙ connect_is (address_of c.args.start.now.family c.args.start.now.address) c.args.connected c.args.start.now.tick c.args.tick

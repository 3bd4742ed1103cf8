use Rattle.std.proofs.Common.{◌∙◌, arith, sym}
use Rattle.he_c.proofs.RecordLaws.{line_written, no_line_before, no_line_of_fault, no_line_of_more}
use Rattle.he_c.proofs.record_line.line_in.Goals as goal

pub returns-then-end-text : goal.returns-then-end-text
returns-then-end-text c = no_line_before c.args.text.now c.in-Ok.found c.in-Ok.end c.in-Ok.ensures.read c.if-end-text.true

pub returns-then-line_count-ne1 : goal.returns-then-line_count-ne1
returns-then-line_count-ne1 c =
    no_line_of_more c.args.text.now c.in-Ok.found c.in-Ok.end c.in-Ok.ensures.read (λ one. c.if-line_count-ne1.true (c.line_count.ensures ∙ one))

pub returns-in_ok-text_of-in-Ok : goal.returns-in_ok-text_of-in-Ok
returns-in_ok-text_of-in-Ok c =
    line_written c.args.text.now c.in_ok-text_of-in-Ok.field-0.items c.in-Ok.found c.in-Ok.end c.in-Ok.ensures.found c.if-end-text.false
    (sym c.line_count.ensures ∙ c.if-line_count-ne1.false) c.in_ok-text_of-in-Ok.ensures

pub returns-in_ok-kind_of-in-Err : goal.returns-in_ok-kind_of-in-Err
returns-in_ok-kind_of-in-Err c =
    no_line_of_fault c.args.text.now c.in-Err.fault.line c.in-Err.fault.kind c.in_ok-kind_of-in-Err.field-0 c.in-Err.ensures.read
    c.in_ok-kind_of-in-Err.ensures.0 c.in_ok-kind_of-in-Err.ensures.1

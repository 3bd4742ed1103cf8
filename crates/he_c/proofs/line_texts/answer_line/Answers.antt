use Rattle.std.proofs.Common.{◌∙◌, ap, codes, if◌then◌else◌, [], ◌++◌}
use Rattle.he_c.specs.Lines.{word_of}
use Rattle.he_c.proofs.LineLaws.{reply_is, six_joined}
use Rattle.he_c.proofs.line_texts.answer_line.Goals as goal

pub returns : goal.returns
returns c =
    six_joined _ _ _ _ _ _ _ _ _ _ _ _ _ c.new-line.ensures.items
    (c.in_ok-append.ensures ∙ ap (λ word. c.new-line.result.items ++ word) c.word_of.ensures)
    c.in_ok-append-2.ensures c.in_ok-write_number.ensures.ok
    (c.in_ok-append_mark.ensures ∙ ap (λ is. c.write_number.new.out.items ++ (if is then codes " none" else [])) c.is_empty.ensures)
    c.in_ok-append_addresses.ensures c.in_ok-append-3.ensures
    ∙ reply_is (word_of c.args.family) c.args.tick c.args.ips.now

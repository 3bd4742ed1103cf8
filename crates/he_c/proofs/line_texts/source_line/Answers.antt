use Rattle.std.proofs.Common.{◌++◌, ◌∙◌, ap, decimal}
use Rattle.he_select.specs.declared.host.Source.{Source}
use Rattle.he_write.specs.Written.{host_source_text}
use Rattle.he_c.proofs.LineLaws.{six_joined, source_is}
use Rattle.he_c.proofs.line_texts.source_line.Goals as goal

pub returns : goal.returns
returns c =
    six_joined _ _ _ _ _ _ _ _ _ _ _ _ _ c.new-line.ensures.items c.in_ok-append.ensures c.in_ok-write_source.ensures.ok c.in_ok-append-2.ensures
    (c.in_ok-write_number.ensures.ok ∙ ap (λ n. c.append-2.new.line.items ++ decimal n) c.from.ensures) c.in_ok-append_mark.ensures c.in_ok-append-3.ensures
    ∙ source_is c.source_of-source.result (ap (λ (source : Source). source.temporary) c.source_of-source.ensures)
    ∙ ap host_source_text c.source_of-source.ensures

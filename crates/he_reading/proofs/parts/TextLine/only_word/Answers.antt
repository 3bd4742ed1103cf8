use Rattle.std.proofs.Common.{sym, ◌∙◌}
use Rattle.std.proofs.lemmas.Slice.Eq.{bytes_eq-Decides}
use Rattle.he_reading.specs.Left.{line_bytes}
use Rattle.he_reading.proofs.ReadingLaws.{agrees}
use Rattle.he_reading.proofs.WordLines.{word_alone}
use Rattle.he_reading.proofs.parts.TextLine.only_word.Goals as goal

pub returns : goal.returns
returns c =
    word_alone c.args.word (line_bytes c.args.self)
    (sym c.bytes.ensures ∙ (bytes_eq-Decides c.bytes.result.now c.args.spelled.now).0 (agrees _ c.if-ne.ensures) ∙ c.requires)

use Rattle.he_reading.proofs.ReadingLaws.{line_at}
use Rattle.he_reading.proofs.reading.read_first.Goals as goal

pub returns-in-Err-clause-line : goal.returns-in-Err-clause-line
returns-in-Err-clause-line g c =
    line_at c.args.text c.new-lines.result c.read_whole.new.lines c.number-in-Err.result c.in-Err.ensures.count c.new-lines.ensures.rest c.new-lines.ensures.number c.number-in-Err.ensures
